-- What the answer of a salvage tells, and what the private functions promise each other.
pub mod Told
pub mod Steps
