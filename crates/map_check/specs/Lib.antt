-- What a checked part of a map tells, and what the private functions promise each other.
pub mod Told
pub mod Steps
