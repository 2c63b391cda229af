-- What the reader and the lookups hand back, that this is the description, and what the private functions promise each other.
pub mod Told
pub mod Theorems
pub mod Steps
