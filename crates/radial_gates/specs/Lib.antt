-- What is promised where gates are handed over, and what the private functions promise each other.
pub mod Told
pub mod Steps
