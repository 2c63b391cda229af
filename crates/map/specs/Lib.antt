-- What the answers about a map tell, and what the private functions promise each other.
pub mod Told
pub mod Steps
