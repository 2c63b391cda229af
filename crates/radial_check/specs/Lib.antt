-- What the private functions of the check promise each other.
pub mod Steps
