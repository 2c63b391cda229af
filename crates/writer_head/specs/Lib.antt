-- What stands before a written segment's data.
pub mod Head
pub mod Steps
