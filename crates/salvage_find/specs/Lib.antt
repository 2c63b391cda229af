-- What a size tells, and what the private functions promise each other where frames are found.
pub mod Told
pub mod Steps
