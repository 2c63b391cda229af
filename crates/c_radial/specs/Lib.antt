-- Radials and their blocks, as the structs that C receives.
pub mod Face
pub mod Steps
