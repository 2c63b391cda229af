-- A set, as the struct that C receives.
pub mod Face
