-- The comparison of two messages 15, as the struct that C receives.
pub mod Face
