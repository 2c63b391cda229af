-- Message 9, as the struct that C receives.
pub mod Face
