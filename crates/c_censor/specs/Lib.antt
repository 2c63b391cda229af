-- Message 8, as the struct that C receives.
pub mod Face
