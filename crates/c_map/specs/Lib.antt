-- Message 15 and the code at a place of it, as the structs that C receives.
pub mod Face
