-- The gates of a moment, and the value of a gate, as the structs that C receives.
pub mod Face
pub mod Steps
