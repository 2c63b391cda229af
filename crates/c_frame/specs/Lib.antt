-- Frames and message headers, as the structs that C receives.
pub mod Face
