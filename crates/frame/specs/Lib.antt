-- The session frame, and the walk over a buffer of frames.
pub mod Session
pub mod Walk
pub mod Told
pub mod Theorems
