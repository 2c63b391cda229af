-- Frames written.
pub mod Writing
pub mod Theorems
