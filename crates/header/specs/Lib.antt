-- The message header.
pub mod Header
pub mod Told
pub mod Theorems
pub mod Steps
