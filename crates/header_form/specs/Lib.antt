-- The two forms of a message header.
pub mod Theorems
