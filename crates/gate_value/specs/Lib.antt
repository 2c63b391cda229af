-- The value of a gate.
pub mod Value
pub mod Told
pub mod Theorems
pub mod Cases
