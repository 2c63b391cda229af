-- Demand 2: a written message is read back unchanged.
pub mod Theorems
