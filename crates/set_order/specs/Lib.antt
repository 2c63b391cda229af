-- A set's frames in any order.
pub mod Theorems
pub mod Cases
