-- Segment sets.
pub mod Segment
pub mod Walk
pub mod Whole
pub mod Theorems
pub mod Cases
