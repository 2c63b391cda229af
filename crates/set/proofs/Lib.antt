-- What the functions' proofs cite.
pub mod SegmentLaws
pub mod TurnLaws
pub mod GatherLaws
pub mod ArrayLaws
pub mod SetLaws
pub mod Welds
