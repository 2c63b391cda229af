-- The laws that the proofs of the functions cite, and that the promise has one answer.
pub mod SheetLaws
pub mod StretchLaws
pub mod TurnLaws
pub mod SameBytes
pub mod EntryLaws
pub mod AzimuthWalk
pub mod Welds
