-- The proofs of specs/Theorems.antt and of specs/Cases.antt.
pub mod CasesHold
pub mod Lists
pub mod OneList
pub mod Runs
pub mod Maps
pub mod Begins
pub mod Most
pub mod Ranges
pub mod InTurn
pub mod Theorems
