-- The proofs of specs/Theorems.antt and of specs/Cases.antt.
pub mod FieldLaws
pub mod CheckFacts
pub mod ZoneLaws
pub mod Accepted
pub mod Rendered
pub mod Coverage
pub mod Theorems
pub mod Places
pub mod ZoneWalk
pub mod CasesHold
pub mod PartLaws
