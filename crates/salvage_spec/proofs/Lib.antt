-- The proofs of specs/Theorems.antt and of specs/Cases.antt.
pub mod CasesHold
pub mod WalkLaws
pub mod NextLaws
pub mod RunLaws
pub mod AccountLaws
pub mod OneAccount
pub mod Undamaged
pub mod InTurn
pub mod Window
pub mod Theorems
