-- The theorems of demand 3 with their laws, and the starred cases.
pub mod Runs
pub mod Pieces
pub mod Blocks
pub mod Accepted
pub mod Naming
pub mod Finding
pub mod CasesHold
pub mod Names
pub mod Held
