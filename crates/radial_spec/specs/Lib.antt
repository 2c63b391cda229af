-- The radial: what it says, the rule of refusal, what a lookup answers, demand 3, and the starred cases.
pub mod Description
pub mod Refusal
pub mod Lookups
pub mod Theorems
pub mod Cases
