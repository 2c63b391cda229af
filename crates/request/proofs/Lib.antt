-- The laws of message 9, its cases, and that each promise has one answer.
pub mod StepLaws
pub mod Theorems
pub mod CasesHold
pub mod Welds
