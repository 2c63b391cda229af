-- The laws of message 8, its cases, and that each promise has one answer.
pub mod Halfwords
pub mod StepLaws
pub mod Theorems
pub mod CasesHold
pub mod Welds
