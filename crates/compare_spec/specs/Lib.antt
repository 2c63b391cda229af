-- Two filter maps compared: what differs between them, what a list of differences has to be, how two bodies are refused or compared,
-- theorems of these, and cases.
pub mod Differences
pub mod Compared
pub mod Comparing
pub mod Theorems
pub mod Cases
