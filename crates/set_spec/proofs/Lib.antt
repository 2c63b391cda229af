-- What the crates above cite of sets.
pub mod FrameFacts
pub mod NumberedLaws
pub mod PrefixLaws
pub mod FrameLists
pub mod OrderFree
pub mod Accepted
pub mod OutputApart
pub mod TurnNumbers
pub mod BodyMost
pub mod LoneNumber
pub mod CasesHold
