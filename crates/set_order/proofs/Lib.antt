-- What the crates above cite of a set's frames in any order.
pub mod Rearrangement
pub mod AnyOrder
pub mod Exempt
pub mod CasesHold
