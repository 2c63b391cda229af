-- What the crates above cite of written frames.
pub mod CutLaws
pub mod FrameLaws
pub mod LoopLaws
pub mod EntryLaws
pub mod Theorems
pub mod Welds
