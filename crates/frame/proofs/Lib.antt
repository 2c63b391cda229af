-- What the crates above cite of frames.
pub mod WalkLaws
pub mod FrontLaws
pub mod Theorems
pub mod Welds
