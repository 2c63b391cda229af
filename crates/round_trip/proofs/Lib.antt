-- The proof that a written message comes back.
pub mod FrameBack
pub mod PartLaws
pub mod WalkBack
pub mod SetBack
pub mod Theorems
