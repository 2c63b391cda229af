-- What the functions' proofs cite.
pub mod StepLaws
pub mod BodyLaws
pub mod QueryLaws
pub mod Welds
