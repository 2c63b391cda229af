-- What the answer of a segment tells.
pub mod Told
