-- The laws of places at which a frame begins, and of the next one.
pub mod MarkLaws
pub mod PlaceLaws
pub mod Welds
