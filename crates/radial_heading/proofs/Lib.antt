-- The laws of the header, and that its promise has one answer.
pub mod HeadingLaws
pub mod Welds
