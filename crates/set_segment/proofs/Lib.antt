-- The laws of a frame read as a segment, and that its promise has one answer.
pub mod SegmentLaws
pub mod Welds
