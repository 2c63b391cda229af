-- Bodies by a table of ranges, and counted parts.
pub mod Forms
pub mod Parts
