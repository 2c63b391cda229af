-- The first bytes of a block, cut from the body, and the welds.
pub mod PartLaws
pub mod Welds
