-- What the crates above cite of lent memory.
pub mod LentLaws
pub mod Welds
