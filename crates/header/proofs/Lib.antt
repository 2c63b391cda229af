-- What the crates above cite of headers.
pub mod HeaderLaws
pub mod HeldLaws
pub mod LoneLaws
pub mod Welds
