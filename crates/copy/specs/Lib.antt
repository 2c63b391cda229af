-- What a copy leaves.
pub mod Copying
