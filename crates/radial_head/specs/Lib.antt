-- What is read of a moment's head.
pub mod Told
