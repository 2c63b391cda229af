-- A salvage, as the struct that C receives and the two outputs that it lends.
pub mod Face
