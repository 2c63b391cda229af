-- What the heading of a radial hands back.
pub mod Told
