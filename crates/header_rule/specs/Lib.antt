-- What the values of a header may be.
pub mod Rules
