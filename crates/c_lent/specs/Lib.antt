-- Memory that a C caller lends to be written.
pub mod Face
