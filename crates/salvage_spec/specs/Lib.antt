-- A damaged recording: the walk over it, what comes of a salvage, what an account of it has to be, theorems of these, and cases.
pub mod Walk
pub mod Salvage
pub mod Account
pub mod Theorems
pub mod Cases
