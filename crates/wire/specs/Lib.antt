-- Bytes and numbers, tables of fields, properties, ordered checks, answers and promises, outputs written: what every rule is written with.
pub mod Properties
pub mod Numbers
pub mod Tables
pub mod Checks
pub mod Answers
pub mod Sizes
pub mod Refusals
pub mod Writing
pub mod Sheets
