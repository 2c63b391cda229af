-- What holds of every such table, and of every run of parts.
pub mod FormLaws
pub mod PartLaws
