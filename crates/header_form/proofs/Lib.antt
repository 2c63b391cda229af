-- What the crates above cite of headers in both forms.
pub mod WrittenLaws
pub mod Theorems
pub mod LongLaws
