-- What a copy leaves by the two lengths, what it comes to block by block, and that the contract says it.
pub mod CopyLaws
pub mod Welds
