-- Laws of the rules that the code and the crates above cite.
pub mod RuleLaws
pub mod Welds
