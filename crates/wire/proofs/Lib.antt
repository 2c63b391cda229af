-- The laws that every crate above cites.
pub mod ListLaws
pub mod NumberLaws
pub mod TableLaws
pub mod FiniteLaws
pub mod EachLaws
pub mod CheckLaws
pub mod TestLaws
pub mod AnswerLaws
pub mod OnwardLaws
pub mod RefusalLaws
pub mod ExitLaws
pub mod WriteLaws
pub mod SheetLaws
pub mod FloatLaws
pub mod Welds
