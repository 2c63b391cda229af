-- The laws between the code of the check and the rule.
pub mod StepLaws
pub mod BitLaws
pub mod PartLaws
pub mod ChainLaws
pub mod LoopLaws
pub mod WholeLaws
pub mod Welds
