-- The laws between what is read of an accepted body and the rule.
pub mod StepLaws
pub mod PartLaws
pub mod HeadLaws
pub mod HandedLaws
pub mod FindLaws
pub mod BlockLaws
pub mod CodeLaws
pub mod Welds
