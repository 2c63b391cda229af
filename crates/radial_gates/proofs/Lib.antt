-- The laws between the code that hands gates over and the rule.
pub mod GatesLaws
pub mod Welds
