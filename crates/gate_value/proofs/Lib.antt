-- What stands behind the value of a gate.
pub mod FloatLaws
pub mod ValueLaws
pub mod NeverNan
pub mod GateLaws
pub mod CasesHold
pub mod Welds
