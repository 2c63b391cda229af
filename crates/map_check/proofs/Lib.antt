-- The laws of zones that rise, and of checked parts one after the other.
pub mod RisingLaws
pub mod StepLaws
pub mod Welds
