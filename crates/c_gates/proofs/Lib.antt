-- A name as one number, and that the contracts say what they should.
pub mod GatesLaws
pub mod Welds
