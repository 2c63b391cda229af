-- That the contracts say what they should.
pub mod HeadLaws
pub mod Welds
