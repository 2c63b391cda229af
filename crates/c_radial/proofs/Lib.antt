-- That the contracts say what they should.
pub mod Welds
