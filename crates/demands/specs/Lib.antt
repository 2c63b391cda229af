-- The demands of the order, stated over the contracts of the compiled functions, and the worked cases of the rules, over the rules.
pub mod Notions
pub mod Orders
pub mod Demand1
pub mod Cases
pub mod Demand3
pub mod Wall
pub mod Demand2
pub mod Face
pub mod FaceOfRadial
pub mod LoneSegment
pub mod LongRadial
pub mod OrderOfArrival
pub mod TwoMaps
pub mod DamagedRecording
pub mod Figures
