-- Message 15, the clutter filter map: what a map is and means, how a body is refused or read, where azimuths stand in it, theorems of
-- these, and cases.
pub mod Map
pub mod Reading
pub mod Places
pub mod Theorems
pub mod Cases
