-- The laws that the proofs of `salvage`'s functions cite.
pub mod LayLaws
pub mod PlaceLaws
pub mod GoingLaws
pub mod RoomLaws
pub mod Welds
