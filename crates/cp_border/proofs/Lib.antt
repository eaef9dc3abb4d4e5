-- facts about the border graph and arranged layouts, for callers
pub mod Numbering
pub mod Cyclic
pub mod Darts
pub mod Arrangements
pub mod Rotation
pub mod RotationLaw
pub mod BorderLists
pub mod PlainLaw
-- what the proofs of this crate alone rest on
mod Pieces
mod Occurrences
mod TablesLaw
mod ListLaws
mod TurnLaws
mod ViewLaws
