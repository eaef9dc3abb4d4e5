pub mod Faces
pub mod Merges
pub mod Renaming
pub mod Parts
pub mod ListRotations
pub mod Rewrites
pub mod Insertions
mod Rows
pub mod Twins
