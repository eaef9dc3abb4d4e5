pub mod Readings
pub mod NamedTrees
