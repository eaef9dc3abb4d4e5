pub mod Sides
pub mod Merges
pub mod Branches
