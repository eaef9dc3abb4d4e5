-- what contracts rest on
pub mod Nodes
pub mod Bits
pub mod Readings
pub mod Trees
pub mod Orders
pub mod Owners
pub mod Promises
pub mod Frames
pub mod Holes
-- what functions inside promise each other
pub mod Words
pub mod Keeping
pub mod Changes
pub mod Founds
pub mod Cuts
pub mod Steps
pub mod Marks
pub mod Grants
pub mod Roots
pub mod Ties
pub mod SmallTrees
