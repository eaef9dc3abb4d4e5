-- what contracts rest on
pub mod EndTrees
-- what functions inside promise each other
pub mod CutBlocks
pub mod Naming
pub mod NamedTrees
