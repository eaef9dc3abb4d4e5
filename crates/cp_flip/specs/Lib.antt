-- what contracts rest on
pub mod FreeFaults
pub mod Faults
-- what functions inside promise each other
pub mod TakingTurns
pub mod DirectedBlocks
pub mod DirectedRotations
pub mod BlockTrees
pub mod CellEquations
pub mod GluedLists
