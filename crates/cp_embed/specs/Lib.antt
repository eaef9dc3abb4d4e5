-- what contracts rest on
pub mod Directions
pub mod Realisations
pub mod Arrangements
pub mod ListedBlocks
pub mod TreePairs
pub mod Pairs
pub mod Embeddings
pub mod Unwound
pub mod Bonds
pub mod EveryOrder
pub mod BoardBlocks
-- what functions inside promise each other
pub mod Steps
pub mod Stages
pub mod Sweeps
pub mod Splits
pub mod VertexOrders
pub mod Levels
pub mod BuiltTrees
pub mod OwnedTrees
pub mod Cuts
pub mod TreeSteps
pub mod BoardCuts
