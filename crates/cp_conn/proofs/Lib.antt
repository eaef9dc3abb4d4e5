-- Facts about the definitions, for callers.
pub mod DartChains
pub mod EdgeEnds
pub mod CutVertices
pub mod Removed
pub mod NumberedClasses
pub mod Paths
pub mod OneBlock
pub mod BlockSteps
pub mod BlockClasses
pub mod CutBlocks
pub mod BlockLabels
pub mod BlockPaths
pub mod BlockParts
pub mod NamedGraphs
pub mod Bonds
pub mod EqualBonds
pub mod BlockBonds
pub mod Grouping
pub mod DistinctSubsets
-- What the functions rest on.
mod Searching
mod Classes
mod Neighbours
mod BlocksAt
mod BlockNumbers
mod Forests
mod TreeLinks
mod Deepening
mod LowPoints
mod SearchTrees
mod Samples
