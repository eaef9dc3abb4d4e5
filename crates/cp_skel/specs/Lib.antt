-- what the theorem and contracts rest on
pub mod SkeletonLists
pub mod Skeletons
pub mod VertexLists
pub mod SolutionLayouts
pub mod SkeletonTables
-- what the proofs rest on
pub mod OpenedBorders
pub mod LoopLists
pub mod SegmentLevels
pub mod BorderPlaces
-- examples
pub mod Rows
