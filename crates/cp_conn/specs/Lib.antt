-- What contracts rest on, here and above.
pub mod Numbering
pub mod CutVertex
pub mod Removed
pub mod Darts
pub mod Blocks
pub mod Grouping
pub mod SearchTree
pub mod NamedGraphs
pub mod Bonds
-- What functions inside promise each other.
pub mod Search
pub mod Links
pub mod SearchForest
pub mod LowPoints
pub mod TreeLinks
pub mod Deepening
