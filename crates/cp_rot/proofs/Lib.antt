-- facts about the definitions, for callers
pub mod Rotations
pub mod Functions
pub mod Euler
pub mod ListEdits
pub mod ListSystems
pub mod NextTables
pub mod RewriteCode
pub mod Searches
pub mod WrongLists
pub mod DeletedEdges
pub mod MergedVertices
pub mod Inserted
pub mod ExpandedVertices
pub mod LawCounts
-- the proofs of this crate
mod Found
mod Walks
mod MergedLists
mod InsertCode
