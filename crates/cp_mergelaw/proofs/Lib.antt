mod UncrossedLists
pub mod MergedLists
pub mod SideMerges
pub mod NextMerges
mod MirroredLists
pub mod MergedSides
pub mod ListClasses
pub mod MergedCopies
mod ClosedBranches
pub mod LinkedPoles
pub mod JoinedBranches
mod Examples
