-- facts about readings, stars, permutations of leaves and trees with a hole, for callers
pub mod NodeLayers
pub mod ReadingLaws
pub mod PermutedLists
pub mod Stars
pub mod Holes
pub mod NodeTests
pub mod Results
pub mod FilledRows
pub mod Permutations
pub mod GivenBits
pub mod Mirrors
-- the proofs of this crate
mod WordLaws
mod Rows
mod Lines
mod Tops
mod NodesIn
mod FittingSides
mod KeepingLaws
mod Groups
mod Closes
mod Zips
mod ClosedQ
mod SortedKids
mod Counts
mod FrameLaws
mod GatherLaws
mod MarkLaws
mod NodeCounts
mod GatheredRows
mod Runs
mod TopP
mod Cores
mod RootLaws
mod FilledChanges
mod ConsecutiveWords
mod NodeReadings
mod Reductions
mod LeafSets
mod ReducedTrees
mod SetInTrees
mod SearchedSets
mod SmallStars
mod DeepTrees
mod SwappedOwners
mod AlwaysTogether
mod Cuts
mod RisingLists
mod TakenParts
mod SomeReadings
mod Replacements
