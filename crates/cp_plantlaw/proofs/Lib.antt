mod MapRows
mod PlantedTrees
pub mod PlantedNames
mod MovedEnds
pub mod PlantedEnds
mod PermutedRows
mod BranchLayers
mod LaidTrees
mod ReadTrees
pub mod ToldTrees
mod PairedTrees
mod EndPartners
mod RowPairs
pub mod FreshNames
pub mod PropagatedRows
pub mod PropagatedEnds
mod PropagatedTrees
mod RowOrders
mod ReadLeaves
mod ApartPipes
mod PropagatedBack
mod PropagatedOn
mod PropagatedSolutions
pub mod ReadWords
pub mod PropagateLaw
mod RestrictedGraphs
pub mod SolvedBlocks
pub mod PropagateSteps
mod PlantedOrder
mod PlantedEdges
mod EdgesOfRows
pub mod PropagatedRules
