-- Facts about the definitions, for callers.
pub mod BoardBlocks
pub mod NumberedBlocks
pub mod DartLists
pub mod EdgeDarts
pub mod MetEquations
pub mod TreePairs
-- What the functions rest on.
mod Lists
mod EdgeRows
mod RowNodes
mod LaterEnds
mod StageSteps
mod TakenTrees
mod StageTrees
mod TakingOrders
mod BipolarTests
mod FirstTrees
mod FirstEdges
mod FirstOrders
mod BuiltTrees
mod UnwoundSteps
mod UnwoundStages
mod UnwoundLists
mod Sides
mod LinkedEdges
mod OwnedTrees
mod BondedOwners
mod EveryOrders
mod OneReading
mod FreeOwners
pub mod TurnedPairs
mod EdgeRuns
mod Cuts
mod MovedVertices
mod ThreeVertices
mod MiddleVertices
mod Steps
mod StepOrders
mod Splits
mod Stages
mod Arrangements
mod FirstStages
mod Sweeps
mod Directions
mod StagePairs
mod DirectedSplits
mod PairSteps
mod FirstPairs
mod VertexLists
mod LastStages
mod RealisedOrders
mod BipolarSweeps
mod Unwinding
mod ReplacedPairs
mod TreeSteps
mod StarPairs
mod Triangle
mod BoardBlockParts
mod BoardBlockCuts
