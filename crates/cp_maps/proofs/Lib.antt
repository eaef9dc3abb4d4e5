pub mod Mirrors
pub mod FlatMaps
pub mod FlatUnions
pub mod FlatRotations
pub mod Genus
pub mod ListFacts
pub mod Rings
pub mod MapLists
pub mod NamedLists
pub mod Parts
pub mod NamedParts
mod Swaps
pub mod Edges
pub mod MergedVertices
pub mod ContractedEdges
pub mod EdgesBetween
pub mod Chords
pub mod CutLoops
pub mod ParallelEdges
pub mod Borders
mod Stocks
pub mod Names
pub mod CarriedFaces
pub mod Dipoles
pub mod KeptDarts
pub mod PlantedTrees
pub mod Subsystems
pub mod DividedMaps
pub mod Copies
pub mod FewerDarts
pub mod CrossedVertices
pub mod GluedVertices
pub mod CollapsedVertices
pub mod CollapsedClasses
pub mod Growth
pub mod CrossedParts
pub mod GenusByBlocks
pub mod BondedVertices
pub mod AssembledVertices
pub mod AssembledLists
mod Examples
mod NestedBorders
