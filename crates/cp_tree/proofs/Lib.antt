-- What the functions rest on.
mod RisingLists
mod NamedSystems
mod RoundEdges
mod DartsOfEdges
mod BlockRotations
mod RotationsOfBlocks
mod BlockOrders
mod OwnBlocks
mod BranchLayers
mod RenamedShapes
mod TreeShapes
mod NamedBonds
mod EndOrders
mod NamedEnds
mod CutTrees
mod NumberedEdges
