pub mod Shapes
pub mod Owners
pub mod ShapeReadings
pub mod PartWords
mod NodeLayers
pub mod Words
mod PermutedRows
mod RisingRows
mod Variants
mod Mirrors
mod RowsInOrders
mod TiedParts
mod BitLicences
mod LeafRows
mod ForcedTrees
mod OpenedTrees
mod PlacedOrders
mod FittedNodes
mod SmallOrders
