-- Facts about the definitions, for callers.
pub mod NamedLists
pub mod NewNames
pub mod NumberOfNewNames
pub mod Rules
pub mod FirstBroken
pub mod EdgesOfVertices
pub mod DroppedPipes
pub mod ShapeEquations
pub mod PlantedRows
pub mod ListTests
pub mod KeptRules
pub mod SolutionTests
pub mod WorkedRun
-- Examples.
mod WheelShape
mod BrokenRules
mod CrossingBlocks
mod CutTests
mod PolesOfBonds
mod RuleTests
mod Wheel
mod WorkedRewrites
