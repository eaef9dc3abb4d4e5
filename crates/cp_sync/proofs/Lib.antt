-- Facts about the definitions, for callers.
pub mod NumberedGraphs
pub mod Places
pub mod Moves
pub mod EqualOrders
pub mod WorkedRows
-- What the functions rest on.
mod VertexTables
mod Greatest
mod NamedRows
mod Passes
mod RuleTables
mod PipeTables
mod KeptRules
mod FreeNames
mod NamedOrder
mod Kept
mod RightPipes
