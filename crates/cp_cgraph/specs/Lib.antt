-- what contracts rest on
pub mod Clustered
pub mod Crossings
pub mod Entries
pub mod Kinds
pub mod Nested
pub mod GraphFaults
pub mod GraphOf
pub mod GraphTexts
-- what functions inside promise each other
pub mod LookUps
pub mod Rows
pub mod Passes
pub mod Parts
