pub mod Systems
pub mod Numbers
pub mod Matches
pub mod NamedRests
pub mod BondedPoles
pub mod NamedBlocks
-- examples
mod Rows
