-- Facts about the definitions, for callers.
pub mod ClosedParts
-- What the functions rest on.
mod RisingNames
mod Searches
