-- what contracts rest on
pub mod Faults
pub mod Numbering
-- what functions inside promise each other
pub mod Places
pub mod Tables
pub mod Checks
pub mod FreeNames
pub mod Rewriting
-- examples
pub mod WorkedRows
