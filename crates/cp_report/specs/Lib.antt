-- what contracts rest on
pub mod Texts
pub mod Kinds
pub mod Faults
-- what functions inside promise each other
pub mod Reading
pub mod Rows
