-- what contracts rest on
pub mod Bytes
pub mod Numbers
pub mod Kinds
pub mod Tokens
pub mod Rows
pub mod Trees
pub mod Equal
pub mod Lists
-- what functions inside promise each other
pub mod Machine
pub mod Moves
pub mod Scans
