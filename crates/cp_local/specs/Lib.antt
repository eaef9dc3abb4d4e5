-- what contracts rest on
pub mod LocalGraphs
-- what functions inside promise each other
pub mod Searching
