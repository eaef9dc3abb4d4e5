-- what contracts rest on
pub mod Systems
pub mod Genus
pub mod FirstWrong
pub mod Faults
pub mod Tables
pub mod Rewrites
pub mod Laws
-- examples
pub mod Rows
-- what functions inside promise each other
pub mod Search
pub mod Lists
pub mod RewriteTables
