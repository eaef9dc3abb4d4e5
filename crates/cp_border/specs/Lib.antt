-- what contracts rest on
pub mod Borders
pub mod Good
pub mod Fault
pub mod Lines
pub mod Tables
pub mod Views
-- what functions inside promise each other, and rows on which the definitions are tried
pub mod ArrangedFacts
pub mod Rows
