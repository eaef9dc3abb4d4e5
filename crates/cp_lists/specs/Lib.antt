pub mod Count
pub mod CyclicLists
pub mod Turns
pub mod Rows
pub mod Crossings
