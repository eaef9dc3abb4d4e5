pub mod Names
pub mod Rotations
pub mod Instances
pub mod Solutions
pub mod Plantings
pub mod Blocks
pub mod Steps
pub mod Changes
pub mod Joins
pub mod Propagations
pub mod Effects
pub mod Runs
pub mod Reasons
pub mod Rewrites
pub mod Reductions
pub mod Faults
-- examples
pub mod Rows
