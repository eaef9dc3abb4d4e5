-- what contracts rest on
pub mod Sizes
pub mod Judging
