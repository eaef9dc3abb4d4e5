-- what contracts rest on
pub mod Ends
pub mod Texts
pub mod Answer
pub mod YesLayouts
pub mod Run
-- what functions inside promise each other
pub mod Verdicts
