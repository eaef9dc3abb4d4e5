-- what contracts rest on
pub mod Texts
pub mod Traces
pub mod Faults
-- what functions inside promise each other
pub mod Parts
pub mod Reading
pub mod Bodies
pub mod StepWords
-- examples
pub mod Rows
