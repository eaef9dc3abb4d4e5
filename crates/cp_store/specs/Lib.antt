-- what contracts rest on
pub mod Histories
pub mod StepPipes
-- what functions inside promise each other
pub mod Exchanges
pub mod Ranks
pub mod Forests
pub mod Links
pub mod EdgeLinks
pub mod PipeLinks
pub mod Rewriting
pub mod Parts
pub mod Indexes
pub mod BestPipe
-- examples
pub mod WorkedSteps
