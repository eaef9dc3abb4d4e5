-- what contracts rest on
pub mod Driving
-- what functions inside promise each other
pub mod Pasts
pub mod NextSteps
