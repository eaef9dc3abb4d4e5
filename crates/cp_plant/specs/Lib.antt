-- what functions inside promise each other
pub mod Tables
pub mod Growing
pub mod Rewriting
pub mod TreeWords
pub mod PropagateSteps
