-- what functions inside promise each other
pub mod EdgePlaces
pub mod Partings
pub mod Joining
pub mod InnerSystems
pub mod JoinSteps
