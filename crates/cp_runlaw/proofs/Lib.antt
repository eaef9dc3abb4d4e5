pub mod Powers
pub mod Weights
pub mod PartWeights
pub mod PlantedWeights
pub mod FoundPipes
pub mod Potentials
pub mod RunLemmas
pub mod Poles
mod WorkedPotentials
