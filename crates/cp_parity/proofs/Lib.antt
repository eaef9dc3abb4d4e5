pub mod OddCycles
mod LookUps
mod Parity
mod Walks
mod EquationLists
mod SearchSteps
mod Following
