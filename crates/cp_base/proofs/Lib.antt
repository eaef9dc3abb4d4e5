pub mod Permutations
mod TurnLemmas
pub mod Bits
