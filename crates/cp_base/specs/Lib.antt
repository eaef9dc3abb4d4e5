pub mod Graphs
pub mod Permutations
pub mod formers
pub mod Shapes
pub mod Bits
