pub mod ClassLabels
pub mod OrbitLaws
pub mod Exchanges
pub mod ListOrbits
pub mod CycleLengths
pub mod Twins
