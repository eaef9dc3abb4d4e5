pub mod Connected
pub mod Orbits
pub mod Classes
pub mod Twins
