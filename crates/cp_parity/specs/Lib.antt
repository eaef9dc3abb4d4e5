pub mod Equations
-- What the functions inside promise each other.
pub mod EquationLists
pub mod Search
