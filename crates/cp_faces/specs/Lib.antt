pub mod Faces
pub mod Twins
