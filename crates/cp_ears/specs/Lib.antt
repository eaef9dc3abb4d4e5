-- What contracts rest on, here and above.
pub mod Bipolar
pub mod Induced
-- What functions inside promise each other.
pub mod Placing
