-- what contracts rest on
pub mod Shapes
pub mod Owners
-- what functions inside promise each other
pub mod Words
pub mod Fits
pub mod Forced
pub mod SmallOrders
