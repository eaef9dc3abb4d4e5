-- Facts about the definitions, for callers.
pub mod Biconnected
pub mod Numbered
pub mod Induced
pub mod Samples
-- What the functions rest on.
mod Rooms
mod Places
mod BipolarOrders
