pub mod InstanceDarts
pub mod InstanceSystems
pub mod MirroredBonds
