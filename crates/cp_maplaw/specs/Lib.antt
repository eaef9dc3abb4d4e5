pub mod Systems
pub mod NamedDarts
