-- The two darts of an edge.
pub use Rattle.cp_orbits.specs.Twins.{twin}
