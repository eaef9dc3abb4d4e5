-- The edges of the darts so far have exactly one end in the side.
use Rattle.std.proofs.Common.{◌≡◌, ℕ, ◌<◌, not}
use Rattle.cp_orbits.specs.Twins.{twin}
use Rattle.cp_rot.specs.Systems.{vertex_of}
use Rattle.cp_rotlaw.specs.SideOrders.{in_side}
use Rattle.cp_rotlaw.proofs.tests_sides.cross.Given as goal

abbrev pub invariant-loop-d : goal.invariant-loop-d
invariant-loop-d l = (f : ℕ) → f < l.d → in_side l.side (vertex_of l.a (twin f)) ≡ not (in_side l.side (vertex_of l.a f))
