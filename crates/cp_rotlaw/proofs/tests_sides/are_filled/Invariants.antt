-- The vertices so far have an edge.
use Rattle.std.proofs.Common.{◌≢◌, ℕ, ◌<◌, []}
use Rattle.cp_rot.specs.Systems.{list_of}
use Rattle.cp_rotlaw.proofs.tests_sides.are_filled.Given as goal

abbrev pub invariant-loop-v : goal.invariant-loop-v
invariant-loop-v l = (w : ℕ) → w < l.v → list_of l.a w ≢ []
