-- None of the edges so far joins the two.
use Rattle.std.proofs.Common.{ℕ, ◌<◌, slice_index_or}
use Rattle.cp_orbits.specs.Connected.{Joins}
use Rattle.cp_conn.proofs.rooted_search.edge_between.Given as goal

abbrev pub invariant-loop-edge : goal.invariant-loop-edge
invariant-loop-edge l = (e : ℕ) → e < l.edge → Joins (slice_index_or l.ends e (0, 0)) l.x l.y → ⊥
