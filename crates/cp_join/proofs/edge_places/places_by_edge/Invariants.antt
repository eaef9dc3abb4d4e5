-- The table tells the first place from those that are left on.
use Rattle.std.proofs.Common.{◌≡◌, ◌≤◌, ◌+◌, ℕ, eqb, drop, length}
use Rattle.std.specs.List.{position_or_len}
use Rattle.cp_join.specs.EdgePlaces.{place_in}
use Rattle.cp_join.proofs.edge_places.places_by_edge.Given as goal

abbrev pub invariant-loop-left : goal.invariant-loop-left
invariant-loop-left l = record {
  within : l.left ≤ length l.edges;
  told : (e : ℕ) → place_in l.places (length l.edges) e
      ≡ l.left + position_or_len (λ name. eqb name e) (drop l.left l.edges);
}

abbrev pub decreases-loop-left : goal.decreases-loop-left
decreases-loop-left l = l.left
