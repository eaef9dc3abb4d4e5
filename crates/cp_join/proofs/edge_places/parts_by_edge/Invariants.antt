-- The table tells the first part from those that are left on.
use Rattle.std.proofs.Common.{◌≡◌, ◌≤◌, ◌+◌, ℕ, drop, length}
use Rattle.std.specs.List.{position_or_len}
use Rattle.cp_board.specs.Names.{has}
use Rattle.cp_join.specs.EdgePlaces.{place_in}
use Rattle.cp_join.proofs.edge_places.parts_by_edge.Given as goal

abbrev pub invariant-loop-left : goal.invariant-loop-left
invariant-loop-left l = record {
  within : l.left ≤ length l.lists;
  told : (e : ℕ) → place_in l.places (length l.lists) e
      ≡ l.left + position_or_len (λ part. has part e) (drop l.left l.lists);
}

abbrev pub decreases-loop-left : goal.decreases-loop-left
decreases-loop-left l = l.left
