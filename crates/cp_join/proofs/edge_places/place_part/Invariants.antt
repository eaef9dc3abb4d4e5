use Rattle.std.proofs.Common.{◌≡◌, ℕ, cond, take}
use Rattle.cp_board.specs.Names.{has}
use Rattle.cp_join.specs.EdgePlaces.{place_in}
use Rattle.cp_join.proofs.edge_places.place_part.Given as goal

abbrev pub invariant-loop-edge : goal.invariant-loop-edge
invariant-loop-edge l = (none : ℕ) (e : ℕ)
    → place_in l.places none e ≡ cond (has (take l.edge-index l.part) e) l.place (place_in l.initial.places none e)
