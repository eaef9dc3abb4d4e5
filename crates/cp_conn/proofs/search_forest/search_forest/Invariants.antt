-- The search rests; the vertices below the next one were met.
use Rattle.std.proofs.Common.{◌≡◌, ℕ, ◌<◌, get_or, length}
use Rattle.cp_conn.specs.SearchForest.{forest_of}
use Rattle.cp_conn.specs.Deepening.{Rests}
use Rattle.cp_conn.proofs.search_forest.search_forest.Given as goal

abbrev pub invariant-loop-vertex : goal.invariant-loop-vertex
invariant-loop-vertex l = record {
  size : length l.next.items ≡ l.vertices;
  rests : Rests l.ends l.vertices (forest_of l.forest) l.next.items;
  lower_met : (x : ℕ) → x < l.vertex → get_or l.forest.number.items x 0 < l.vertices;
}
