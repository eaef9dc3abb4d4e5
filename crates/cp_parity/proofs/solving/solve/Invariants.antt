-- The vars below the next one were found.
use Rattle.std.proofs.Common.{◌≡◌, ℕ, ◌<◌, length}
use Rattle.cp_parity.specs.Search.{ArePlaced, AreAllDone, IsFound}
use Rattle.cp_parity.proofs.solving.solve.Given as goal

abbrev pub invariant-loop-var : goal.invariant-loop-var
invariant-loop-var l = record {
  size : length l.search.places.items ≡ l.vars;
  placed : ArePlaced l.search.found.items l.search.places.items;
  done : AreAllDone l.eqs l.search.found.items;
  lower : (x : ℕ) → x < l.var → IsFound l.search.found.items x;
}
