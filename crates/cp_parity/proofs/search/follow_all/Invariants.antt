-- The first equations were followed.
use Rattle.std.proofs.Common.{◌≡◌, ℕ, ◌<◌, Some, slice_get, get_or}
use Rattle.cp_base.specs.declared.equation.Equation.{Equation}
use Rattle.cp_parity.specs.Search.{GoesOn, IsSettled}
use Rattle.cp_parity.proofs.search.follow_all.Given as goal

abbrev pub invariant-loop-link : goal.invariant-loop-link
invariant-loop-link l = record {
  goes_on : GoesOn l.eqs l.root l.fn.search.found.items l.fn.search.places.items l.search.found.items
      l.search.places.items;
  settled : (j : ℕ) (e : Equation) → j < l.link-index → slice_get l.eqs (get_or l.links j 0) ≡ Some e
      → IsSettled l.root l.search.found.items e;
}
