-- The walk so far leads to the place.
use Rattle.std.proofs.Common.{◌≡◌, ◌<◌, ◌≤◌, List, length, Some, slice_get}
use Rattle.cp_base.specs.declared.equation.Equation.{Equation}
use Rattle.cp_parity.specs.declared.found.Found.{Found}
use Rattle.cp_parity.specs.Search.{IsTree, Leads}
use Rattle.cp_parity.proofs.odd_cycle.climb.Given as goal

abbrev pub invariant-loop-place : goal.invariant-loop-place
invariant-loop-place l = record {
  not_before : l.root ≤ l.place;
  within : l.place < length l.found;
  leads : (eqs : List Equation) (f g : Found) → IsTree eqs l.root l.found
      → slice_get l.found l.fn.from ≡ Some f → slice_get l.found l.place ≡ Some g → Leads eqs f l.walk g;
}

abbrev pub decreases-loop-place : goal.decreases-loop-place
decreases-loop-place l = l.place
