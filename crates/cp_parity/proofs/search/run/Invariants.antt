-- The equations of the first vars were followed.
use Rattle.std.proofs.Common.{◌-◌, ◌≤◌, length}
use Rattle.cp_parity.specs.Search.{GoesOn, AreDone}
use Rattle.cp_parity.proofs.search.run.Given as goal

abbrev pub invariant-loop-done : goal.invariant-loop-done
invariant-loop-done l = record {
  not_before : l.root ≤ l.done;
  within : l.done ≤ length l.search.found.items;
  goes_on : GoesOn l.eqs l.root l.fn.search.found.items l.fn.search.places.items l.search.found.items
      l.search.places.items;
  are_done : AreDone l.eqs l.root l.search.found.items l.done;
}

abbrev pub decreases-loop-done : goal.decreases-loop-done
decreases-loop-done l = length l.fn.search.places.items - l.done
