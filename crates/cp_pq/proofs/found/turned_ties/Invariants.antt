use Rattle.std.proofs.Common.{◌≡◌, take}
use Rattle.cp_pq.specs.Founds.{turn_ties}
use Rattle.cp_pq.proofs.found.turned_ties.Given as goal

abbrev pub invariant-loop-tie : goal.invariant-loop-tie
invariant-loop-tie l = l.turned ≡ turn_ties (take l.tie-index l.tie-items)
