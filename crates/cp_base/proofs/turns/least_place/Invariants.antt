use Rattle.cp_lists.proofs.LeastItems.{LeastSoFar}
use Rattle.cp_base.proofs.turns.least_place.Given as goal

abbrev pub invariant-loop-i : goal.invariant-loop-i
invariant-loop-i l = LeastSoFar l.items l.place l.i
