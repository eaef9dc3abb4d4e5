use Rattle.cp_base.proofs.Permutations.{RightSoFar}
use Rattle.cp_base.proofs.perm.first_wrong.Given as goal

abbrev pub invariant-loop-i : goal.invariant-loop-i
invariant-loop-i l = RightSoFar l.to l.i l.seen.items
