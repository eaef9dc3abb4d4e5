use Rattle.cp_rot.specs.RewriteTables.{IsAbsentBefore}
use Rattle.cp_rot.proofs.merging.place.Given as goal

abbrev pub invariant-loop-i : goal.invariant-loop-i
invariant-loop-i l = IsAbsentBefore l.items l.d l.i
