use Rattle.std.proofs.Common.{◌≡◌, ◌++◌, true, false, replicate}
use Rattle.cp_join.proofs.inner_systems.marks_of.Given as goal

abbrev pub invariant-loop-k : goal.invariant-loop-k
invariant-loop-k l = l.marks.items ≡ replicate l.first true ++ replicate l._k false
