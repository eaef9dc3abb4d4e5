use Rattle.std.proofs.Common.{◌≡◌, ◌++◌, take}
use Rattle.cp_pq.specs.Ties.{tie_equations}
use Rattle.cp_pq.proofs.reducing.tied.Given as goal

abbrev pub invariant-loop-tie : goal.invariant-loop-tie
invariant-loop-tie l = l.all ≡ l.fn.equations ++ tie_equations l.var (take l.tie-index l.tie-items)
