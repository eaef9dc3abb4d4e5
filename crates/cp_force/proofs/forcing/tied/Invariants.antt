use Rattle.std.proofs.Common.{◌≡◌, ◌++◌}
use Rattle.cp_pq.specs.Ties.{tie_equations}
use Rattle.cp_force.proofs.forcing.tied.Given as goal

abbrev pub invariant-loop-x : goal.invariant-loop-x
invariant-loop-x l = l.all ≡ l.fn.equations ++ tie_equations l.var l.yielded
