-- What is appended and what is left.
use Rattle.std.proofs.Common.{◌≡◌, ◌++◌, reverse, length}
use Rattle.cp_parity.proofs.odd_cycle.append_reversed.Given as goal

abbrev pub invariant-loop-item : goal.invariant-loop-item
invariant-loop-item l = l.items ++ reverse l.others ≡ l.fn.items ++ reverse l.fn.others

abbrev pub decreases-loop-item : goal.decreases-loop-item
decreases-loop-item l = length l.others
