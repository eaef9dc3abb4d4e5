use Rattle.std.proofs.Common.{◌≡◌, ◌++◌, reverse, length}
use Rattle.cp_pq.proofs.lists.with_reversed.Given as goal

abbrev pub invariant-loop-item : goal.invariant-loop-item
invariant-loop-item g l = l.fn.items ++ reverse l.fn.more ≡ l.all ++ reverse l.left

abbrev pub decreases-loop-item : goal.decreases-loop-item
decreases-loop-item g l = length l.left
