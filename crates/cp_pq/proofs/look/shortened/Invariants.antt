use Rattle.std.proofs.Common.{◌≡◌, take, length}
use Rattle.cp_pq.proofs.look.shortened.Given as goal

abbrev pub invariant-loop-left : goal.invariant-loop-left
invariant-loop-left l = take l.count l.fn.marks ≡ take l.count l.left

abbrev pub decreases-loop-left : goal.decreases-loop-left
decreases-loop-left l = length l.left
