use Rattle.std.proofs.Common.{take}
use Rattle.cp_pq.specs.Marks.{IsLooked}
use Rattle.cp_pq.proofs.look.+looks.Given as goal

abbrev pub invariant-look_row-loop-kid : goal.invariant-look_row-loop-kid
invariant-look_row-loop-kid l = IsLooked l.set (take l.kid-index l.kids) l.fn.marks l.seen l.sum
