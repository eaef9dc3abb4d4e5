use Rattle.std.proofs.Common.{length}
use Rattle.cp_lists.proofs.ExactLists.{SoFar}
use Rattle.cp_rot.specs.Tables.{stands_at}
use Rattle.cp_rot.proofs.wrong.is_arrangement.Given as goal

abbrev pub invariant-loop-d : goal.invariant-loop-d
invariant-loop-d l = SoFar (length l.at) (stands_at l.at l.v) l.items l.d-index l.fn.seen l.seen
