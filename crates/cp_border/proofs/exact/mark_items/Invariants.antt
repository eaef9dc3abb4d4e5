use Rattle.cp_lists.proofs.ExactLists.{SoFar}
use Rattle.cp_border.proofs.exact.mark_items.Given as goal

abbrev pub invariant-loop-i : goal.invariant-loop-i
invariant-loop-i g l = SoFar (g.T.Wanted.bound l.t) (g.T.Wanted.wanted l.t) l.items l.i l.fn.seen l.seen
