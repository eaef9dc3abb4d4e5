-- The frames up to a place are left to take back.
use Rattle.cp_embed.proofs.UnwoundLists.{IsUnwoundTo}
use Rattle.cp_embed.proofs.taking_back.unwind.Given as goal

abbrev pub invariant-loop-left : goal.invariant-loop-left
invariant-loop-left g l = IsUnwoundTo l.m.block l.m.vertex l.first l.frames l.m.tree l.bits l.order l.root l.lists.items l.left
    l.word.items

abbrev pub decreases-loop-left : goal.decreases-loop-left
decreases-loop-left g l = l.left
