-- The lists so far.
use Rattle.std.proofs.Common.{◌≡◌, take}
use Rattle.cp_embed.proofs.block.copy_of_lists.Given as goal

abbrev pub invariant-loop-list : goal.invariant-loop-list
invariant-loop-list l = l.copies ≡ take l.list-index l.lists
