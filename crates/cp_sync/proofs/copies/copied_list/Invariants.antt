use Rattle.std.proofs.Common.{◌≡◌, take}
use Rattle.cp_sync.proofs.copies.copied_list.Given as goal

abbrev pub invariant-loop-part : goal.invariant-loop-part
invariant-loop-part g l = l.list ≡ take l.part-index l.parts
