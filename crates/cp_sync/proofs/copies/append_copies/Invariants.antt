use Rattle.std.proofs.Common.{◌≡◌, ◌++◌, take}
use Rattle.cp_sync.proofs.copies.append_copies.Given as goal

abbrev pub invariant-loop-part : goal.invariant-loop-part
invariant-loop-part g l = l.to.items ≡ l.initial.to.items ++ take l.part-index l.parts
