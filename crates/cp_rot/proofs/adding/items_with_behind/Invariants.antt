use Rattle.std.proofs.Common.{◌≡◌, take}
use Rattle.cp_rot.specs.Rewrites.{with_behind}
use Rattle.cp_rot.proofs.adding.items_with_behind.Given as goal

abbrev pub invariant-loop-x : goal.invariant-loop-x
invariant-loop-x l = l.new.items ≡ with_behind l.a l.b (take l.x-index l.items)
