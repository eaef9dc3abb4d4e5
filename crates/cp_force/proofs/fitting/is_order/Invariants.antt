use Rattle.std.proofs.Common.{◌≡◌, ◌++◌, take}
use Rattle.cp_force.proofs.fitting.is_order.Given as goal

abbrev pub invariant-loop-leaf : goal.invariant-loop-leaf
invariant-loop-leaf l = l.fn.word ≡ take l.leaf-index l.order ++ l.left
