-- The first branches have their names.
use Rattle.std.proofs.Common.{◌≡◌, map, slice_index, take}
use Rattle.cp_tree.specs.Naming.{renamed}
use Rattle.cp_tree.proofs.naming.+naming.Given as goal

abbrev pub invariant-named_branches-loop-branch : goal.invariant-named_branches-loop-branch
invariant-named_branches-loop-branch l = l.named ≡ map (renamed (slice_index l.names)) (take l.branch-index l.row)
