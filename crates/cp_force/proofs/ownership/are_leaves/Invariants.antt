-- The first nodes are leaves.
use Rattle.std.proofs.Common.{◌≡◌, true, take}
use Rattle.std.specs.List.{list_all}
use Rattle.cp_force.specs.Owners.{is_leaf}
use Rattle.cp_force.proofs.ownership.are_leaves.Given as goal

abbrev pub invariant-loop-node : goal.invariant-loop-node
invariant-loop-node l = list_all is_leaf (take l.node-index l.nodes) ≡ true
