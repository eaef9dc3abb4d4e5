-- The first nodes have their shapes.
use Rattle.std.proofs.Common.{◌≡◌, map, take}
use Rattle.cp_force.specs.Shapes.{branch_of}
use Rattle.cp_force.proofs.shaping.+shapes.Given as goal

abbrev pub invariant-branches_of-loop-node : goal.invariant-branches_of-loop-node
invariant-branches_of-loop-node l = l.branches ≡ map branch_of (take l.node-index l.nodes)
