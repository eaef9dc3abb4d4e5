-- The first nodes were copied.
use Rattle.std.proofs.Common.{◌≡◌, take}
use Rattle.cp_force.proofs.copying.+copies.Given as goal

abbrev pub invariant-copies_of-loop-node : goal.invariant-copies_of-loop-node
invariant-copies_of-loop-node l = l.copies ≡ take l.node-index l.nodes
