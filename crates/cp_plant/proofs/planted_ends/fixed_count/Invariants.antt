-- The Q-nodes so far are counted.
use Rattle.std.proofs.Common.{◌≡◌, ◌≤◌, length, take}
use Rattle.cp_board.specs.Plantings.{fixed_nodes}
use Rattle.cp_plant.proofs.planted_ends.fixed_count.Given as goal

abbrev pub invariant-loop-k : goal.invariant-loop-k
invariant-loop-k l = (l.count ≡ length (fixed_nodes (take l.k l.rows))) × (l.count ≤ l.k)
