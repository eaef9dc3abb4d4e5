use Rattle.std.proofs.Common.{◌≡◌, ◌++◌, take}
use Rattle.cp_board.specs.Plantings.{tree_edges}
use Rattle.cp_plant.proofs.rewriting.push_tree_edges.Given as goal

abbrev pub invariant-loop-edge : goal.invariant-loop-edge
invariant-loop-edge l = l.added ≡ l.initial.added ++ tree_edges l.rows (take l.edge-index l.edges)
