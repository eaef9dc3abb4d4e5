use Rattle.std.proofs.Common.{◌≡◌, map, take}
use Rattle.cp_board.specs.Instances.{graph}
use Rattle.cp_board.specs.Rotations.{dart}
use Rattle.cp_poles.proofs.reordered.darts_of_edges.Given as goal

abbrev pub invariant-loop-e : goal.invariant-loop-e
invariant-loop-e g l = l.darts.items ≡ map (dart (graph (g.B.Board.instance l.board)) l.u) (take l.e-index l.order)
