-- The ends of the edges so far.
use Rattle.std.proofs.Common.{◌≡◌, take}
use Rattle.cp_board.specs.Instances.{graph}
use Rattle.cp_embed.specs.BoardCuts.{both_ends}
use Rattle.cp_embed.proofs.board_blocks.both_ends.Given as goal

abbrev pub invariant-loop-e : goal.invariant-loop-e
invariant-loop-e g l = l.verts.items ≡ both_ends (graph (g.B.Board.instance l.board)) (take l.e-index l.edges)
