-- The numbered ends of the edges so far.
use Rattle.std.proofs.Common.{◌≡◌, map, take}
use Rattle.cp_board.specs.Instances.{graph}
use Rattle.cp_sync.specs.Numbering.{numbered_ends}
use Rattle.cp_embed.specs.BoardBlocks.{part_with}
use Rattle.cp_embed.proofs.board_blocks.ends_among.Given as goal

abbrev pub invariant-loop-e : goal.invariant-loop-e
invariant-loop-e g l =
    l.ends.items ≡ map (numbered_ends (part_with (graph (g.B.Board.instance l.board)) l.edges)) (take l.e-index l.edges)
