-- The lists of the vertices so far.
use Rattle.std.proofs.Common.{◌≡◌, map, take}
use Rattle.cp_embed.specs.BoardBlocks.{list_among}
use Rattle.cp_embed.proofs.board_blocks.lists_of.Given as goal

abbrev pub invariant-loop-v : goal.invariant-loop-v
invariant-loop-v g l = l.lists ≡ map (list_among (g.B.Board.instance l.board) l.edges) (take l.v-index l.verts)
