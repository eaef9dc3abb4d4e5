-- The block of an edge of a vertex, cut out of an instance.
use Rattle.std.specs.Prelude.{◌≡◌, ℕ}
use Rattle.std.specs.List.{Contains}
use Rattle.cp_embed.specs.declared.board_blocks.EdgeBlock.{EdgeBlock}
use Rattle.cp_embed.specs.BoardBlocks.{AreBlockEdges, listed_part, part_with}
use Rattle.cp_board.specs.Instances.{Synchronized, edges_of, graph}

-- the block of an edge of u, cut out
pub record IsCutAt (i : Synchronized) (u : ℕ) (cut : EdgeBlock) : Type 0 where
  pub edge : ℕ
  pub at : Contains (edges_of i u) edge
  pub edges : AreBlockEdges i edge cut.edges
  pub verts : cut.verts ≡ (part_with (graph i) cut.edges).verts
  pub block : cut.block ≡ listed_part i cut.edges
