-- The edges before the next one stand in the rows of their ends.
use Rattle.cp_embed.specs.ListedBlocks.{AreRowsOfEdges}
use Rattle.cp_embed.proofs.block.edges_by_vertex.Given as goal

abbrev pub invariant-loop-edge : goal.invariant-loop-edge
invariant-loop-edge l = AreRowsOfEdges l.vertices l.ends l.edge l.rows.items
