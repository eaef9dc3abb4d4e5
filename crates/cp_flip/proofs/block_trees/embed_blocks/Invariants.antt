-- The blocks of the edges so far are embedded.
use Rattle.cp_board.specs.Instances.{edge_names}
use Rattle.cp_flip.specs.BlockTrees.{AreEmbeddedUpTo}
use Rattle.cp_flip.proofs.block_trees.embed_blocks.Given as goal

abbrev pub invariant-loop-k : goal.invariant-loop-k
invariant-loop-k g l = AreEmbeddedUpTo (g.B.Board.instance l.board) (edge_names (g.B.Board.instance l.board)) l.numbers l.k l.found
