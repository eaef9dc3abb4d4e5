-- The lists of the blocks so far are put together, and the bits of the next one follow.
use Rattle.std.proofs.Common.{◌≡◌, length, take}
use Rattle.cp_flip.specs.BlockTrees.{AreAllBlocks}
use Rattle.cp_flip.specs.CellEquations.{vars_behind}
use Rattle.cp_flip.specs.GluedLists.{AreGlued, back_by}
use Rattle.cp_flip.proofs.gluing.put_together.Given as goal

abbrev pub invariant-loop-block : goal.invariant-loop-block
invariant-loop-block g l = record {
  first_is : l.first ≡ vars_behind (length l.cells) (take l.block-index l.blocks);
  glued : (found : AreAllBlocks (g.B.Board.instance l.board) l.blocks)
      → AreGlued (g.B.Board.instance l.board) found.numbers (back_by (g.B.Board.instance l.board) l.cells l.bits)
      (take l.block-index l.blocks) l.rows.items;
}
