-- A block has an edge, and where it can be directed by no bits it has no rotation.
use Rattle.std.proofs.Common.{refl}
use Rattle.cp_flip.proofs.CutBlocks.{some}
use Rattle.cp_flip.proofs.EmbeddedBlocks.{never-HasNoRotation}
use Rattle.cp_flip.proofs.block_trees.embed_block_of.Goals as goal

pub bounds-edges-0 : goal.bounds-edges-0
bounds-edges-0 g c = some (g.B.Board.instance c.args.board.now) c.requires.rules c.args.edges.now c.requires.block

pub returns-in-Err-NotPlanar-clause-refused : goal.returns-in-Err-NotPlanar-clause-refused
returns-in-Err-NotPlanar-clause-refused g c = (
  refl,
  never-HasNoRotation (g.B.Board.instance c.args.board.now) c.requires.rules c.args.edges.now c.requires.block
      (c.in-Err-NotPlanar.ensures.refused c.in-Err-NotPlanar.field-0-is),
)
