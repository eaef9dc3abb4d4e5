-- The vertices of the block are vertices.
use Rattle.std.proofs.Common.{List, ℕ, subst}
use Rattle.std.specs.Prelude.{slice_index_or}
use Rattle.std.specs.List.{Contains}
use Rattle.std.proofs.lemmas.List.Elements.{Contains-get_or}
use Rattle.cp_flip.proofs.CellEquations.{block-live}
use Rattle.cp_flip.proofs.cell_equations.with_block.Goals as goal

pub with_ties-requires-clause-live : goal.with_ties-requires-clause-live
with_ties-requires-clause-live g c = λ k d lt.
    let v = slice_index_or c.items.result.now k d in
    block-live (g.B.Board.instance c.args.board.now) c.args.cells.now c.requires.cells c.args.block.now.verts
    c.args.block.now.edges c.args.block.now.directed c.requires.block v
    (subst (λ (xs : List ℕ). Contains xs v) c.items.ensures (Contains-get_or c.items.result.now k d lt))
