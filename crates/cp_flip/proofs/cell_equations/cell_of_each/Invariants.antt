-- The cells of the Q-vertices so far.
use Rattle.std.proofs.Common.{◌≡◌, take}
use Rattle.cp_flip.specs.CellEquations.{cells_among}
use Rattle.cp_flip.proofs.cell_equations.cell_of_each.Given as goal

abbrev pub invariant-loop-v : goal.invariant-loop-v
invariant-loop-v g l = l.cells.items ≡ cells_among (g.B.Board.instance l.board) (take l.v-index l.verts)
