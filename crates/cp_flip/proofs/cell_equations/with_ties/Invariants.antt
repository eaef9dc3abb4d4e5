-- The ties of the vertices so far stand behind the others.
use Rattle.std.proofs.Common.{◌≡◌, ◌++◌, take}
use Rattle.cp_flip.specs.CellEquations.{ties}
use Rattle.cp_flip.proofs.cell_equations.with_ties.Given as goal

abbrev pub invariant-loop-k : goal.invariant-loop-k
invariant-loop-k g l =
    l.all.items ≡ l.fn.equations.items ++ ties (g.B.Board.instance l.board) l.cells l.first (take l.k l.verts)
