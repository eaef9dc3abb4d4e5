-- The equations of the tree so far stand behind the others.
use Rattle.std.proofs.Common.{◌≡◌, ◌++◌, map, take}
use Rattle.cp_flip.specs.CellEquations.{shifted}
use Rattle.cp_flip.proofs.cell_equations.with_shifted.Given as goal

abbrev pub invariant-loop-e : goal.invariant-loop-e
invariant-loop-e l = l.all.items ≡ l.fn.equations.items ++ map (shifted l.first) (take l.e-index l.of_tree)
