-- The system is that of the blocks so far.
use Rattle.std.proofs.Common.{◌≡◌, length, take}
use Rattle.std.specs.List.{All}
use Rattle.cp_flip.specs.CellEquations.{HasOwnVars, equations_from, vars_behind}
use Rattle.cp_flip.proofs.cell_equations.board_equations.Given as goal

abbrev pub invariant-loop-block : goal.invariant-loop-block
invariant-loop-block g l = record {
  vars : l.system.vars ≡ vars_behind (length l.cells) (take l.block-index l.blocks);
  equations : l.system.equations.items
      ≡ equations_from (g.B.Board.instance l.board) l.cells (length l.cells) (take l.block-index l.blocks);
  own : All (λ t. HasOwnVars t.directed) (take l.block-index l.blocks);
}
