use Rattle.cp_rot.specs.RewriteTables.{IsMoved}
use Rattle.cp_rot.proofs.expanding.move_row.Given as goal

abbrev pub invariant-loop-d : goal.invariant-loop-d
invariant-loop-d l = IsMoved l.fn.at l.row l.v l.d-index l.at
