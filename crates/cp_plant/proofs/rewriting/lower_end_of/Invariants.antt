use Rattle.std.proofs.Common.{◌≡◌, drop}
use Rattle.cp_board.specs.Plantings.{lower_end}
use Rattle.cp_plant.proofs.rewriting.lower_end_of.Given as goal

abbrev pub invariant-loop-row : goal.invariant-loop-row
invariant-loop-row l = lower_end (drop l.row-index l.rows) l.edge ≡ lower_end l.rows l.edge
