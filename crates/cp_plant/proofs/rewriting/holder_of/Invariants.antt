use Rattle.std.proofs.Common.{◌≡◌, drop}
use Rattle.cp_board.specs.Plantings.{holder}
use Rattle.cp_plant.proofs.rewriting.holder_of.Given as goal

abbrev pub invariant-loop-row : goal.invariant-loop-row
invariant-loop-row l = holder (drop l.row-index l.rows) l.edge ≡ holder l.rows l.edge
