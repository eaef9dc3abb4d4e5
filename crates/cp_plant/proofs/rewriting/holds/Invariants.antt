use Rattle.std.proofs.Common.{◌≡◌, false, take}
use Rattle.cp_board.specs.Names.{has}
use Rattle.cp_plant.proofs.rewriting.holds.Given as goal

abbrev pub invariant-loop-e : goal.invariant-loop-e
invariant-loop-e l = has (take l.e-index l.edges) l.edge ≡ false
