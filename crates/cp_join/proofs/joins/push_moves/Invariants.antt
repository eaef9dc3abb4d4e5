use Rattle.std.proofs.Common.{◌≡◌, ◌++◌, take}
use Rattle.cp_join.specs.Joining.{moves_to}
use Rattle.cp_join.proofs.joins.push_moves.Given as goal

abbrev pub invariant-loop-edge : goal.invariant-loop-edge
invariant-loop-edge l = l.moves ≡ l.initial.moves ++ moves_to l.u l.outer (take l.edge-index l.part)
