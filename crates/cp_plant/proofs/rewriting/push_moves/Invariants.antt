use Rattle.std.proofs.Common.{◌≡◌, ◌++◌, take}
use Rattle.cp_plant.specs.Rewriting.{end_moves}
use Rattle.cp_plant.proofs.rewriting.push_moves.Given as goal

abbrev pub invariant-loop-edge : goal.invariant-loop-edge
invariant-loop-edge l = l.moves ≡ l.initial.moves ++ end_moves l.u l.rows (take l.edge-index l.edges)
