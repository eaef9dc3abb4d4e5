use Rattle.std.proofs.Common.{◌≡◌, ◌++◌, take}
use Rattle.cp_join.specs.Joining.{part_moves}
use Rattle.cp_join.proofs.joins.push_part_moves.Given as goal

abbrev pub invariant-loop-k : goal.invariant-loop-k
invariant-loop-k l = l.moves ≡ l.initial.moves ++ part_moves l.u l.outer (take l.k l.parts)
