use Rattle.std.proofs.Common.{◌≡◌, ◌++◌, take}
use Rattle.cp_board.specs.Joins.{part_pipes}
use Rattle.cp_join.specs.Joining.{hat_among}
use Rattle.cp_join.proofs.joins.push_pipes.Given as goal

abbrev pub invariant-loop-k : goal.invariant-loop-k
invariant-loop-k l = l.pipes ≡ l.initial.pipes ++ part_pipes (hat_among l.edges l.hats) l.end.names l.end.outer l.end.inner (take l.k l.parts)
