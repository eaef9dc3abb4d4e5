use Rattle.std.proofs.Common.{◌≡◌, map, take}
use Rattle.std.specs.List.{zip}
use Rattle.cp_join.specs.Joining.{hat_row}
use Rattle.cp_join.proofs.joins.new_edges.Given as goal

abbrev pub invariant-loop-k : goal.invariant-loop-k
invariant-loop-k l = l.rows ≡ map (hat_row l.first.parts l.first.inner l.second.parts l.second.inner) (zip l.hats (take l.k l.pairs))
