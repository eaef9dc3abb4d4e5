use Rattle.std.proofs.Common.{◌≡◌, ◌-◌, drop}
use Rattle.std.specs.List.{zip}
use Rattle.cp_board.specs.Changes.{pairs_by_first}
use Rattle.cp_plant.proofs.rewriting.node_pairs.Given as goal

abbrev pub invariant-loop-j : goal.invariant-loop-j
invariant-loop-j l = l.sorted.items ≡ pairs_by_first (drop (l.number - l.j) (zip l.firsts l.seconds))
