use Rattle.std.proofs.Common.{◌≡◌, take}
use Rattle.cp_join.specs.InnerSystems.{inner_at}
use Rattle.cp_join.proofs.inner_systems.inner_ends.Given as goal

abbrev pub invariant-loop-k : goal.invariant-loop-k
invariant-loop-k l = l.at.items ≡ inner_at (take l.k l.pairs) l.first l.second
