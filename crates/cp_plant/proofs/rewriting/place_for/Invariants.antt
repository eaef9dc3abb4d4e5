use Rattle.std.proofs.Common.{◌≡◌, ◌+◌, drop}
use Rattle.cp_plant.specs.Rewriting.{place_of}
use Rattle.cp_plant.proofs.rewriting.place_for.Given as goal

abbrev pub invariant-loop-k : goal.invariant-loop-k
invariant-loop-k l = place_of l.pairs l.edge ≡ l.k + place_of (drop l.k l.pairs) l.edge
