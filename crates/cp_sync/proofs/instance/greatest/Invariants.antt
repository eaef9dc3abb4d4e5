use Rattle.cp_sync.specs.Tables.{IsGreatestPlace}
use Rattle.cp_sync.proofs.instance.greatest.Given as goal

abbrev pub invariant-loop-k : goal.invariant-loop-k
invariant-loop-k l = IsGreatestPlace l.pipes l.k l.best
