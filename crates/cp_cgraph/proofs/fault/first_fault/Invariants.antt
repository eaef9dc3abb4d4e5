use Rattle.std.proofs.Common.{◌≡◌, take}
use Rattle.std.specs.Option.{MatchOption}
use Rattle.cp_cgraph.specs.GraphFaults.{IsFirst}
use Rattle.cp_cgraph.proofs.fault.first_fault.Given as goal

abbrev pub invariant-seeking : goal.invariant-seeking
invariant-seeking l = MatchOption l.first (l.fault-index ≡ 0) (IsFirst (take l.fault-index l.faults))
