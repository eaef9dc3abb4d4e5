use Rattle.std.proofs.Common.{map}
use Rattle.cp_board.specs.Faults.{IsNextName}
use Rattle.cp_sync.specs.Checks.{AllBelow}
use Rattle.cp_sync.proofs.names.first_wrong_name.Given as goal

abbrev pub invariant-loop-k : goal.invariant-loop-k
invariant-loop-k g l = AllBelow (IsNextName (map g.T.Named.name l.items)) l.k
