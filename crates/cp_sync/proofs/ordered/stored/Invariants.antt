use Rattle.std.proofs.Common.{◌≡◌}
use Rattle.cp_sync.proofs.ordered.stored.Given as goal

abbrev pub invariant-loop-item : goal.invariant-loop-item
invariant-loop-item g l = l.list ≡ l.yielded
