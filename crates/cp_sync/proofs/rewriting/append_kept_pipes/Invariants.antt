use Rattle.std.proofs.Common.{◌≡◌, ◌++◌, take}
use Rattle.cp_sync.specs.Rewriting.{kept_pipes}
use Rattle.cp_sync.proofs.rewriting.append_kept_pipes.Given as goal

abbrev pub invariant-loop-p : goal.invariant-loop-p
invariant-loop-p l = l.to.items ≡ l.initial.to.items ++ kept_pipes l.dropped (take l.p-index l.pipes)
