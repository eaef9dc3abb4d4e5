use Rattle.std.proofs.Common.{◌≡◌, ◌++◌, take, map}
use Rattle.cp_store.specs.Rewriting.{gone}
use Rattle.cp_store.proofs.plan.push_gone.Given as goal

abbrev pub invariant-loop-name : goal.invariant-loop-name
invariant-loop-name g l = l.to.items ≡ l.initial.to.items ++ map gone (take l.name-index l.names)
