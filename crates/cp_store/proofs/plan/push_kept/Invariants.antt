use Rattle.std.proofs.Common.{◌≡◌, ◌++◌, take, map}
use Rattle.cp_store.specs.Rewriting.{kept}
use Rattle.cp_store.proofs.plan.push_kept.Given as goal

abbrev pub invariant-loop-item : goal.invariant-loop-item
invariant-loop-item g l = l.to.items ≡ l.initial.to.items ++ map (kept g.T.Named.name) (take l.item-index l.items)
