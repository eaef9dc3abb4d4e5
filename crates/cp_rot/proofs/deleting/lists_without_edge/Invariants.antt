use Rattle.std.proofs.Common.{◌≡◌}
use Rattle.cp_rot.specs.Rewrites.{values}
use Rattle.cp_rot.specs.RewriteTables.{kept_list}
use Rattle.cp_rot.proofs.deleting.lists_without_edge.Given as goal

abbrev pub invariant-loop-v : goal.invariant-loop-v
invariant-loop-v l = l.new.items ≡ values l.v (kept_list l.lists l.e l.last)
