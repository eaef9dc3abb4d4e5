use Rattle.std.proofs.Common.{◌≡◌}
use Rattle.cp_rot.specs.Rewrites.{values}
use Rattle.cp_rot.specs.RewriteTables.{kept_at}
use Rattle.cp_rot.proofs.deleting.vertices_without_edge.Given as goal

abbrev pub invariant-loop-d : goal.invariant-loop-d
invariant-loop-d l = l.new.items ≡ values l.d (kept_at l.at l.e l.last)
