use Rattle.std.proofs.Common.{◌≡◌}
use Rattle.cp_rot.specs.Rewrites.{values}
use Rattle.cp_rot.specs.RewriteTables.{joined_at}
use Rattle.cp_rot.proofs.merging.vertices_joined.Given as goal

abbrev pub invariant-loop-x : goal.invariant-loop-x
invariant-loop-x l = l.new.items ≡ values l.x-index (joined_at l.at l.u l.w l.last)
