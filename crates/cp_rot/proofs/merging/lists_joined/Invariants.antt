use Rattle.std.proofs.Common.{◌≡◌}
use Rattle.cp_rot.specs.Rewrites.{values}
use Rattle.cp_rot.specs.RewriteTables.{joined_list}
use Rattle.cp_rot.proofs.merging.lists_joined.Given as goal

abbrev pub invariant-loop-v : goal.invariant-loop-v
invariant-loop-v l = l.new.items ≡ values l.v (joined_list l.lists l.u l.w l.last l.fn.d l.fn.f)
