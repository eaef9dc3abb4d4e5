use Rattle.std.proofs.Common.{◌≡◌}
use Rattle.cp_rot.specs.Rewrites.{values}
use Rattle.cp_rotlaw.specs.StarParts.{star_list}
use Rattle.cp_rotlaw.proofs.star_lists.star_lists.Given as goal

abbrev pub invariant-loop-v : goal.invariant-loop-v
invariant-loop-v l = l.lists.items ≡ values l.v (star_list l.a l.u l.rows)
