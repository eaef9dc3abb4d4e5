use Rattle.std.proofs.Common.{◌≡◌}
use Rattle.cp_rot.specs.Rewrites.{values}
use Rattle.cp_rotlaw.specs.StarParts.{part_of, star_at}
use Rattle.cp_rotlaw.proofs.star_lists.star_vertices.Given as goal

abbrev pub invariant-loop-d : goal.invariant-loop-d
invariant-loop-d l = l.at.items ≡ values l.d (star_at l.a l.u (part_of l.a l.entered))
