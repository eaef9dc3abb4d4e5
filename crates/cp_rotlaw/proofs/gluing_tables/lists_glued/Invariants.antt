use Rattle.std.proofs.Common.{◌≡◌, slice_index}
use Rattle.cp_rot.specs.Rewrites.{values}
use Rattle.cp_rotlaw.specs.GlueTables.{glued_list}
use Rattle.cp_rotlaw.proofs.gluing_tables.lists_glued.Given as goal

abbrev pub invariant-loop-x : goal.invariant-loop-x
invariant-loop-x l = l.lists.items ≡ values l.x (glued_list l.a l.u l.b l.w (slice_index l.numbers))
