use Rattle.std.proofs.Common.{take}
use Rattle.cp_rot.specs.Systems.{list_of}
use Rattle.cp_rotlaw.specs.StarParts.{part_of, AreRows}
use Rattle.cp_rotlaw.proofs.star_lists.star_rows.Given as goal

abbrev pub invariant-loop-d : goal.invariant-loop-d
invariant-loop-d l = AreRows (part_of l.a l.entered) (take l.d-index (list_of l.a l.u)) l.fn.parts l.rows.items
