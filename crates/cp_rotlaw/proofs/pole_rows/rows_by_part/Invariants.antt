use Rattle.std.proofs.Common.{slice_index, take}
use Rattle.cp_rotlaw.specs.StarParts.{AreRows}
use Rattle.cp_rotlaw.proofs.pole_rows.rows_by_part.Given as goal

abbrev pub invariant-loop-d : goal.invariant-loop-d
invariant-loop-d l = AreRows (slice_index l.parts) (take l.d-index l.items) l.count l.rows.items
