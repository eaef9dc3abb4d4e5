use Rattle.std.proofs.Common.{slice_index, ◌+◌}
use Rattle.cp_lists.specs.Count.{count}
use Rattle.cp_rot.specs.Systems.{vertex_of}
use Rattle.cp_rotlaw.specs.Systems.{is_other}
use Rattle.cp_rotlaw.proofs.GluedNumbers.{Written}
use Rattle.cp_rotlaw.proofs.gluing_tables.write_second.Given as goal

abbrev pub invariant-loop-d : goal.invariant-loop-d
invariant-loop-d l = Written (slice_index l.numbers) (λ d. l.start + count (vertex_of l.b d) (is_other l.w)) (λ d. is_other l.w (vertex_of l.b d)) l.d l.fn.at l.at
