use Rattle.std.proofs.Common.{◌≡◌, ◌+◌, slice_index}
use Rattle.cp_faces.specs.Faces.{on_edges}
use Rattle.cp_rot.specs.Rewrites.{values}
use Rattle.cp_rotlaw.proofs.gluing_tables.numbers_from.Given as goal

abbrev pub invariant-loop-d : goal.invariant-loop-d
invariant-loop-d l = l.numbers.items ≡ values l.d (λ d. l.start + on_edges (slice_index l.kept) d)
