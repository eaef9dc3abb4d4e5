use Rattle.std.proofs.Common.{◌≡◌, ℕ, ◌+◌, ◌<◌, true, false, length, slice_index, slice_index_or}
use Rattle.cp_rot.specs.Systems.{edges, list_of}
use Rattle.cp_rotlaw.proofs.pole_parts.entered_marks.Given as goal

abbrev pub invariant-loop-d : goal.invariant-loop-d
invariant-loop-d l = record {
  size : length l.marks.items ≡ l.a.vertices + edges l.a;
  yes : (i : ℕ) → i < l.d-index
      → slice_index_or l.marks.items (slice_index l.parts (slice_index (list_of l.a l.u) i)) false ≡ true;
  from : (c : ℕ) → slice_index_or l.marks.items c false ≡ true
      → (i : ℕ) × (i < l.d-index) × (slice_index l.parts (slice_index (list_of l.a l.u) i) ≡ c);
}
