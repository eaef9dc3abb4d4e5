use Rattle.std.proofs.Common.{◌≡◌, false, slice_index, slice_index_or, take}
use Rattle.std.specs.List.{filter}
use Rattle.cp_rotlaw.proofs.pole_rows.marked_items.Given as goal

abbrev pub invariant-loop-d : goal.invariant-loop-d
invariant-loop-d l =
    l.kept.items ≡ filter (λ d. slice_index_or l.marks (slice_index l.parts d) false) (take l.d-index l.items)
