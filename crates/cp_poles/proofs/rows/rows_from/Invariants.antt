-- the first rows are there
use Rattle.std.proofs.Common.{◌≡◌, ◌≤◌, length, slice_index, take}
use Rattle.std.specs.List.{range_with_len}
use Rattle.cp_poles.specs.Layers.{layers, leaders}
use Rattle.cp_poles.proofs.rows.rows_from.Given as goal

abbrev pub invariant-loop-k : goal.invariant-loop-k
invariant-loop-k l = record {
  row : l.count ≡ length (leaders (slice_index l.to) l.size (range_with_len 0 (length l.to)));
  from : l.count ≤ l.k;
  found : l.rows.items ≡ take l.k
      (layers (slice_index l.to) l.size (leaders (slice_index l.to) l.size (range_with_len 0 (length l.to))));
}
