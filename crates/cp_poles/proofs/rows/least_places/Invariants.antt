-- the least places among those before are found, and what their cycles meet is marked
use Rattle.std.proofs.Common.{◌≡◌, slice_index}
use Rattle.std.specs.List.{range_with_len}
use Rattle.cp_poles.specs.Cycles.{AreMarked}
use Rattle.cp_poles.specs.Kept.{AreMet}
use Rattle.cp_poles.specs.Layers.{leaders}
use Rattle.cp_poles.proofs.rows.least_places.Given as goal

abbrev pub invariant-loop-at : goal.invariant-loop-at
invariant-loop-at l = record {
  marks : AreMarked l.to l.size l.seen.items;
  met : AreMet l.to l.at l.seen.items;
  found : l.least.items ≡ leaders (slice_index l.to) l.size (range_with_len 0 l.at);
}
