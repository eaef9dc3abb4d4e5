-- the marks are right, and no cycle so far has another length
use Rattle.std.proofs.Common.{ℕ, ◌<◌, slice_index}
use Rattle.cp_orbits.specs.Orbits.{CycleLength}
use Rattle.cp_poles.specs.Cycles.{AreMarked}
use Rattle.cp_poles.proofs.cycles.other_length.Given as goal

abbrev pub invariant-loop-at : goal.invariant-loop-at
invariant-loop-at l = record {
  marks : AreMarked l.to l.size l.seen.items;
  before : (k : ℕ) → k < l.at → CycleLength (slice_index l.to) k l.size;
}
