-- what is marked so far is right, and the walk is still on the cycle
use Rattle.std.proofs.Common.{◌<◌, length, slice_index}
use Rattle.cp_orbits.specs.Orbits.{CycleLength}
use Rattle.cp_poles.specs.Cycles.{AreMarked}
use Rattle.cp_poles.proofs.CycleOrders.{IsWalked}
use Rattle.cp_poles.proofs.cycles.mark_cycle.Given as goal

abbrev pub invariant-loop-step : goal.invariant-loop-step
invariant-loop-step l = record {
  marks : AreMarked l.to l.size l.seen.items;
  within : l.at < length l.to;
  cycle : CycleLength (slice_index l.to) l.at l.size;
  walked : IsWalked l.to l.start l.step l.at l.fn.seen.items l.seen.items;
}
