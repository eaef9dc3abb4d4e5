-- the walk has made so many steps
use Rattle.std.proofs.Common.{◌-◌, ◌<◌, length, slice_index}
use Rattle.cp_orbits.proofs.CycleLengths.{WalksCycle}
use Rattle.cp_base.proofs.perm.Perm.cycle_length.Given as goal

abbrev pub invariant-loop-at : goal.invariant-loop-at
invariant-loop-at l = record { walk : WalksCycle (slice_index l.self) l.i l.length l.at; below : l.at < length l.to }

abbrev pub decreases-loop-at : goal.decreases-loop-at
decreases-loop-at l = length l.self - l.length
