-- The vertices that are left have all the room; the others have given theirs to their parents too.
use Rattle.std.proofs.Common.{◌<◌, ◌≤◌, length}
use Rattle.cp_ears.specs.Placing.{ShareRoom}
use Rattle.cp_ears.proofs.placing.sizes.Given as goal

abbrev pub invariant-loop-left : goal.invariant-loop-left
invariant-loop-left l = record {
  shared : ShareRoom (length l.up) l.up l.room.items l.left;
  some : 0 < l.left;
  within : l.left ≤ length l.up;
}

abbrev pub decreases-loop-left : goal.decreases-loop-left
decreases-loop-left l = l.left
