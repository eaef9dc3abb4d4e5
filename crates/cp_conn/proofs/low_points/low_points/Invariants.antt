-- The vertices that are left have not lowered the low points of their parents yet.
use Rattle.std.proofs.Common.{◌≤◌, ◌*◌, length}
use Rattle.cp_conn.specs.SearchForest.{forest_of}
use Rattle.cp_conn.specs.LowPoints.{AreReached, AreLow}
use Rattle.cp_conn.proofs.LowPoints.{AreRising}
use Rattle.cp_conn.proofs.low_points.low_points.Given as goal

abbrev pub invariant-loop-left : goal.invariant-loop-left
invariant-loop-left l = record {
  reached : AreReached l.ends l.vertices (forest_of l.forest) l.low.items;
  low : AreLow l.ends (forest_of l.forest) l.low.items (2 * length l.ends);
  rising : AreRising l.vertices (forest_of l.forest) l.low.items l.left;
  within : l.left ≤ length l.forest.order.items;
}

abbrev pub decreases-loop-left : goal.decreases-loop-left
decreases-loop-left l = l.left
