-- The low points so far are those of the darts below the next one.
use Rattle.cp_conn.specs.SearchForest.{forest_of}
use Rattle.cp_conn.specs.LowPoints.{AreReached, AreLow}
use Rattle.cp_conn.proofs.low_points.lowest_near.Given as goal

abbrev pub invariant-loop-dart : goal.invariant-loop-dart
invariant-loop-dart l = record {
  reached : AreReached l.ends l.vertices (forest_of l.forest) l.low.items;
  low : AreLow l.ends (forest_of l.forest) l.low.items l.dart;
}
