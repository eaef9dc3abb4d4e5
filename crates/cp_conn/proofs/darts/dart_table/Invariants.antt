-- The darts below the next one are chained.
use Rattle.cp_conn.specs.Darts.{AreChained}
use Rattle.cp_conn.proofs.darts.dart_table.Given as goal

abbrev pub invariant-loop-dart : goal.invariant-loop-dart
invariant-loop-dart l = AreChained l.vertices l.ends l.dart l.entries.items l.lower.items
