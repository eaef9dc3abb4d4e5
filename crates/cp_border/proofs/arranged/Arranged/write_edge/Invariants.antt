use Rattle.std.proofs.Common.{◌+◌, ◌*◌, slice_index}
use Rattle.cp_border.specs.Tables.{HoldsTable, segment_vertices}
use Rattle.cp_border.proofs.arranged.Arranged.write_edge.Given as goal

abbrev pub invariant-loop-i : goal.invariant-loop-i
invariant-loop-i l = HoldsTable (l.start + 2 * l.i + 1) l.at (slice_index (segment_vertices l.self.graph.now))
