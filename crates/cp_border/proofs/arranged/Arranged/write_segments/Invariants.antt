use Rattle.std.proofs.Common.{◌*◌, slice_index}
use Rattle.cp_border.specs.Borders.{first_segment}
use Rattle.cp_border.specs.Tables.{HoldsTable, segment_vertices}
use Rattle.cp_border.proofs.arranged.Arranged.write_segments.Given as goal

abbrev pub invariant-loop-e : goal.invariant-loop-e
invariant-loop-e l = HoldsTable (2 * first_segment l.self.graph.now l.e) l.at
    (slice_index (segment_vertices l.self.graph.now))
