use Rattle.std.proofs.Common.{◌≡◌, ◌+◌, ◌*◌, ◌++◌, map}
use Rattle.std.specs.List.{range_with_len}
use Rattle.cp_border.specs.Borders.{first_segment}
use Rattle.cp_skel.specs.Skeletons.{dart_vertex, skeleton_edge, vertex_name}
use Rattle.cp_skel.specs.SkeletonTables.{first_rows}
use Rattle.cp_skel.proofs.rows.VertexNames.push_segments.Given as goal

abbrev pub invariant-loop-c : goal.invariant-loop-c
invariant-loop-c l = record {
  rows : l.rows
      ≡ first_rows l.self.graph.now l.e
      ++ map (skeleton_edge l.self.graph.now) (range_with_len (first_segment l.self.graph.now l.e) l.c-index);
  at : l.at
      ≡ vertex_name l.self.graph.now
      (dart_vertex l.self.graph.now (2 * (first_segment l.self.graph.now l.e + l.c-index)));
}
