use Rattle.std.proofs.Common.{◌+◌, ◌≤◌, length}
use Rattle.cp_rotlaw.specs.SideStates.{IsMerging, vertices_left}
use Rattle.cp_rotlaw.proofs.sides.merged_row.Given as goal

abbrev pub invariant-loop-k : goal.invariant-loop-k
invariant-loop-k l = record {
  state : IsMerging l.a l.side l.merged.items l.row.items;
  fewer : length (vertices_left l.a l.side l.merged.items) + l._k ≤ l.a.vertices;
}
