use Rattle.std.proofs.Common.{◌+◌, ◌*◌}
use Rattle.cp_rot.specs.Systems.{vertex_of}
use Rattle.cp_border.specs.Borders.{borders}
use Rattle.cp_border.specs.Tables.{HoldsTable}
use Rattle.cp_border.proofs.arranged.Arranged.write_border.Given as goal

abbrev pub invariant-loop-k : goal.invariant-loop-k
invariant-loop-k l = HoldsTable (l.start + 2 * l.k) l.at (vertex_of (borders l.self.graph.now l.self.layout.now))
