use Rattle.std.proofs.Common.{◌≡◌}
use Rattle.cp_skel.specs.SkeletonTables.{first_rows}
use Rattle.cp_skel.proofs.rows.VertexNames.edge_rows.Given as goal

abbrev pub invariant-loop-e : goal.invariant-loop-e
invariant-loop-e l = l.rows ≡ first_rows l.self.graph.now l.e
