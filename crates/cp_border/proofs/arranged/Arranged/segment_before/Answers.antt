use Rattle.std.proofs.Common.{arith}
use Rattle.cp_border.proofs.Rotation.{crossing_of}
use Rattle.cp_border.proofs.RotationLaw.{border_vertex-lt}
use Rattle.cp_border.proofs.arranged.Arranged.segment_before.Goals as goal

pub overflow_add-result : goal.overflow_add-result
overflow_add-result c =
    let cross = crossing_of c.args.self.now.graph.now c.args.self.now.clustered c.args.e c.args.c c.requires.edge
    c.requires.cluster c.requires.left in
    omega (
      arith,
      border_vertex-lt c.args.self.now.graph.now c.args.e _ c.requires.edge cross.within,
      c.vertex_at.ensures,
      c.nodes.ensures.value,
      c.args.self.now.few_edges,
      c.args.self.now.few_vertices,
      c.requires.edge,
    )

pub returns-clause-bound : goal.returns-clause-bound
returns-clause-bound c =
    let cross = crossing_of c.args.self.now.graph.now c.args.self.now.clustered c.args.e c.args.c c.requires.edge
    c.requires.cluster c.requires.left in
    omega (
      arith,
      border_vertex-lt c.args.self.now.graph.now c.args.e _ c.requires.edge cross.within,
      c.vertex_at.ensures,
      c.nodes.ensures.value,
      c.args.self.now.few_edges,
      c.args.self.now.few_vertices,
      c.requires.edge,
    )
