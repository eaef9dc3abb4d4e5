use Rattle.std.proofs.Common.{arith}
use Rattle.cp_cgraph.specs.Clustered.{edges}
use Rattle.cp_border.specs.Borders.{crossed}
use Rattle.cp_border.proofs.Numbering.{sum_below-next}
use Rattle.cp_border.proofs.Rotation.{crossing_of}
use Rattle.cp_border.proofs.arranged.Arranged.vertex_at.Goals as goal

pub overflow_add-result : goal.overflow_add-result
overflow_add-result c =
    omega (
      arith,
      c.args.self.now.first_told.told c.args.e (omega arith),
      sum_below-next
          (crossed c.args.self.now.graph.now) c.args.e (edges c.args.self.now.graph.now) c.requires.edge,
      c.args.self.now.few_vertices,
      c.nodes.ensures.value,
    )

pub overflow_add-result-2 : goal.overflow_add-result-2
overflow_add-result-2 c =
    let cross = crossing_of c.args.self.now.graph.now c.args.self.now.clustered c.args.e c.args.c c.requires.edge
    c.requires.cluster c.requires.left in
    omega (
      arith,
      c.args.self.now.first_told.told c.args.e (omega arith),
      sum_below-next
          (crossed c.args.self.now.graph.now) c.args.e (edges c.args.self.now.graph.now) c.requires.edge,
      c.args.self.now.few_vertices,
      c.nodes.ensures.value,
      cross.within,
      c.place.ensures,
    )
