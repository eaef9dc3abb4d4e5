use Rattle.std.proofs.Common.{◌/◌, arith}
use Rattle.cp_cgraph.specs.Clustered.{edges}
use Rattle.cp_border.specs.Borders.{crossed}
use Rattle.cp_border.proofs.Numbering.{sum_below-next}
use Rattle.cp_border.proofs.arranged.Arranged.end_of.Goals as goal

pub overflow_add-result : goal.overflow_add-result
overflow_add-result c =
    omega (
      arith,
      c.args.self.now.first_told.told (c.args.d / 2) (omega arith),
      sum_below-next
          (crossed c.args.self.now.graph.now) (c.args.d / 2) (edges c.args.self.now.graph.now) (omega arith),
      c.args.self.now.few_vertices,
    )

pub overflow_mul-result : goal.overflow_mul-result
overflow_mul-result c =
    omega (
      arith,
      c.args.self.now.first_told.told (c.args.d / 2) (omega arith),
      sum_below-next
          (crossed c.args.self.now.graph.now) (c.args.d / 2) (edges c.args.self.now.graph.now) (omega arith),
      c.args.self.now.few_vertices,
    )

pub overflow_add-result-else-d-eq0 : goal.overflow_add-result-else-d-eq0
overflow_add-result-else-d-eq0 c =
    omega (
      arith,
      c.args.self.now.first_told.told (c.args.d / 2) (omega arith),
      sum_below-next
          (crossed c.args.self.now.graph.now) (c.args.d / 2) (edges c.args.self.now.graph.now) (omega arith),
      c.args.self.now.few_vertices,
    )

pub overflow_add-result-else-d-eq0-2 : goal.overflow_add-result-else-d-eq0-2
overflow_add-result-else-d-eq0-2 c =
    omega (
      arith,
      c.args.self.now.first_told.told (c.args.d / 2) (omega arith),
      sum_below-next
          (crossed c.args.self.now.graph.now) (c.args.d / 2) (edges c.args.self.now.graph.now) (omega arith),
      c.args.self.now.few_vertices,
      c.crossed.ensures.value,
    )

pub overflow_mul-result-else-d-eq0 : goal.overflow_mul-result-else-d-eq0
overflow_mul-result-else-d-eq0 c =
    omega (
      arith,
      c.args.self.now.first_told.told (c.args.d / 2) (omega arith),
      sum_below-next
          (crossed c.args.self.now.graph.now) (c.args.d / 2) (edges c.args.self.now.graph.now) (omega arith),
      c.args.self.now.few_vertices,
      c.crossed.ensures.value,
    )

pub overflow_add-result-else-d-eq0-3 : goal.overflow_add-result-else-d-eq0-3
overflow_add-result-else-d-eq0-3 c =
    omega (
      arith,
      c.args.self.now.first_told.told (c.args.d / 2) (omega arith),
      sum_below-next
          (crossed c.args.self.now.graph.now) (c.args.d / 2) (edges c.args.self.now.graph.now) (omega arith),
      c.args.self.now.few_vertices,
      c.crossed.ensures.value,
    )
