use Rattle.std.proofs.Common.{arith}
use Rattle.std.specs.Prelude.{◌==◌}
use Rattle.cp_lists.proofs.Counting.{count-le}
use Rattle.cp_cgraph.specs.Clustered.{node_of}
use Rattle.cp_border.proofs.lines.count_darts.Goals as goal

pub overflow_add-counts : goal.overflow_add-counts
overflow_add-counts c =
    omega (
      arith,
      c.loop-d.invariant c.node_at.result c.node_at.ensures.node,
      count-le c.loop-d.d
          (λ d. node_of c.args.g.now d == c.node_at.result),
    )
