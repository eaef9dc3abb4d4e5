use Rattle.std.proofs.Common.{arith}
use Rattle.cp_lists.specs.Count.{count}
use Rattle.cp_lists.proofs.Counting.{count-le}
use Rattle.cp_rot.specs.Systems.{edges}
use Rattle.cp_rotlaw.specs.Glue.{edge_avoids}
use Rattle.cp_rotlaw.proofs.GluedTables.{values_last}
use Rattle.cp_rotlaw.proofs.gluing_tables.kept_before.Goals as goal

pub overflow_add-number : goal.overflow_add-number
overflow_add-number c = omega (arith, count-le c.loop-e.e (edge_avoids c.args.b.now c.args.w), c.loop-e.invariant.1, c.loop-e-test.true, c.darts-e-end.ensures.bound)

pub returns : goal.returns
returns c = values_last (edges c.args.b.now) (λ e. count e (edge_avoids c.args.b.now c.args.w)) c.loop-e.e (omega (arith, c.loop-e-test.false, c.loop-e.auto, c.darts-e-end.ensures.value)) c.loop-e.invariant.0 c.loop-e.invariant.1 c.in_ok-push-2.ensures.items
