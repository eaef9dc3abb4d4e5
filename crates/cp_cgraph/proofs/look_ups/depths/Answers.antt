use Rattle.std.proofs.Common.{◌+◌, arith}
use Rattle.cp_cgraph.specs.LookUps.{depth}
use Rattle.cp_cgraph.proofs.Nesting.{IsTable-more, depth_next}
use Rattle.cp_cgraph.proofs.look_ups.depths.Goals as goal

pub overflow_add-outside : goal.overflow_add-outside
overflow_add-outside c =
    let next = depth_next c.args.g.now c.is_clustered.ensures.clustered c.counting.c c.parent.result
    c.index-outside.result.now c.counting.depths.items c.counting.auto.c c.parent.ensures.value c.index-outside.ensures c.counting.invariant in
    omega (arith, next.1, c.clusters-c-end.ensures.bound)

pub counting-preserved : goal.counting-preserved
counting-preserved c =
    let next = depth_next c.args.g.now c.is_clustered.ensures.clustered c.counting.c c.parent.result
    c.index-outside.result.now c.counting.depths.items c.counting.auto.c c.parent.ensures.value c.index-outside.ensures c.counting.invariant in
    rw c.in_ok-push-2.ensures.items (IsTable-more c.counting.c c.counting.depths.items (depth c.args.g.now)
    (c.index-outside.result.now + 1) c.counting.invariant next.0)
