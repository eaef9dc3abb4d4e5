use Rattle.std.proofs.Common.{◌*◌, ◌+◌, length, ap, arith}
use Rattle.cp_border.proofs.ListLaws.{start-lt, start_next}
use Rattle.cp_border.proofs.arranged.Arranged.write_turns.Goals as goal

pub overflow_add-start-in-loop-c : goal.overflow_add-start-in-loop-c
overflow_add-start-in-loop-c c =
    let next = start_next c.args.self.now.graph.now c.args.self.now.layout.now c.loop-c.c c.loop-c.start
    (length c.border_items.result.now) (omega arith) c.loop-c.invariant.start (ap length c.border_items.ensures) in
    let few = start-lt c.args.self.now.graph.now c.args.self.now.layout.now c.args.self.now.clustered
    c.args.self.now.arranged (c.loop-c.c + 1) (c.loop-c.start + 2 * length c.border_items.result.now)
    (omega (arith, c.clusters-c-end.ensures.value)) (omega (arith, c.args.self.now.few_edges))
    c.args.self.now.few_vertices next in
    omega (arith, few)

pub loop-c-preserved : goal.loop-c-preserved
loop-c-preserved c = record {
  start = start_next c.args.self.now.graph.now c.args.self.now.layout.now c.loop-c.c c.loop-c.start
      (length c.border_items.result.now) (omega arith) c.loop-c.invariant.start (ap length c.border_items.ensures);
  viewed = c.write_cluster.ensures;
}
