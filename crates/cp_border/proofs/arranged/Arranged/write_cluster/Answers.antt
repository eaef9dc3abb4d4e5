use Rattle.std.proofs.Common.{◌≡◌, length, ap, arith}
use Rattle.cp_border.specs.Borders.{cluster_list}
use Rattle.cp_border.proofs.TurnLaws.{IsViewedUpto-next}
use Rattle.cp_border.proofs.arranged.Arranged.write_cluster.Goals as goal

pub returns : goal.returns
returns c =
    let long : length c.border_items-k-end.result.now ≡ length (cluster_list c.args.self.now.layout.now c.args.c) =
    ap length c.border_items-k-end.ensures in
    IsViewedUpto-next c.args.self.now.graph.now c.args.self.now.layout.now c.args.c c.loop-k.k c.loop-k.next
    c.loop-k.begins (omega arith) c.loop-k.invariant
