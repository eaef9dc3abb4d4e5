use Rattle.std.proofs.Common.{ℕ, ◌≡◌, length, ap, arith, length-set}
use Rattle.cp_border.specs.Borders.{cluster_list}
use Rattle.cp_border.proofs.Darts.{length-borders_at}
use Rattle.cp_border.proofs.RotationLaw.{begin_dart-lt}
use Rattle.cp_border.proofs.TablesLaw.{border-more}
use Rattle.cp_border.proofs.arranged.Arranged.write_border.Goals as goal

pub bounds-at-start : goal.bounds-at-start
bounds-at-start c =
    let long : length c.border_items-count.result.now ≡ length (cluster_list c.args.self.now.layout.now c.args.c) =
    ap length c.border_items-count.ensures in
    let range = begin_dart-lt c.args.self.now.graph.now c.args.self.now.layout.now c.args.c c.loop-k.k c.requires.inner
    c.requires.cluster (omega arith) in
    omega (
      arith,
      range.1,
      length-borders_at c.args.self.now.graph.now c.args.self.now.layout.now,
      c.requires.start,
      c.requires.room,
    )

pub bounds-at-start-in-loop-k : goal.bounds-at-start-in-loop-k
bounds-at-start-in-loop-k c =
    let long : length c.border_items-count.result.now ≡ length (cluster_list c.args.self.now.layout.now c.args.c) =
    ap length c.border_items-count.ensures in
    let range = begin_dart-lt c.args.self.now.graph.now c.args.self.now.layout.now c.args.c c.loop-k.k c.requires.inner
    c.requires.cluster (omega arith) in
    omega (
      arith,
      range.1,
      length-borders_at c.args.self.now.graph.now c.args.self.now.layout.now,
      c.requires.start,
      c.requires.room,
      length-set {A = ℕ},
    )

pub loop-k-preserved : goal.loop-k-preserved
loop-k-preserved c =
    let long : length c.border_items-count.result.now ≡ length (cluster_list c.args.self.now.layout.now c.args.c) =
    ap length c.border_items-count.ensures in
    rw (c.item_vertex.ensures, c.item_vertex-in-loop-k.ensures, c.place_behind.ensures, c.border_items-count.ensures)
    (border-more c.args.self.now.graph.now c.args.self.now.layout.now c.loop-k.at c.args.c c.loop-k.k c.args.start
    c.requires.inner c.requires.cluster (omega arith) (omega (arith, c.requires.room)) c.requires.start
    c.loop-k.invariant)
