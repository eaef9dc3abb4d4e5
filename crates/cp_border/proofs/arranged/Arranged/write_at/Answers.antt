use Rattle.std.proofs.Common.{arith}
use Rattle.cp_border.proofs.Darts.{length-borders_at}
use Rattle.cp_border.proofs.TablesLaw.{HasBorders-start, HasBorders-more, HasBorders-end}
use Rattle.cp_border.proofs.arranged.Arranged.write_at.Goals as goal

pub write_segments-requires : goal.write_segments-requires
write_segments-requires c = omega (
  arith,
  c.requires,
  length-borders_at c.args.self.now.graph.now
      c.args.self.now.layout.now,
)

pub loop-c-init : goal.loop-c-init
loop-c-init c =
    rw (c.edges.ensures.value, c.edges-2.ensures.value) (HasBorders-start c.args.self.now.graph.now
    c.args.self.now.layout.now c.args.self.now.first.now c.write_segments.new.at c.args.self.now.first_told
    c.write_segments.ensures)

pub loop-c-preserved : goal.loop-c-preserved
loop-c-preserved c =
    rw c.border_items.ensures (HasBorders-more c.args.self.now.graph.now c.args.self.now.layout.now c.loop-c.c
    c.loop-c.start c.loop-c.at c.write_border.new.at (omega arith) c.loop-c.invariant c.write_border.ensures)

pub returns : goal.returns
returns c = HasBorders-end c.args.self.now.graph.now c.args.self.now.layout.now c.loop-c.c c.loop-c.start c.loop-c.at
    (omega (arith, c.clusters-c-end.ensures.value)) c.loop-c.invariant
