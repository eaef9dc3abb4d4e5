use Rattle.cp_border.proofs.Rotation.{item_at}
use Rattle.cp_border.proofs.arranged.Arranged.border_item.Goals as goal

pub returns-clause-edge : goal.returns-clause-edge
returns-clause-edge c = rw c.border_items.ensures (item_at c.args.self.now.graph.now c.args.self.now.layout.now
    c.args.self.now.arranged c.args.c c.args.k c.requires.inner c.requires.cluster c.requires.place).edge

pub returns-clause-left : goal.returns-clause-left
returns-clause-left c = rw c.border_items.ensures (item_at c.args.self.now.graph.now c.args.self.now.layout.now
    c.args.self.now.arranged c.args.c c.args.k c.requires.inner c.requires.cluster c.requires.place).left
