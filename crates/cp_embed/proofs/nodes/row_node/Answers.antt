-- One leaf, or a Q-node.
use Rattle.std.proofs.Common.{sym, ap, ◌∙◌}
use Rattle.cp_pq.specs.declared.node.Node.TheVariants.{Q}
use Rattle.cp_embed.specs.TreeSteps.{row_body}
use Rattle.cp_embed.proofs.RowNodes.{one_item, row_many}
use Rattle.cp_embed.proofs.nodes.row_node.Goals as goal

pub returns-then-leaves-eq1 : goal.returns-then-leaves-eq1
returns-then-leaves-eq1 c = sym (ap (row_body c.args.var) (one_item c.args.leaves.now c.if-leaves-eq1.true))

pub returns : goal.returns
returns c = ap (Q c.args.var) c.in_ok-kids.ensures
    ∙ sym (row_many c.args.var c.args.leaves.now c.if-leaves-eq1.false)
