-- One leaf, or a P-node.
use Rattle.std.proofs.Common.{sym, ap, ◌∙◌}
use Rattle.cp_pq.specs.declared.node.Node.TheVariants.{P}
use Rattle.cp_pq.proofs.Stars.{body_one, body_many}
use Rattle.cp_embed.proofs.RowNodes.{one_item}
use Rattle.cp_embed.proofs.nodes.any_order_node.Goals as goal

pub returns-then-leaves-eq1 : goal.returns-then-leaves-eq1
returns-then-leaves-eq1 c =
    sym (body_one c.args.owner c.args.leaves.now _ (one_item c.args.leaves.now c.if-leaves-eq1.true))

pub returns : goal.returns
returns c = ap (P c.args.owner) c.in_ok-kids.ensures
    ∙ sym (body_many c.args.owner c.args.leaves.now c.if-leaves-eq1.false)
