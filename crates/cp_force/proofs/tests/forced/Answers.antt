use Rattle.cp_force.proofs.SmallOrders.{star_distinct, star_some, star_var, order_some, order_distinct, order_leaves}
use Rattle.cp_force.proofs.tests.forced.Goals as goal

pub star-requires-clause-not_empty : goal.star-requires-clause-not_empty
star-requires-clause-not_empty g c = star_some c.args.leaves.now c.args.order.now c.requires

pub star-requires-clause-distinct : goal.star-requires-clause-distinct
star-requires-clause-distinct g c = star_distinct c.args.leaves.now c.args.order.now c.requires

pub force-requires-clause-not_empty : goal.force-requires-clause-not_empty
force-requires-clause-not_empty g c = order_some c.args.leaves.now c.args.order.now c.requires

pub force-requires-clause-distinct : goal.force-requires-clause-distinct
force-requires-clause-distinct g c = order_distinct c.args.leaves.now c.args.order.now c.requires

pub force-requires-clause-leaves_of : goal.force-requires-clause-leaves_of
force-requires-clause-leaves_of g c =
    order_leaves c.args.leaves.now c.args.order.now c.requires _ _ _ c.in_ok-star.ensures.star

pub force-requires-clause-var_within : goal.force-requires-clause-var_within
force-requires-clause-var_within g c = star_var _ _ _ c.in_ok-star.ensures.star
