use Rattle.cp_force.proofs.SmallOrders.{set_distinct, set_some, star_set}
use Rattle.cp_force.proofs.tests.reduced.Goals as goal

pub star-requires-clause-not_empty : goal.star-requires-clause-not_empty
star-requires-clause-not_empty g c = set_some c.args.leaves.now c.args.set.now c.requires

pub star-requires-clause-distinct : goal.star-requires-clause-distinct
star-requires-clause-distinct g c = set_distinct c.args.leaves.now c.args.set.now c.requires

pub reduce-requires : goal.reduce-requires
reduce-requires g c = star_set c.args.leaves.now c.args.set.now c.requires _ _ _ c.in_ok-star.ensures.star
