use Rattle.cp_force.proofs.SmallOrders.{set_distinct, set_some, star_set, reduced_set, reduced_orders, fresh_leaf}
use Rattle.cp_force.proofs.tests.replaced.Goals as goal

pub star-requires-clause-not_empty : goal.star-requires-clause-not_empty
star-requires-clause-not_empty g c = set_some c.args.leaves.now c.args.set.now c.requires.star

pub star-requires-clause-distinct : goal.star-requires-clause-distinct
star-requires-clause-distinct g c = set_distinct c.args.leaves.now c.args.set.now c.requires.star

pub reduce-requires : goal.reduce-requires
reduce-requires g c = star_set c.args.leaves.now c.args.set.now c.requires.star _ _ _ c.in_ok-star.ensures.star

pub replace-requires-clause-leaf_set : goal.replace-requires-clause-leaf_set
replace-requires-clause-leaf_set g c =
    let set = star_set c.args.leaves.now c.args.set.now c.requires.star _ _ _ c.in_ok-star.ensures.star in
    reduced_set c.args.set.now _ _ set c.in_ok-tree.ensures.reduced

pub replace-requires-clause-consecutive : goal.replace-requires-clause-consecutive
replace-requires-clause-consecutive g c = reduced_orders c.args.set.now _ _ c.in_ok-tree.ensures.reduced

pub replace-requires-clause-fresh : goal.replace-requires-clause-fresh
replace-requires-clause-fresh g c =
    fresh_leaf c.args.leaf c.args.leaves.now c.args.set.now _ _ _ _ c.requires.fresh c.in_ok-star.ensures.star
    c.in_ok-tree.ensures.reduced
