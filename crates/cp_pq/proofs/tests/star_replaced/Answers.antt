use Rattle.cp_pq.proofs.SmallStars.{set_of, leaf_fresh}
use Rattle.cp_pq.proofs.tests.star_replaced.Goals as goal

pub replace-requires-clause-leaf_set : goal.replace-requires-clause-leaf_set
replace-requires-clause-leaf_set c =
    set_of c.args.root c.args.leaves.now c.args.last.now c.requires.last c.in_ok-tree.tree c.in_ok-tree.ensures.leaves

pub replace-requires-clause-fresh : goal.replace-requires-clause-fresh
replace-requires-clause-fresh c =
    leaf_fresh c.args.root c.args.leaf c.args.leaves.now c.args.last.now c.requires.fresh c.in_ok-tree.tree
    c.in_ok-tree.ensures.leaves
