use Rattle.cp_pq.proofs.SmallStars.{set_of}
use Rattle.cp_pq.proofs.tests.contradicted_and_reduced.Goals as goal

pub reduce-requires : goal.reduce-requires
reduce-requires c =
    set_of c.args.root c.args.leaves.now c.args.last.now c.requires.last c.in_ok-without_pairs.without_pairs
    (c.in_ok-without_pairs.ensures c.args.root c.args.leaves.now c.in_ok-tree.ensures.leaves)
