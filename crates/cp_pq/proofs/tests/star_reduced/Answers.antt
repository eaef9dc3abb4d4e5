use Rattle.cp_pq.specs.Promises.{IsReduced}
use Rattle.cp_pq.specs.SmallTrees.{HasLeaves}
use Rattle.cp_pq.proofs.Results.{IfOk-map}
use Rattle.cp_pq.proofs.SmallStars.{star_distinct, star_some, star_has, reduced_has, set_of}
use Rattle.cp_pq.proofs.tests.star_reduced.Goals as goal

pub star-requires-clause-not_empty : goal.star-requires-clause-not_empty
star-requires-clause-not_empty c = star_some c.args.root c.args.leaves.now c.args.first.now c.requires.first

pub star-requires-clause-distinct : goal.star-requires-clause-distinct
star-requires-clause-distinct c = star_distinct c.args.root c.args.leaves.now c.args.first.now c.requires.first

pub reduce-requires : goal.reduce-requires
reduce-requires c = set_of c.args.root c.args.leaves.now c.args.first.now c.requires.first c.in_ok-tree.tree (star_has _ _ _ _ _ c.in_ok-tree.ensures)

pub reduce-requires-2 : goal.reduce-requires-2
reduce-requires-2 c = set_of c.args.root c.args.leaves.now c.args.second.now c.requires.second c.in_ok-once.once
    (reduced_has _ _ _ _ _ c.in_ok-once.ensures.reduced (star_has _ _ _ _ _ c.in_ok-tree.ensures))

pub reduce-requires-3 : goal.reduce-requires-3
reduce-requires-3 c = set_of c.args.root c.args.leaves.now c.args.last.now c.requires.last c.in_ok-twice.twice
    (reduced_has _ _ _ _ _ c.in_ok-twice.ensures.reduced (reduced_has _ _ _ _ _ c.in_ok-once.ensures.reduced (star_has _ _ _ _ _ c.in_ok-tree.ensures)))

pub returns-clause-leaves : goal.returns-clause-leaves
returns-clause-leaves c =
    let xs = c.args.leaves.now in let old = c.in_ok-twice.twice in
    let has = reduced_has _ _ _ _ _ c.in_ok-twice.ensures.reduced
    (reduced_has _ _ _ _ _ c.in_ok-once.ensures.reduced (star_has _ _ _ _ _ c.in_ok-tree.ensures)) in
    IfOk-map (λ t. IsReduced c.args.last.now old t) (λ t. HasLeaves c.args.root xs t)
    (λ t r. reduced_has c.args.root xs c.args.last.now old t r has) c.reduce-3.result c.reduce-3.ensures.reduced
