use Rattle.std.proofs.Common.{sym, ◌∙◌, subst}
use Rattle.std.specs.List.Sorted.{IsStrictlyIncreasing}
use Rattle.cp_pq.specs.SmallTrees.{HasLeaves}
use Rattle.cp_pq.proofs.SmallStars.{star_has}
use Rattle.cp_pq.proofs.DeepTrees.{numbers_some, numbers_distinct}
use Rattle.cp_pq.proofs.tests.chain.Goals as goal

pub star-requires-clause-not_empty : goal.star-requires-clause-not_empty
star-requires-clause-not_empty c = λ e. numbers_some _ _ c.in_ok-leaves.ensures c.requires (sym c.items.ensures ∙ e)

pub star-requires-clause-distinct : goal.star-requires-clause-distinct
star-requires-clause-distinct c = numbers_distinct _ _ _ c.in_ok-leaves.ensures c.items.ensures

pub nested-requires-clause-rising : goal.nested-requires-clause-rising
nested-requires-clause-rising c = subst IsStrictlyIncreasing (sym c.items-2.ensures) c.in_ok-leaves.ensures.rising

pub nested-requires-clause-leaves : goal.nested-requires-clause-leaves
nested-requires-clause-leaves c =
    (0, subst (λ z. HasLeaves 0 z c.in_ok-tree.tree) (c.items.ensures ∙ sym c.items-2.ensures) (star_has 0 _ _ _ _ c.in_ok-tree.ensures))
