use Rattle.std.proofs.Common.{ℕ, sym, subst, IsPermutation}
use Rattle.std.proofs.lemmas.List.Sorted.{IsPermutation-sym, IsNonDecreasingBy-from_sort}
use Rattle.cp_lists.specs.CyclicLists.{Distinct}
use Rattle.cp_pq.proofs.PermutedLists.{Distinct-IsPermutation}
use Rattle.cp_force.proofs.OpenedTrees.{sorted_rising}
use Rattle.cp_force.proofs.forcing.leaf_set.Goals as goal

pub returns-clause-permutation : goal.returns-clause-permutation
returns-clause-permutation c =
    IsPermutation-sym c.args.order.now c.sort_unstable.new.self.items
    (subst (λ z. IsPermutation z c.sort_unstable.new.self.items) c.in_ok-set.ensures.items
    c.sort_unstable.ensures.permutation)

pub returns-clause-rising : goal.returns-clause-rising
returns-clause-rising c =
    sorted_rising c.sort_unstable.new.self.items
    (IsNonDecreasingBy-from_sort (λ (x : ℕ). x) c.sort_unstable.new.self.items c.sort_unstable.ensures.sorted)
    (Distinct-IsPermutation c.in_ok-set.set.items c.sort_unstable.new.self.items c.sort_unstable.ensures.permutation
    (subst Distinct (sym c.in_ok-set.ensures.items) c.requires))
