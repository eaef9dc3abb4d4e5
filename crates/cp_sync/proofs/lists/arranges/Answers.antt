use Rattle.std.proofs.Common.{sym, subst, ◌∙◌}
use Rattle.std.specs.List.Sorted.{IsPermutation}
use Rattle.std.proofs.lemmas.List.Sorted.{IsPermutation-sym}
use Rattle.cp_sync.proofs.EqualOrders.{sorted_arrangement}
use Rattle.cp_sync.proofs.lists.arranges.Goals as goal

pub returns-clause-yes : goal.returns-clause-yes
returns-clause-yes c = λ t.
    let whole = subst (λ xs. IsPermutation xs c.sort.new.self.items) c.in_ok-sorted.ensures.items c.sort.ensures.permutation in
    IsPermutation-sym c.args.list.now c.args.edges.now
    (subst (IsPermutation c.args.list.now) (sym c.as_slice.ensures.value ∙ c.are_equal.ensures.yes t) whole)

pub returns-clause-no : goal.returns-clause-no
returns-clause-no c = λ f arranged.
    let whole = subst (λ xs. IsPermutation xs c.sort.new.self.items) c.in_ok-sorted.ensures.items c.sort.ensures.permutation in
    c.are_equal.ensures.no f
    (c.as_slice.ensures.value
    ∙ sorted_arrangement c.args.edges.now c.args.list.now c.sort.new.self.items c.requires arranged whole c.in_ok-sort.ensures.sorted)
