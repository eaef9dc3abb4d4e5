use Rattle.std.proofs.Common.{◌≡◌, ℕ, List, map, sym, ap, subst, ◌∙◌}
use Rattle.std.specs.List.Sorted.{IsStrictlyIncreasing}
use Rattle.std.proofs.lemmas.List.{map-id}
use Rattle.std.proofs.lemmas.Result.{IfOk-weaker}
use Rattle.cp_lists.specs.CyclicLists.{Distinct}
use Rattle.cp_board.specs.Names.{by_name, rising}
use Rattle.cp_sync.proofs.NamedOrder.{rising-by_name, rising-numbers}
use Rattle.cp_sync.proofs.rewriting.rising_numbers.Goals as goal

pub in_order-requires : goal.in_order-requires
in_order-requires c =
    subst (λ xs. IsStrictlyIncreasing (map (λ (n : ℕ). n) (by_name (λ (n : ℕ). n) xs))) (sym c.in_ok-from_slice.ensures.items)
    (rising-by_name (λ (n : ℕ). n) c.args.numbers.now (subst Distinct (sym (map-id c.args.numbers.now)) c.requires))

pub returns-clause-rising : goal.returns-clause-rising
returns-clause-rising c =
    IfOk-weaker c.in_order.result (λ list. list ≡ rising c.in_ok-from_slice.field-0.items) IsStrictlyIncreasing
    (λ (list : List ℕ) e. subst IsStrictlyIncreasing (sym (e ∙ ap rising c.in_ok-from_slice.ensures.items)) (rising-numbers c.args.numbers.now c.requires))
    c.in_order.ensures
