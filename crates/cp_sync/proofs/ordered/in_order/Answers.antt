use Rattle.std.proofs.Common.{rules, ◌≡◌, subst}
use Rattle.std.specs.Prelude.{IfOk}
use Rattle.std.proofs.lemmas.List.Sorted.{IsNonDecreasingBy-from_sort_by_key}
use Rattle.cp_sync.proofs.NamedOrder.{sorted_by_name}
use Rattle.cp_sync.proofs.ordered.in_order.Goals as goal

pub returns : goal.returns
returns g c =
    let name = g.T.Named.name in
    subst (λ xs. IfOk c.stored.result (λ list. list ≡ xs))
    (sorted_by_name name c.args.items.items c.sort_by_key.new.self.items c.requires c.in_ok-sort_by_key.ensures.permutation
    (IsNonDecreasingBy-from_sort_by_key name _ c.in_ok-sort_by_key.ensures.sorted (λ a r q k. search rules)))
    c.stored.ensures
