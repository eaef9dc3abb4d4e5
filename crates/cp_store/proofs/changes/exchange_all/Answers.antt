use Rattle.std.proofs.Common.{◌∙◌, [], ◌∷◌, sym, subst, arith}
use Rattle.std.specs.List.{All}
use Rattle.std.proofs.lemmas.List.Elements.{All-append, All-cons, All-nil}
use Rattle.cp_store.specs.Exchanges.{entry_names, items_of, IsReserved}
use Rattle.cp_store.proofs.ManyExchanges.{All-first, All-last, rest-exchanged, done-exchanged}
use Rattle.cp_store.proofs.changes.exchange_all.Goals as goal

pub exchange-requires-clause-reserved : goal.exchange-requires-clause-reserved
exchange-requires-clause-reserved g c =
    let name = g.T.Named.name in
    let held = c.loop-entry.invariant in
    let first = entry_names c.args.table.now.entries.items in
    subst (λ names. IsReserved name names c.in-Some.entry) (sym held.1)
    (All-last (IsReserved name first) c.pop.new.self.items c.in-Some.entry (subst (All (IsReserved name first)) c.in-Some.ensures.items held.4))

pub loop-entry-preserved : goal.loop-entry-preserved
loop-entry-preserved g c =
    let name = g.T.Named.name in
    let held = c.loop-entry.invariant in
    let first = entry_names c.args.table.now.entries.items in
    let old = items_of c.loop-entry.table.entries.items in
    let new = items_of c.exchange.new.table.entries.items in (
      c.exchange.ensures.table,
      c.exchange.ensures.names ∙ held.1,
      rest-exchanged name c.loop-entry.rest.items c.pop.new.self.items c.in-Some.entry old new c.in-Some.ensures.items c.exchange.ensures.items ∙ held.2,
      done-exchanged name c.loop-entry.done.items c.push_reserved.new.self.items c.exchange.new.entry old new c.push_reserved.ensures.items c.exchange.ensures.back ∙ held.3,
      All-first (IsReserved name first) c.pop.new.self.items (c.in-Some.entry ∷ []) (subst (All (IsReserved name first)) c.in-Some.ensures.items held.4),
      subst (All (IsReserved name first)) (sym c.push_reserved.ensures.items)
          (All-append (IsReserved name first) c.loop-entry.done.items (c.exchange.new.entry ∷ []) held.5
          (All-cons (IsReserved name first) c.exchange.new.entry [] (subst (λ names. IsReserved name names c.exchange.new.entry) held.1 c.exchange.ensures.reserved) (All-nil (IsReserved name first)))),
      omega (arith, held.6, c.push_reserved.ensures.len, c.push_reserved.ensures.capacity, c.in-Some.ensures.len),
    )
