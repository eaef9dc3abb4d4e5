use Rattle.std.proofs.Common.{◌∙◌, [], ◌∷◌, sym, subst}
use Rattle.std.specs.List.{All}
use Rattle.cp_store.specs.Exchanges.{entry_names, items_of, IsReserved}
use Rattle.cp_store.proofs.ManyExchanges.{All-first, All-last, rest-exchanged}
use Rattle.cp_store.proofs.changes.take_back.Goals as goal

pub exchange-requires-clause-reserved : goal.exchange-requires-clause-reserved
exchange-requires-clause-reserved g c =
    let name = g.T.Named.name in
    let held = c.loop-entry.invariant in
    let first = entry_names c.args.table.now.entries.items in
    subst (λ names. IsReserved name names c.in-Some.entry) (sym held.1)
    (All-last (IsReserved name first) c.pop.new.self.items c.in-Some.entry (subst (All (IsReserved name first)) c.in-Some.ensures.items held.3))

pub loop-entry-preserved-in-Some : goal.loop-entry-preserved-in-Some
loop-entry-preserved-in-Some g c =
    let name = g.T.Named.name in
    let held = c.loop-entry.invariant in
    let first = entry_names c.args.table.now.entries.items in (
      c.exchange.ensures.table,
      c.exchange.ensures.names ∙ held.1,
      rest-exchanged name c.loop-entry.rest.items c.pop.new.self.items c.in-Some.entry (items_of c.loop-entry.table.entries.items) (items_of c.exchange.new.table.entries.items) c.in-Some.ensures.items c.exchange.ensures.items ∙ held.2,
      All-first (IsReserved name first) c.pop.new.self.items (c.in-Some.entry ∷ []) (subst (All (IsReserved name first)) c.in-Some.ensures.items held.3),
    )

pub loop-entry-preserved : goal.loop-entry-preserved
loop-entry-preserved g c =
    let name = g.T.Named.name in
    let held = c.loop-entry.invariant in
    let first = entry_names c.args.table.now.entries.items in (
      c.exchange.ensures.table,
      c.exchange.ensures.names ∙ held.1,
      rest-exchanged name c.loop-entry.rest.items c.pop.new.self.items c.in-Some.entry (items_of c.loop-entry.table.entries.items) (items_of c.exchange.new.table.entries.items) c.in-Some.ensures.items c.exchange.ensures.items ∙ held.2,
      All-first (IsReserved name first) c.pop.new.self.items (c.in-Some.entry ∷ []) (subst (All (IsReserved name first)) c.in-Some.ensures.items held.3),
    )
