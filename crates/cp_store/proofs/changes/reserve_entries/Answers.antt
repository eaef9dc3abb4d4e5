use Rattle.std.proofs.Common.{sym, subst, arith, take}
use Rattle.std.specs.List.{All}
use Rattle.std.proofs.lemmas.List.{take_all}
use Rattle.cp_store.specs.Exchanges.{entry_names, HasItsName, IsReserved}
use Rattle.cp_store.proofs.Tables.{IsGrown-next, All-grown}
use Rattle.cp_store.proofs.ManyExchanges.{All-more}
use Rattle.cp_store.proofs.changes.reserve_entries.Goals as goal

pub loop-entry-preserved : goal.loop-entry-preserved
loop-entry-preserved g c =
    let name = g.T.Named.name in
    let old = c.loop-entry.table.entries.items in
    let new = c.reserve_name.new.table.entries.items in
    let entry = c.entry-item.result in
    let es = c.args.entries.now in
    let k = c.loop-entry.entry-index in (
      IsGrown-next name c.args.table.now.entries.items old new c.loop-entry.invariant.0 c.reserve_name.ensures.grown,
      All-more (IsReserved name (entry_names new)) es k entry c.loop-entry-test.true c.entry-item.is
          (All-grown name (entry_names old) (entry_names new) (take k es) c.reserve_name.ensures.grown.names c.loop-entry.invariant.1)
          record { known = c.in_ok-reserve_name.ensures.ok; named = subst (HasItsName name) (sym c.entry-item.is) (c.requires.named k entry c.loop-entry-test.true) },
    )

pub returns-clause-ok : goal.returns-clause-ok
returns-clause-ok g c =
    let name = g.T.Named.name in
    subst (All (IsReserved name (entry_names c.loop-entry.table.entries.items)))
    (take_all c.loop-entry.entry-index c.args.entries.now (omega (arith, c.loop-entry-test.false))) c.loop-entry.invariant.1
