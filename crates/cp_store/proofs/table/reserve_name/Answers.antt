use Rattle.std.proofs.Common.{◌<◌, length, arith, sym, ◌∙◌, subst}
use Rattle.cp_sync.specs.Places.{IsLowerPlace}
use Rattle.cp_store.specs.Exchanges.{entry_names}
use Rattle.cp_store.proofs.Tables.{IsGrown-insert}
use Rattle.cp_store.proofs.table.reserve_name.Goals as goal

pub returns-clause-grown : goal.returns-clause-grown
returns-clause-grown g c =
    let low = subst (λ xs. IsLowerPlace (entry_names xs) c.args.name c.lower_place-place.result) c.as_slice-entries.ensures.value c.lower_place-place.ensures in
    (IsGrown-insert g.T.Named.name c.args.table.now.entries.items c.insert.new.self.items c.lower_place-place.result c.args.name c.requires low
    (sym c.has_entry.ensures ∙ c.if-has_entry.false) (subst (λ xs. length xs < 2305843009213693952) c.as_slice-entries.ensures.value (omega (arith, c.if-entries-ge-MOST_ENTRIES.false))) c.in_ok-insert.ensures.items).0
