use Rattle.std.proofs.Common.{◌≡◌, sym, ap, ◌∙◌, subst}
use Rattle.std.specs.Prelude.{None, Some, MatchOption}
use Rattle.cp_store.specs.Exchanges.{under}
use Rattle.cp_store.proofs.Tables.{under-items, item_in, entry_name}
use Rattle.cp_store.proofs.table.item_under.Goals as goal

pub returns-in-None : goal.returns-in-None
returns-in-None g c =
    let none = subst (λ es. under entry_name c.args.name es ≡ None) c.as_slice.ensures.value c.in-None.ensures in
    under-items g.T.Named.name c.args.name c.args.table.now.entries.items c.requires ∙ ap item_in none

pub returns-in-Some : goal.returns-in-Some
returns-in-Some g c =
    let found = subst (λ es. under entry_name c.args.name es ≡ Some c.in-Some.entry.now) c.as_slice.ensures.value c.in-Some.ensures in
    subst (λ o. MatchOption c.item_of.result (o ≡ None) (λ found. o ≡ Some found.now))
    (sym (under-items g.T.Named.name c.args.name c.args.table.now.entries.items c.requires ∙ ap item_in found)) c.item_of.ensures
