use Rattle.std.proofs.Common.{◌≡◌, sym, ap, ◌∙◌, subst}
use Rattle.std.specs.Prelude.{is_some, None, Some}
use Rattle.cp_store.specs.Exchanges.{under}
use Rattle.cp_store.proofs.Tables.{is_some-under, entry_name}
use Rattle.cp_store.proofs.table.has_entry.Goals as goal

pub returns-in-None : goal.returns-in-None
returns-in-None g c =
    let none = subst (λ es. under entry_name c.args.name es ≡ None) c.as_slice.ensures.value c.in-None.ensures in
    sym (sym (is_some-under entry_name c.args.name c.args.table.now.entries.items) ∙ ap is_some none)

pub returns-in-Some : goal.returns-in-Some
returns-in-Some g c =
    let found = subst (λ es. under entry_name c.args.name es ≡ Some c.in-Some.field-0.now) c.as_slice.ensures.value c.in-Some.ensures in
    sym (sym (is_some-under entry_name c.args.name c.args.table.now.entries.items) ∙ ap is_some found)
