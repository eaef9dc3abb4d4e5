-- By what is found under the name.
use Rattle.std.proofs.Common.{not, sym, ap, ◌∙◌}
use Rattle.std.specs.Prelude.{is_some}
use Rattle.cp_store.specs.Exchanges.{items_of}
use Rattle.cp_store.proofs.Tables.{is_some-under}
use Rattle.cp_store.proofs.gaps.is_gap.Goals as goal

pub returns-in-None : goal.returns-in-None
returns-in-None g c =
    sym (ap not (sym (is_some-under g.T.Named.name c.args.name (items_of c.args.table.now.entries.items))
    ∙ ap is_some c.in-None.ensures))

pub returns-in-Some : goal.returns-in-Some
returns-in-Some g c =
    sym (ap not (sym (is_some-under g.T.Named.name c.args.name (items_of c.args.table.now.entries.items))
    ∙ ap is_some c.in-Some.ensures))
