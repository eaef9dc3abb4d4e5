use Rattle.std.proofs.Common.{◌++◌, arith, map, ap, ◌∙◌}
use Rattle.cp_store.specs.Rewriting.{kept}
use Rattle.cp_store.proofs.Listed.{items-listed, IsTable-listed}
use Rattle.cp_store.proofs.lists.table_of.Goals as goal

pub returns-clause-items : goal.returns-clause-items
returns-clause-items g c =
    items-listed g.T.Named.name c.args.items.now c.push_kept.new.to.items (c.in_ok-push_kept.ensures ∙ ap (λ xs. xs ++ map (kept g.T.Named.name) c.args.items.now) c.new-entries.ensures.items)

pub returns-clause-table : goal.returns-clause-table
returns-clause-table g c =
    IsTable-listed g.T.Named.name c.args.items.now c.push_kept.new.to.items (c.in_ok-push_kept.ensures ∙ ap (λ xs. xs ++ map (kept g.T.Named.name) c.args.items.now) c.new-entries.ensures.items) c.requires (omega (arith, c.if-items-gt-MOST_ENTRIES.false))
