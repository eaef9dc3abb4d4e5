use Rattle.std.proofs.Common.{sym, subst, ◌∙◌}
use Rattle.cp_cgraph.specs.Clustered.{IsClustered}
use Rattle.cp_cgraph.proofs.Gathered.{clustered}
use Rattle.cp_cgraph.proofs.Tables.{IsClustered-graph_of}
use Rattle.cp_cgraph.proofs.reader.tables.Goals as goal

pub new-requires-clause-clustered : goal.new-requires-clause-clustered
new-requires-clause-clustered c =
    let es = c.args.entries.now in
    let same = clustered es c.in_ok-ids.ids.items c.ids-2.result.now c.in_ok-ends.ends.items
    c.in_ok-parents.parents.items c.in_ok-homes.homes.items c.items-3.result.now
    (c.in_ok-ids.ensures.items ∙ c.ids.ensures ∙ c.requires.ids)
    (c.ids-2.ensures ∙ c.requires.ids)
    (c.in_ok-ends.ensures.items ∙ c.items.ensures ∙ c.requires.ends)
    (c.in_ok-parents.ensures.items ∙ c.items-2.ensures ∙ c.requires.parents)
    (c.items-3.ensures ∙ c.requires.names)
    c.in_ok-homes.ensures in
    subst IsClustered (sym same) (IsClustered-graph_of es)
