use Rattle.std.proofs.Common.{List, ℕ, [], ◌∙◌}
use Rattle.std.proofs.lemmas.List.{get_or_default}
use Rattle.cp_rot.specs.Tables.{system_of}
use Rattle.cp_rot.proofs.NextTables.{StoredUpto-list}
use Rattle.cp_rot.proofs.building.write_all.Goals as goal

pub loop-list-preserved : goal.loop-list-preserved
loop-list-preserved c =
    let same = c.items.ensures ∙ c.list-item.is ∙ get_or_default {X = List ℕ} c.args.lists.now c.loop-list.list-index c.list-item.result [] c.loop-list-test.true in
    StoredUpto-list (system_of c.args.at.now c.args.lists.now) c.requires.rotation c.loop-list.list-index c.loop-list.table c.write_next.new.table c.items.result.now
    c.loop-list.invariant c.loop-list-test.true c.write_next.auto.table same c.write_next.ensures.written c.write_next.ensures.others
