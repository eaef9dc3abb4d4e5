use Rattle.cp_sync.proofs.VertexTables.{IsPut-from}
use Rattle.cp_sync.proofs.tables.put_edge.Goals as goal

pub returns : goal.returns
returns c =
    IsPut-from c.args.verts.now c.args.e c.args.at.now.items c.push_at.new.at.items c.push_at-2.new.at.items
    c.lower_place.result c.lower_place-2.result
    c.requires.rising c.requires.live c.requires.differ c.requires.one_each
    c.lower_place.ensures c.lower_place-2.ensures c.in_ok-push_at.ensures c.in_ok-push_at-2.ensures
