-- The place is that of the table, and it is one of the list.
use Rattle.std.proofs.Common.{◌∙◌, arith}
use Rattle.cp_conn.proofs.NamedGraphs.{rank_at}
use Rattle.cp_join.proofs.edge_places.place_among.Goals as goal

pub returns : goal.returns
returns c =
    let same = c.place_or.ensures ∙ c.requires.told c.args.edge in
    let at = rank_at c.args.edges.now c.args.edge c.requires.live in
    record { value = same; within = omega (arith, same, at.0) }
