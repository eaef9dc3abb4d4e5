use Rattle.std.proofs.Common.{◌≤◌, ◌<◌, length, arith}
use Rattle.cp_conn.specs.SearchForest.{forest_of}
use Rattle.cp_conn.proofs.Deepening.{follow_old_read, follow_new_read, fewer_read, further_push}
use Rattle.cp_conn.proofs.search_forest.follow_next.Goals as goal

pub returns-then-index-len-clause-stands : goal.returns-then-index-len-clause-stands
returns-then-index-len-clause-stands c =
    let met : c.index-2.result.now < length c.args.next.now.items = omega arith in
    follow_old_read c.args.ends.now
    (length c.args.next.now.items) (forest_of c.args.forest.now) c.args.next.now.items c.args.lower.now c.args.vertex
    c.index.result.now c.finish_of-to.result c.index-2.result.now
    c.requires.ends_within c.requires.stands c.requires.lead c.requires.some_left c.index.ensures c.finish_of-to.ensures
    c.index-2.ensures met

pub returns-then-index-len-clause-fewer : goal.returns-then-index-len-clause-fewer
returns-then-index-len-clause-fewer c =
    fewer_read c.args.ends.now (length c.args.next.now.items) (forest_of c.args.forest.now) c.args.next.now.items
    c.args.lower.now c.args.vertex c.index.result.now c.requires.stands c.requires.lead c.requires.some_left
    c.index.ensures

pub returns-clause-stands : goal.returns-clause-stands
returns-clause-stands c =
    let new : length c.args.next.now.items ≤ c.index-2.result.now = omega arith in
    (follow_new_read c.args.ends.now
    (length c.args.next.now.items) (forest_of c.args.forest.now) c.args.next.now.items c.args.lower.now c.args.vertex
    c.index.result.now c.finish_of-to.result c.index-2.result.now (forest_of c.meet.new.forest)
    c.requires.ends_within c.requires.stands c.requires.lead c.requires.some_left c.index.ensures c.finish_of-to.ensures
    c.index-2.ensures new c.in_ok-meet.ensures).0

pub returns-clause-fewer : goal.returns-clause-fewer
returns-clause-fewer c =
    fewer_read c.args.ends.now (length c.args.next.now.items) (forest_of c.args.forest.now) c.args.next.now.items
    c.args.lower.now c.args.vertex c.index.result.now c.requires.stands c.requires.lead c.requires.some_left
    c.index.ensures

pub returns-clause-further : goal.returns-clause-further
returns-clause-further c = further_push (forest_of c.args.forest.now) (forest_of c.meet.new.forest)
    c.finish_of-to.result c.args.vertex _ c.in_ok-meet.ensures
