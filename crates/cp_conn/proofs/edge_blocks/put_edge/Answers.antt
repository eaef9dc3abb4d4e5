use Rattle.cp_conn.proofs.BlocksAt.{put_edge, place_within}
use Rattle.cp_conn.proofs.edge_blocks.put_edge.Goals as goal

pub put-requires-clause-place_within : goal.put-requires-clause-place_within
put-requires-clause-place_within c =
    place_within c.args.ends.now c.args.v c.args.edge c.in-Some.x c.args.least.now c.args.parts.now.items
    c.args.places.now.items c.requires.ends_within c.requires.labels_within c.requires.edge_within c.requires.placed
    c.in-Some.ensures.0 c.in-Some.ensures.1

pub returns-in_ok-put-in-Some-clause-grouped : goal.returns-in_ok-put-in-Some-clause-grouped
returns-in_ok-put-in-Some-clause-grouped c =
    (put_edge c.args.ends.now c.args.v c.args.edge c.in-Some.x c.args.least.now c.args.parts.now.items
    c.args.places.now.items c.put.new.parts.items c.put.new.places.items c.requires.ends_within
    c.requires.labels_within c.requires.edge_within c.requires.grouped c.requires.placed c.in-Some.ensures.0
    c.in-Some.ensures.1 c.in_ok-put-in-Some.ensures).0

pub returns-in_ok-put-in-Some-clause-placed : goal.returns-in_ok-put-in-Some-clause-placed
returns-in_ok-put-in-Some-clause-placed c =
    (put_edge c.args.ends.now c.args.v c.args.edge c.in-Some.x c.args.least.now c.args.parts.now.items
    c.args.places.now.items c.put.new.parts.items c.put.new.places.items c.requires.ends_within
    c.requires.labels_within c.requires.edge_within c.requires.grouped c.requires.placed c.in-Some.ensures.0
    c.in-Some.ensures.1 c.in_ok-put-in-Some.ensures).1
