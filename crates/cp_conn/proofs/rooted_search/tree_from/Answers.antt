use Rattle.cp_conn.specs.SearchForest.{forest_of}
use Rattle.cp_conn.proofs.SearchTrees.{connected_all, tree_of, along_read}
use Rattle.cp_conn.proofs.rooted_search.tree_from.Goals as goal

pub forest_from-requires-clause-connected : goal.forest_from-requires-clause-connected
forest_from-requires-clause-connected c v lt =
    connected_all c.args.ends.now c.args.vertices c.args.s c.args.t v c.requires.ends_within c.requires.biconnected
    c.requires.joined lt

pub returns-clause-tree : goal.returns-clause-tree
returns-clause-tree c =
    tree_of c.args.ends.now c.args.vertices
    (forest_of c.in_ok-forest.forest) c.in_ok-points.points.items c.args.s c.args.t
    c.in_ok-parents.parents.items c.in_ok-up.up.items c.in_ok-low.low.items
    (record {
      within = c.requires.ends_within;
      bi = c.requires.biconnected;
      joined = c.requires.joined;
      grown = c.in_ok-forest.ensures.grown;
      met = c.in_ok-forest.ensures.all_met;
      searched = c.in_ok-forest.ensures.forest;
      points = c.in_ok-points.ensures;
      first = c.in_ok-forest.ensures.first;
      second = c.in_ok-forest.ensures.second;
    })
    (along_read c.in_ok-forest.forest.order.items c.as_slice.result.now c.in_ok-forest.forest.parent.items
    c.as_slice-2.result.now c.in_ok-parents.parents.items c.as_slice.ensures.value c.as_slice-2.ensures.value
    c.in_ok-parents.ensures.size c.in_ok-parents.ensures.each)
    (along_read c.in_ok-parents.parents.items c.as_slice-3.result.now c.in_ok-forest.forest.number.items
    c.as_slice-4.result.now c.in_ok-up.up.items c.as_slice-3.ensures.value c.as_slice-4.ensures.value
    c.in_ok-up.ensures.size c.in_ok-up.ensures.each)
    (along_read c.in_ok-forest.forest.order.items c.as_slice-5.result.now c.in_ok-points.points.items
    c.as_slice-6.result.now c.in_ok-low.low.items c.as_slice-5.ensures.value c.as_slice-6.ensures.value
    c.in_ok-low.ensures.size c.in_ok-low.ensures.each)
