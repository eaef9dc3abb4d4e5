use Rattle.std.proofs.lemmas.Result.{IfOk-weaker}
use Rattle.cp_ears.proofs.Biconnected.{biconnected_of}
use Rattle.cp_ears.proofs.BipolarOrders.{adjacent_neighbour, bipolar_read}
use Rattle.cp_ears.proofs.bipolar_order.bipolar.Goals as goal

pub search_tree-requires-clause-biconnected : goal.search_tree-requires-clause-biconnected
search_tree-requires-clause-biconnected c =
    biconnected_of c.args.g.now.vertices c.args.g.now.ends c.requires.no_loop c.requires.one_block
    c.requires.each_has_edge

pub search_tree-requires-clause-joined : goal.search_tree-requires-clause-joined
search_tree-requires-clause-joined c =
    adjacent_neighbour c.args.g.now.ends c.args.s c.args.t c.requires.no_loop c.requires.joined

pub returns : goal.returns
returns c =
    IfOk-weaker c.put_in_order.result _ _
    (λ found stand. bipolar_read c.args.g.now c.args.s c.args.t c.in_ok-tree.tree.order.items c.in_ok-tree.tree.up.items
    c.in_ok-tree.tree.low.items c.as_slice-3.result.now c.as_slice.result.now c.as_slice-2.result.now
    c.in_ok-places.places.items c.as_slice-4.result.now found.items
    c.in_ok-tree.ensures.tree c.in_ok-tree.ensures.first c.in_ok-tree.ensures.second c.as_slice-3.ensures.value
    c.as_slice.ensures.value c.as_slice-2.ensures.value c.as_slice-4.ensures.value c.in_ok-places.ensures stand)
    c.put_in_order.ensures
