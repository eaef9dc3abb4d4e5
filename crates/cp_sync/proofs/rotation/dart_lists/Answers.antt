use Rattle.std.proofs.Common.{◌<◌, length, slice_index, sym, subst, ◌∙◌}
use Rattle.std.specs.List.{All, Contains}
use Rattle.cp_board.specs.Instances.{graph, edge_names}
use Rattle.cp_board.specs.Rotations.{ArrangesEdges}
use Rattle.cp_board.specs.Solutions.{list_in}
use Rattle.cp_sync.proofs.NumberedGraphs.{listed_all}
use Rattle.cp_sync.proofs.rotation.dart_lists.Goals as goal

pub darts_round-requires-clause-live : goal.darts_round-requires-clause-live
darts_round-requires-clause-live g c =
    let i = g.B.Board.instance c.args.board.now in
    let k = c.loop-v.v-index in
    let v = slice_index c.args.verts.now k in
    subst (All (Contains (edge_names i))) (sym (c.items.ensures ∙ c.list_of.ensures))
    (listed_all (graph i) v (list_in c.args.s.now v)
    (subst (λ names. ArrangesEdges (graph i) (slice_index names k) (list_in c.args.s.now (slice_index names k))) (sym c.requires.verts)
    (c.requires.arranged k 0 (subst (λ names. k < length names) c.requires.verts c.loop-v-test.true))))
