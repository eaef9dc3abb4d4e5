use Rattle.std.proofs.Common.{[], ◌∷◌, ◌++◌, map, take, slice_index, sym, ap, ◌∙◌}
use Rattle.std.proofs.lemmas.List.{map-append, take_more}
use Rattle.cp_board.specs.Instances.{graph}
use Rattle.cp_board.specs.Rotations.{dart}
use Rattle.cp_poles.proofs.reordered.darts_of_edges.Goals as goal

pub loop-e-preserved : goal.loop-e-preserved
loop-e-preserved g c =
    let i = g.B.Board.instance c.args.board.now in
    let before = take c.loop-e.e-index c.args.order.now in
    let e = slice_index c.args.order.now c.loop-e.e-index in
    c.in_ok-push.ensures.items
    ∙ ap (λ xs. xs ++ c.dart_of.result ∷ []) c.loop-e.invariant
    ∙ ap (λ d. map (dart (graph i) c.args.u) before ++ d ∷ []) c.dart_of.ensures
    ∙ sym (ap (map (dart (graph i) c.args.u)) (take_more c.args.order.now c.loop-e.e-index 0 c.loop-e-test.true)
    ∙ map-append (dart (graph i) c.args.u) before (e ∷ []))
