use Rattle.std.proofs.Common.{map, take, slice_index_or, sym, ap, subst, ◌∙◌}
use Rattle.std.specs.List.{Contains}
use Rattle.std.specs.List.Sorted.{IsStrictlyIncreasing}
use Rattle.std.proofs.lemmas.List.{get_or_default}
use Rattle.cp_board.specs.declared.rewrite.EdgeMove.{EdgeMove}
use Rattle.cp_board.specs.Instances.{names_of_edges}
use Rattle.cp_board.specs.Rewrites.{moved_end}
use Rattle.cp_sync.proofs.Moves.{names-after_moves, after_moves-more}
use Rattle.cp_sync.proofs.rewriting.move_ends.Goals as goal

pub move_end-requires-clause-rising : goal.move_end-requires-clause-rising
move_end-requires-clause-rising c =
    subst IsStrictlyIncreasing
    (sym (ap names_of_edges c.loop-m.invariant ∙ names-after_moves (take c.loop-m.m-index c.args.moves.now) c.args.edges.now))
    c.requires.rising

pub move_end-requires-clause-live : goal.move_end-requires-clause-live
move_end-requires-clause-live c =
    let m : EdgeMove = slice_index_or c.args.moves.now c.loop-m.m-index record { edge = 0; from = 0; to = 0 } in
    subst (λ names. Contains names m.edge)
    (sym (ap names_of_edges c.loop-m.invariant ∙ names-after_moves (take c.loop-m.m-index c.args.moves.now) c.args.edges.now))
    (c.requires.live c.loop-m.m-index record { edge = 0; from = 0; to = 0 } c.loop-m-test.true)

pub loop-m-preserved : goal.loop-m-preserved
loop-m-preserved c =
    let m : EdgeMove = slice_index_or c.args.moves.now c.loop-m.m-index record { edge = 0; from = 0; to = 0 } in
    c.move_end.ensures
    ∙ ap (map (moved_end m)) c.loop-m.invariant
    ∙ after_moves-more c.args.moves.now c.loop-m.m-index m c.args.edges.now c.loop-m-test.true
    (get_or_default c.args.moves.now c.loop-m.m-index record { edge = 0; from = 0; to = 0 } m c.loop-m-test.true)
