use Rattle.std.proofs.Common.{◌≡◌, true, [], ◌∷◌, map, take, slice_index_or, sym, ap, ◌∙◌, subst, arith}
use Rattle.std.specs.List.{All}
use Rattle.std.proofs.lemmas.List.{get_or_default}
use Rattle.std.proofs.lemmas.List.Elements.{All-append, All-cons, All-nil}
use Rattle.cp_board.specs.declared.rewrite.EdgeMove.{EdgeMove}
use Rattle.cp_board.specs.Names.{has}
use Rattle.cp_board.specs.Instances.{names_of_edges}
use Rattle.cp_board.specs.Rewrites.{moved_end}
use Rattle.cp_store.specs.Exchanges.{entry_names, items_of, IsReserved}
use Rattle.cp_sync.proofs.Moves.{names-after_moves, after_moves-more}
use Rattle.cp_store.proofs.EdgeMoves.{row_name}
use Rattle.cp_store.proofs.ManyExchanges.{done-exchanged}
use Rattle.cp_store.proofs.moves.move_ends.Goals as goal

pub move_end-requires-clause-live : goal.move_end-requires-clause-live
move_end-requires-clause-live c =
    let none : EdgeMove = record { edge = 0; from = 0; to = 0 } in
    let m : EdgeMove = slice_index_or c.args.moves.now c.loop-m.m-index none in
    subst (λ ns. has ns m.edge ≡ true)
    (sym (ap names_of_edges c.loop-m.invariant.2 ∙ names-after_moves (take c.loop-m.m-index c.args.moves.now) (items_of c.args.edges.now.entries.items)))
    (c.requires.live c.loop-m.m-index none c.loop-m-test.true)

pub loop-m-preserved : goal.loop-m-preserved
loop-m-preserved c =
    let none : EdgeMove = record { edge = 0; from = 0; to = 0 } in
    let m : EdgeMove = slice_index_or c.args.moves.now c.loop-m.m-index none in
    let held = c.loop-m.invariant in
    let first = entry_names c.args.edges.now.entries.items in (
      c.move_end.ensures.table,
      c.move_end.ensures.names ∙ held.1,
      c.move_end.ensures.items ∙ ap (map (moved_end m)) held.2 ∙ after_moves-more c.args.moves.now c.loop-m.m-index m (items_of c.args.edges.now.entries.items) c.loop-m-test.true
          (get_or_default c.args.moves.now c.loop-m.m-index none m c.loop-m-test.true),
      done-exchanged row_name c.loop-m.done.items c.push_reserved.new.self.items c.move_end.result (items_of c.loop-m.edges.entries.items) (items_of c.move_end.new.edges.entries.items) c.push_reserved.ensures.items c.move_end.ensures.back ∙ held.3,
      subst (All (IsReserved row_name first)) (sym c.push_reserved.ensures.items)
          (All-append (IsReserved row_name first) c.loop-m.done.items (c.move_end.result ∷ []) held.4
          (All-cons (IsReserved row_name first) c.move_end.result [] (subst (λ names. IsReserved row_name names c.move_end.result) held.1 c.move_end.ensures.reserved) (All-nil (IsReserved row_name first)))),
      omega (arith, held.5, c.push_reserved.ensures.len, c.push_reserved.ensures.capacity),
    )
