use Rattle.std.proofs.Common.{sym, subst, ◌∙◌}
use Rattle.std.specs.List.{All}
use Rattle.cp_board.specs.declared.parts.Vert.{Vert}
use Rattle.cp_board.specs.declared.parts.Pipe.{Pipe}
use Rattle.cp_store.specs.Exchanges.{IsReserved}
use Rattle.cp_store.proofs.EdgeMoves.{row_name}
use Rattle.cp_store.proofs.parts.make_change.Goals as goal

pub exchange_all-requires-2-clause-reserved : goal.exchange_all-requires-2-clause-reserved
exchange_all-requires-2-clause-reserved c =
    subst (λ names. All (IsReserved row_name names) c.args.plan.edges.items) (sym c.move_ends.ensures.names) c.requires.room.edges

pub returns-clause-room : goal.returns-clause-room
returns-clause-room c = record {
  verts = subst (λ names. All (IsReserved (λ (v : Vert). v.name) names) c.exchange_all.new.done.items) (sym c.exchange_all.ensures.names) c.exchange_all.ensures.reserved;
  moved = subst (λ names. All (IsReserved row_name names) c.move_ends.new.done.items) (sym (c.exchange_all-2.ensures.names ∙ c.move_ends.ensures.names)) c.move_ends.ensures.reserved;
  edges = subst (λ names. All (IsReserved row_name names) c.exchange_all-2.new.done.items) (sym c.exchange_all-2.ensures.names) c.exchange_all-2.ensures.reserved;
  pipes = subst (λ names. All (IsReserved (λ (p : Pipe). p.name) names) c.exchange_all-3.new.done.items) (sym c.exchange_all-3.ensures.names) c.exchange_all-3.ensures.reserved;
}
