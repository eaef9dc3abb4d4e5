use Rattle.std.proofs.Common.{sym, subst}
use Rattle.std.specs.List.{All}
use Rattle.cp_store.specs.Exchanges.{IsReserved}
use Rattle.cp_store.proofs.EdgeMoves.{row_name}
use Rattle.cp_store.proofs.parts.undo_change.Goals as goal

pub take_back-requires-3-clause-reserved : goal.take_back-requires-3-clause-reserved
take_back-requires-3-clause-reserved c =
    subst (λ names. All (IsReserved row_name names) c.args.change.moved.items) (sym c.take_back-2.ensures.names) c.requires.room.moved
