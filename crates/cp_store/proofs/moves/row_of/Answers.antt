use Rattle.cp_store.specs.Exchanges.{items_of}
use Rattle.cp_store.proofs.Tables.{live-found}
use Rattle.cp_store.proofs.EdgeMoves.{row_name}
use Rattle.cp_store.proofs.moves.row_of.Goals as goal

pub unreachable-requires : goal.unreachable-requires
unreachable-requires c =
    live-found row_name c.args.e (items_of c.args.edges.now.entries.items) c.in-None.ensures c.requires.live
