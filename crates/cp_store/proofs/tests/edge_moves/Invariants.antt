use Rattle.std.proofs.Common.{◌≡◌, map, take}
use Rattle.cp_sync.specs.WorkedRows.{edge_move}
use Rattle.cp_store.proofs.tests.edge_moves.Given as goal

abbrev pub invariant-loop-edge : goal.invariant-loop-edge
invariant-loop-edge l = l.moves ≡ map edge_move (take l.edge-index l.list)
