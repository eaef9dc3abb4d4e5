use Rattle.std.proofs.Common.{◌≡◌, map, take}
use Rattle.cp_sync.specs.WorkedRows.{edge_row}
use Rattle.cp_store.proofs.tests.edge_rows.Given as goal

abbrev pub invariant-loop-name : goal.invariant-loop-name
invariant-loop-name l = l.edges ≡ map edge_row (take l.name-index l.list)
