use Rattle.std.proofs.Common.{◌≡◌, ◌++◌, map, take}
use Rattle.cp_board.specs.Rows as rows
use Rattle.cp_store.proofs.tests.push_free.Given as goal

abbrev pub invariant-loop-name : goal.invariant-loop-name
invariant-loop-name l = l.verts ≡ l.initial.verts ++ map rows.vert (take l.name-index l.names)
