use Rattle.std.proofs.Common.{◌≡◌, ◌++◌, map, take}
use Rattle.cp_board.specs.Changes.{free_vert}
use Rattle.cp_join.proofs.joins.push_verts.Given as goal

abbrev pub invariant-loop-name : goal.invariant-loop-name
invariant-loop-name l = l.verts ≡ l.initial.verts ++ map free_vert (take l.name-index l.names)
