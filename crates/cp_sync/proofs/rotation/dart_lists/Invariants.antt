use Rattle.std.proofs.Common.{◌≡◌, map, take}
use Rattle.cp_board.specs.Instances.{graph}
use Rattle.cp_board.specs.Rotations.{dart}
use Rattle.cp_board.specs.Solutions.{list_in}
use Rattle.cp_sync.proofs.rotation.dart_lists.Given as goal

abbrev pub invariant-loop-v : goal.invariant-loop-v
invariant-loop-v g l = l.lists.items ≡ map (λ v. map (dart (graph (g.B.Board.instance l.board)) v) (list_in l.s v)) (take l.v-index l.verts)
