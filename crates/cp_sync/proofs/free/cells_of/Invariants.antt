use Rattle.std.proofs.Common.{◌≡◌, take}
use Rattle.std.specs.List.{flat_map}
use Rattle.cp_board.specs.Instances.{cell_of}
use Rattle.cp_sync.proofs.free.cells_of.Given as goal

abbrev pub invariant-loop-v : goal.invariant-loop-v
invariant-loop-v l = l.cells.items ≡ flat_map (λ v. cell_of v.kind) (take l.v-index l.verts)
