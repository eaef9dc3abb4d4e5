use Rattle.std.proofs.Common.{◌≡◌, ◌++◌, take}
use Rattle.cp_sync.specs.Rewriting.{kept_verts}
use Rattle.cp_sync.proofs.rewriting.append_kept_verts.Given as goal

abbrev pub invariant-loop-v : goal.invariant-loop-v
invariant-loop-v l = l.to.items ≡ l.initial.to.items ++ kept_verts l.dropped l.kinds (take l.v-index l.verts)
