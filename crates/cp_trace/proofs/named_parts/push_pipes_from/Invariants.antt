use Rattle.std.proofs.Common.{◌≡◌, ◌++◌, take}
use Rattle.std.specs.List.{flat_map}
use Rattle.cp_trace.specs.Parts.{pipes_from}
use Rattle.cp_trace.proofs.named_parts.push_pipes_from.Given as goal

-- the names of the vertices so far are appended
abbrev pub invariant-loop-v : goal.invariant-loop-v
invariant-loop-v l = l.names.items ≡ l.fn.names.items ++ flat_map (pipes_from l.i) (take l.v-index l.verts)
