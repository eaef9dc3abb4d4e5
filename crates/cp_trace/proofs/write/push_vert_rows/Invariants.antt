use Rattle.std.proofs.Common.{◌≡◌, ◌++◌, ◌∷◌, [], take}
use Rattle.std.specs.List.{flat_map}
use Rattle.cp_trace.specs.Parts.{vert_under}
use Rattle.cp_trace.specs.Texts.{vert_line}
use Rattle.cp_trace.proofs.write.push_vert_rows.Given as goal

-- the lines so far are written
abbrev pub invariant-loop-v : goal.invariant-loop-v
invariant-loop-v l =
    l.text.items ≡ l.fn.text.items ++ flat_map (λ x. vert_line (vert_under l.i x) ++ 10 ∷ []) (take l.v-index l.names)
