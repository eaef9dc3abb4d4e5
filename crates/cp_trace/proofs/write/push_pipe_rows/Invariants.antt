use Rattle.std.proofs.Common.{◌≡◌, ◌++◌, ◌∷◌, [], take}
use Rattle.std.specs.List.{flat_map}
use Rattle.cp_trace.specs.Parts.{pipe_under}
use Rattle.cp_trace.specs.Texts.{pipe_line}
use Rattle.cp_trace.proofs.write.push_pipe_rows.Given as goal

-- the lines so far are written
abbrev pub invariant-loop-p : goal.invariant-loop-p
invariant-loop-p l =
    l.text.items ≡ l.fn.text.items ++ flat_map (λ x. pipe_line (pipe_under l.i x) ++ 10 ∷ []) (take l.p-index l.names)
