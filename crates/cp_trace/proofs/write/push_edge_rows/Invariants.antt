use Rattle.std.proofs.Common.{◌≡◌, ◌++◌, ◌∷◌, [], take}
use Rattle.std.specs.List.{flat_map}
use Rattle.cp_trace.specs.Parts.{edge_under}
use Rattle.cp_trace.specs.Texts.{edge_line}
use Rattle.cp_trace.proofs.write.push_edge_rows.Given as goal

-- the lines so far are written
abbrev pub invariant-loop-e : goal.invariant-loop-e
invariant-loop-e l =
    l.text.items ≡ l.fn.text.items ++ flat_map (λ x. edge_line (edge_under l.i x) ++ 10 ∷ []) (take l.e-index l.names)
