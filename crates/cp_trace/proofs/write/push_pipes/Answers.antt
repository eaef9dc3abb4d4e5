use Rattle.std.proofs.Common.{◌≡◌, ◌++◌, ◌∷◌, [], sym, ap, subst, ◌∙◌}
use Rattle.std.specs.Prelude.{OnOk}
use Rattle.std.specs.List.{All, Contains, flat_map}
use Rattle.cp_board.specs.Instances.{pipe_names}
use Rattle.cp_trace.specs.Parts.{pipe_under}
use Rattle.cp_trace.specs.Texts.{pipe_line}
use Rattle.cp_trace.proofs.NamedParts.{all_contained}
use Rattle.cp_trace.proofs.Rows.{pipes_text}
use Rattle.cp_trace.proofs.write.push_pipes.Goals as goal

pub push_pipe_rows-requires : goal.push_pipe_rows-requires
push_pipe_rows-requires c =
    subst (All (Contains (pipe_names c.args.i.now))) (sym (c.as_slice.ensures.value ∙ c.in_ok-names.ensures.names))
    (all_contained (pipe_names c.args.i.now))

pub returns : goal.returns
returns c =
    subst (λ t. OnOk c.push_pipe_rows.result (c.push_pipe_rows.new.text.items ≡ c.args.text.now.items ++ t))
    (ap (flat_map (λ x. pipe_line (pipe_under c.args.i.now x) ++ 10 ∷ []))
    (c.as_slice.ensures.value ∙ c.in_ok-names.ensures.names)
    ∙ pipes_text c.args.i.now c.pipe_names_of.ensures.rules)
    c.push_pipe_rows.ensures
