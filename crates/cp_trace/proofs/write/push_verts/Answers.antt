use Rattle.std.proofs.Common.{◌≡◌, ◌++◌, ◌∷◌, [], sym, ap, subst, ◌∙◌}
use Rattle.std.specs.Prelude.{OnOk}
use Rattle.std.specs.List.{All, Contains, flat_map}
use Rattle.cp_board.specs.Instances.{vert_names}
use Rattle.cp_trace.specs.Parts.{vert_under}
use Rattle.cp_trace.specs.Texts.{vert_line}
use Rattle.cp_trace.proofs.NamedParts.{all_contained}
use Rattle.cp_trace.proofs.Rows.{verts_text}
use Rattle.cp_trace.proofs.write.push_verts.Goals as goal

pub push_vert_rows-requires : goal.push_vert_rows-requires
push_vert_rows-requires c =
    subst (All (Contains (vert_names c.args.i.now))) (sym (c.as_slice.ensures.value ∙ c.in_ok-names.ensures.names))
    (all_contained (vert_names c.args.i.now))

pub returns-clause-text : goal.returns-clause-text
returns-clause-text c =
    subst (λ t. OnOk c.push_vert_rows.result (c.push_vert_rows.new.text.items ≡ c.args.text.now.items ++ t))
    (ap (flat_map (λ x. vert_line (vert_under c.args.i.now x) ++ 10 ∷ []))
    (c.as_slice.ensures.value ∙ c.in_ok-names.ensures.names)
    ∙ verts_text c.args.i.now c.verts.ensures.rules)
    c.push_vert_rows.ensures
