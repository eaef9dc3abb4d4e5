use Rattle.std.proofs.Common.{◌≡◌, ◌++◌, ◌∷◌, [], sym, ap, subst, ◌∙◌}
use Rattle.std.specs.Prelude.{OnOk}
use Rattle.std.specs.List.{All, Contains, flat_map}
use Rattle.cp_board.specs.Instances.{edge_names}
use Rattle.cp_trace.specs.Parts.{edge_under}
use Rattle.cp_trace.specs.Texts.{edge_line}
use Rattle.cp_trace.proofs.NamedParts.{all_contained}
use Rattle.cp_trace.proofs.Rows.{edges_text}
use Rattle.cp_trace.proofs.write.push_edges.Goals as goal

pub push_edge_rows-requires : goal.push_edge_rows-requires
push_edge_rows-requires c =
    subst (All (Contains (edge_names c.args.i.now))) (sym (c.as_slice.ensures.value ∙ c.in_ok-names.ensures.names))
    (all_contained (edge_names c.args.i.now))

pub returns : goal.returns
returns c =
    subst (λ t. OnOk c.push_edge_rows.result (c.push_edge_rows.new.text.items ≡ c.args.text.now.items ++ t))
    (ap (flat_map (λ x. edge_line (edge_under c.args.i.now x) ++ 10 ∷ []))
    (c.as_slice.ensures.value ∙ c.in_ok-names.ensures.names)
    ∙ edges_text c.args.i.now c.edges.ensures.rules)
    c.push_edge_rows.ensures
