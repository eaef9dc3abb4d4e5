use Rattle.std.proofs.Common.{ℕ, false, true, set, subst, subst₂, sym, ◌∙◌, ap, ap₂}
use Rattle.std.specs.Prelude.{replicate}
use Rattle.std.proofs.lemmas.Result.{IfOk-weaker}
use Rattle.cp_base.specs.Graphs.{AreWithin}
use Rattle.cp_orbits.specs.Connected.{Connected}
use Rattle.cp_conn.specs.Numbering.{AreNumbered}
use Rattle.cp_conn.specs.Removed.{without_removed}
use Rattle.cp_rot.specs.Genus.{end_pairs}
use Rattle.cp_rotlaw.proofs.PoleParts.{two_removed}
use Rattle.cp_rotlaw.proofs.StarCode.{AreWithin-end_pairs}
use Rattle.cp_rotlaw.proofs.pole_parts.numbers_between.Goals as goal

pub from_ends-requires : goal.from_ends-requires
from_ends-requires c =
    let r = c.args.a.now in
    subst (λ (n : ℕ). AreWithin n c.as_slice.result.now) (sym c.vertices.ensures.value)
    (subst (AreWithin r.vertices) (sym (c.as_slice.ensures.value ∙ c.in_ok-ends.ensures))
    (AreWithin-end_pairs r c.vertices.ensures.rotation))

pub returns : goal.returns
returns c =
    let r = c.args.a.now in
    let marks = c.as_slice-2.ensures.value
    ∙ ap (λ xs. set (set xs c.args.v true) c.args.u true)
    (c.in_ok-removed.ensures.items_if_clones_equal (λ y e. e)
    ∙ ap (λ n. replicate n false) c.vertices-2.ensures.value) in
    let ends = ap (λ g. g.ends) c.in_ok-graph.ensures ∙ c.as_slice.ensures.value ∙ c.in_ok-ends.ensures in
    let left = ap₂ without_removed marks ends
    ∙ two_removed r.vertices c.args.u c.args.v (end_pairs r.at) c.requires.first c.requires.second in
    IfOk-weaker c.components_without.result _ _
    (λ numbers are. subst₂ (λ n es. AreNumbered (Connected es) n numbers.items)
    (ap (λ g. g.vertices) c.in_ok-graph.ensures ∙ c.vertices.ensures.value) left are) c.components_without.ensures
