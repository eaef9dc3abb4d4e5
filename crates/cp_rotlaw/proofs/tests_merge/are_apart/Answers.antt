use Rattle.std.proofs.Common.{◌<◌, ℕ, not, slice_index, subst, subst₂, sym, ap, ◌∙◌, arith}
use Rattle.std.proofs.lemmas.Bool.{eq-eqb, false≢true}
use Rattle.std.proofs.lemmas.List.{get_or_read}
use Rattle.cp_base.specs.Graphs.{AreWithin}
use Rattle.cp_orbits.specs.Connected.{Connected}
use Rattle.cp_conn.specs.Numbering.{AreNumbered}
use Rattle.cp_conn.proofs.NumberedClasses.{number_of_connected}
use Rattle.cp_rot.specs.Genus.{end_pairs}
use Rattle.cp_rot.specs.Systems.{vertex_of}
use Rattle.cp_rotlaw.proofs.StarCode.{AreWithin-end_pairs}
use Rattle.cp_rotlaw.proofs.tests_merge.are_apart.Goals as goal

pub from_ends-requires : goal.from_ends-requires
from_ends-requires c =
    let r = c.args.rot.now in
    subst (λ (n : ℕ). AreWithin n c.as_slice.result.now) (sym c.vertices.ensures.value)
    (subst (AreWithin r.vertices) (sym (c.as_slice.ensures.value ∙ c.in_ok-ends.ensures)) (AreWithin-end_pairs r c.vertices.ensures.rotation))

pub returns-clause-joined : goal.returns-clause-joined
returns-clause-joined c = λ t joined.
    let r = c.args.rot.now in
    let numbers = c.in_ok-numbers.numbers.items in
    let are : AreNumbered (Connected (end_pairs r.at)) r.vertices numbers =
    subst₂ (λ n es. AreNumbered (Connected es) n numbers)
    (ap (λ g. g.vertices) c.in_ok-graph.ensures ∙ c.vertices.ensures.value)
    (ap (λ g. g.ends) c.in_ok-graph.ensures ∙ c.as_slice.ensures.value ∙ c.in_ok-ends.ensures) c.in_ok-numbers.ensures in
    let first : vertex_of r c.args.d < r.vertices = c.vertices.ensures.rotation.placed c.args.d c.requires.first in
    let second : vertex_of r c.args.f < r.vertices = c.vertices.ensures.rotation.placed c.args.f c.requires.second in
    let one = number_of_connected (end_pairs r.at) r.vertices numbers are (vertex_of r c.args.d) (vertex_of r c.args.f) first second joined in
    let read = get_or_read numbers c.at.result c.index.result.now (omega (arith, c.at.ensures, first, are.one_each)) c.index.ensures 0 in
    let read-2 = get_or_read numbers c.at-2.result c.index-2.result.now (omega (arith, c.at-2.ensures, second, are.one_each)) c.index-2.ensures 0 in
    false≢true (sym (ap not (eq-eqb c.index.result.now c.index-2.result.now
    (read ∙ ap (λ x. slice_index numbers x) c.at.ensures ∙ one ∙ sym (read-2 ∙ ap (λ x. slice_index numbers x) c.at-2.ensures)))) ∙ t)
