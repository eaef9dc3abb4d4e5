use Rattle.std.proofs.Common.{sym, subst}
use Rattle.cp_rotlaw.specs.GlueTables.{AreNumbers}
use Rattle.cp_rotlaw.proofs.GluedTables.{told-below, told-apart, told-kept, glued_system}
use Rattle.cp_rotlaw.proofs.gluing.glued_parts.Goals as goal

pub vertices_glued-requires-clause-kept : goal.vertices_glued-requires-clause-kept
vertices_glued-requires-clause-kept c =
    let told = subst (λ ts. AreNumbers c.args.a.now c.args.b.now c.args.w c.args.pairs.now ts c.in_ok-numbers.kept) (sym c.as_slice-numbers.ensures.value) c.in_ok-numbers.ensures in
    told-kept c.args.a.now c.args.b.now c.is_rotation.ensures.rotation c.is_rotation-2.ensures.rotation c.args.u c.args.w c.args.pairs.now c.requires.partners c.as_slice-numbers.result.now c.in_ok-numbers.kept told

pub vertices_glued-requires-clause-within : goal.vertices_glued-requires-clause-within
vertices_glued-requires-clause-within c =
    let told = subst (λ ts. AreNumbers c.args.a.now c.args.b.now c.args.w c.args.pairs.now ts c.in_ok-numbers.kept) (sym c.as_slice-numbers.ensures.value) c.in_ok-numbers.ensures in
    told-below c.args.a.now c.args.b.now c.is_rotation.ensures.rotation c.is_rotation-2.ensures.rotation c.args.u c.args.w c.args.pairs.now c.requires.partners c.as_slice-numbers.result.now c.in_ok-numbers.kept told

pub vertices_glued-requires-clause-distinct : goal.vertices_glued-requires-clause-distinct
vertices_glued-requires-clause-distinct c =
    let told = subst (λ ts. AreNumbers c.args.a.now c.args.b.now c.args.w c.args.pairs.now ts c.in_ok-numbers.kept) (sym c.as_slice-numbers.ensures.value) c.in_ok-numbers.ensures in
    told-apart c.args.a.now c.args.b.now c.is_rotation.ensures.rotation c.is_rotation-2.ensures.rotation c.args.u c.args.w c.args.pairs.now c.requires.partners c.as_slice-numbers.result.now c.in_ok-numbers.kept told

pub returns-clause-result : goal.returns-clause-result
returns-clause-result c =
    let told = subst (λ ts. AreNumbers c.args.a.now c.args.b.now c.args.w c.args.pairs.now ts c.in_ok-numbers.kept) (sym c.as_slice-numbers.ensures.value) c.in_ok-numbers.ensures in
    (glued_system c.args.a.now c.args.b.now c.is_rotation.ensures.rotation c.is_rotation-2.ensures.rotation c.args.u c.args.w c.args.pairs.now c.requires.partners c.as_slice-numbers.result.now c.in_ok-numbers.kept told
    c.in_ok-at.at.items c.in_ok-lists.lists.items c.requires.first_vertex c.requires.second_vertex c.in_ok-at.ensures.size c.in_ok-at.ensures.first c.in_ok-at.ensures.second c.in_ok-lists.ensures).0

pub returns-clause-even : goal.returns-clause-even
returns-clause-even c =
    let told = subst (λ ts. AreNumbers c.args.a.now c.args.b.now c.args.w c.args.pairs.now ts c.in_ok-numbers.kept) (sym c.as_slice-numbers.ensures.value) c.in_ok-numbers.ensures in
    (glued_system c.args.a.now c.args.b.now c.is_rotation.ensures.rotation c.is_rotation-2.ensures.rotation c.args.u c.args.w c.args.pairs.now c.requires.partners c.as_slice-numbers.result.now c.in_ok-numbers.kept told
    c.in_ok-at.at.items c.in_ok-lists.lists.items c.requires.first_vertex c.requires.second_vertex c.in_ok-at.ensures.size c.in_ok-at.ensures.first c.in_ok-at.ensures.second c.in_ok-lists.ensures).1
