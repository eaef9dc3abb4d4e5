use Rattle.std.proofs.Common.{◌∙◌, sym, refl, ap₂, subst, subst₂}
use Rattle.std.proofs.lemmas.Result.{IfOk-weaker}
use Rattle.cp_rot.specs.Systems.{IsRotation}
use Rattle.cp_rot.specs.Tables.{system_of}
use Rattle.cp_rotlaw.specs.Glue.{IsGlued}
use Rattle.cp_rotlaw.proofs.GluedDarts.{IsRotation-glued}
use Rattle.cp_rot.specs.Genus.{HasGenusZero}
use Rattle.cp_rotlaw.proofs.GluedGenus.{glued-HasGenusZero}
use Rattle.cp_rotlaw.proofs.gluing.glue.Goals as goal

pub from_rotation-requires : goal.from_rotation-requires
from_rotation-requires c = subst₂ (λ at lists. IsRotation (system_of at lists)) (sym c.as_slice.ensures.value) (sym c.as_slice-2.ensures.value)
    (IsRotation-glued c.args.a.now c.args.b.now c.is_rotation.ensures.rotation c.is_rotation-2.ensures.rotation c.args.u c.args.w c.args.pairs.now c.requires.partners c.requires.first_vertex c.requires.second_vertex c.requires.second_no_loop (system_of c.in_ok-at.at.items c.in_ok-at.lists.items) c.in_ok-at.ensures.result c.in_ok-at.ensures.even refl)

pub returns-clause-result : goal.returns-clause-result
returns-clause-result c = IfOk-weaker c.from_rotation.result _ _ (λ rot is. subst (λ s. IsGlued c.args.a.now c.args.u c.args.b.now c.args.w c.args.pairs.now s) (sym (is ∙ ap₂ system_of c.as_slice.ensures.value c.as_slice-2.ensures.value)) c.in_ok-at.ensures.result) c.from_rotation.ensures

pub returns-clause-genus : goal.returns-clause-genus
returns-clause-genus c = IfOk-weaker c.from_rotation.result _ _ (λ rot is. subst HasGenusZero (sym (is ∙ ap₂ system_of c.as_slice.ensures.value c.as_slice-2.ensures.value))
    (glued-HasGenusZero c.args.a.now c.args.b.now c.is_rotation.ensures.rotation c.is_rotation-2.ensures.rotation c.args.u c.args.w c.requires.first_vertex c.requires.second_vertex c.args.pairs.now c.requires.partners
    c.requires.second_no_loop c.requires.reversed c.requires.first_plane c.requires.second_plane (system_of c.in_ok-at.at.items c.in_ok-at.lists.items) c.in_ok-at.ensures.result c.in_ok-at.ensures.even refl)) c.from_rotation.ensures
