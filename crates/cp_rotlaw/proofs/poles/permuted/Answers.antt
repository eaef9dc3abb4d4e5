use Rattle.std.proofs.Common.{◌≡◌, ◌∙◌, subst, sym}
use Rattle.std.proofs.lemmas.Result.{IfOk-weaker}
use Rattle.cp_rot.specs.Genus.{HasGenusZero}
use Rattle.cp_rot.specs.Systems.{System}
use Rattle.cp_rot.specs.Tables.{system_of}
use Rattle.cp_rotlaw.specs.PoleClasses.{IsPermutedRow}
use Rattle.cp_rotlaw.specs.Poles.{IsPermutedAt}
use Rattle.cp_rotlaw.proofs.PermutedSystems.{HasPermuted-made}
use Rattle.cp_rotlaw.proofs.poles.permuted.Goals as goal

pub from_rotation-requires : goal.from_rotation-requires
from_rotation-requires c =
    let r = c.args.a.now in
    let row = subst (IsPermutedRow r c.args.u c.args.v c.args.order.now) (sym c.as_slice.ensures.value)
    c.in_ok-row.ensures in
    let h = HasPermuted-made r c.is_rotation.ensures.rotation c.args.u c.args.v c.requires.first c.requires.second
    c.requires.bond.differ c.requires.plane c.args.order.now c.as_slice.result.now c.as_slice-2.result.now
    c.as_slice-3.result.now c.requires.arranged row (c.as_slice-2.ensures.value ∙ c.in_ok-at.ensures)
    (c.as_slice-3.ensures.value ∙ c.in_ok-lists.ensures) in
    h.rotation

pub returns-clause-result : goal.returns-clause-result
returns-clause-result c =
    let r = c.args.a.now in
    let row = subst (IsPermutedRow r c.args.u c.args.v c.args.order.now) (sym c.as_slice.ensures.value)
    c.in_ok-row.ensures in
    let h = HasPermuted-made r c.is_rotation.ensures.rotation c.args.u c.args.v c.requires.first c.requires.second
    c.requires.bond.differ c.requires.plane c.args.order.now c.as_slice.result.now c.as_slice-2.result.now
    c.as_slice-3.result.now c.requires.arranged row (c.as_slice-2.ensures.value ∙ c.in_ok-at.ensures)
    (c.as_slice-3.ensures.value ∙ c.in_ok-lists.ensures) in
    let P : System → Type 0 = λ rot. rot ≡ system_of c.as_slice-2.result.now c.as_slice-3.result.now in
    IfOk-weaker c.from_rotation.result P (IsPermutedAt r c.args.u c.args.v c.args.order.now)
    (λ rot e. subst (IsPermutedAt r c.args.u c.args.v c.args.order.now) (sym e) h.made) c.from_rotation.ensures

pub returns-clause-genus : goal.returns-clause-genus
returns-clause-genus c =
    let r = c.args.a.now in
    let row = subst (IsPermutedRow r c.args.u c.args.v c.args.order.now) (sym c.as_slice.ensures.value)
    c.in_ok-row.ensures in
    let h = HasPermuted-made r c.is_rotation.ensures.rotation c.args.u c.args.v c.requires.first c.requires.second
    c.requires.bond.differ c.requires.plane c.args.order.now c.as_slice.result.now c.as_slice-2.result.now
    c.as_slice-3.result.now c.requires.arranged row (c.as_slice-2.ensures.value ∙ c.in_ok-at.ensures)
    (c.as_slice-3.ensures.value ∙ c.in_ok-lists.ensures) in
    let P : System → Type 0 = λ rot. rot ≡ system_of c.as_slice-2.result.now c.as_slice-3.result.now in
    IfOk-weaker c.from_rotation.result P HasGenusZero (λ rot e. subst HasGenusZero (sym e) h.genus)
    c.from_rotation.ensures
