use Rattle.std.proofs.Common.{◌≡◌, length, sym, ap, subst, arith}
use Rattle.std.proofs.lemmas.Result.{IfOk-weaker}
use Rattle.cp_rot.specs.Systems.{System}
use Rattle.cp_rot.specs.Genus.{HasGenusZero}
use Rattle.cp_rot.specs.Tables.{system_of}
use Rattle.cp_rotlaw.specs.Stars.{IsStarSplit, HaveSameBlocks}
use Rattle.cp_rotlaw.proofs.StarCode.{some_part}
use Rattle.cp_rotlaw.proofs.StarSplits.{HasStar-made}
use Rattle.cp_rotlaw.proofs.star.star_split.Goals as goal

pub star_lists-requires : goal.star_lists-requires
star_lists-requires c =
    omega (
      arith,
      some_part c.args.a.now c.args.u c.in_ok-entered.parts c.in_ok-entered.entered.items c.vertices.ensures.rotation c.requires.vertex c.in_ok-entered.ensures c.requires.edge,
      ap length c.as_slice-3.ensures.value,
      c.in_ok-rows.ensures.one_each,
    )

pub from_rotation-requires : goal.from_rotation-requires
from_rotation-requires c =
    let h = HasStar-made c.args.a.now c.args.u c.in_ok-entered.parts c.vertices.ensures.rotation c.requires.vertex c.requires.edge c.in_ok-entered.ensures c.as_slice.ensures.value c.as_slice-2.ensures.value c.as_slice-3.ensures.value c.as_slice-4.ensures.value c.as_slice-5.ensures.value c.in_ok-at.ensures c.in_ok-rows.ensures c.in_ok-lists.ensures in
    h.rotation

pub returns-clause-result : goal.returns-clause-result
returns-clause-result c =
    let h = HasStar-made c.args.a.now c.args.u c.in_ok-entered.parts c.vertices.ensures.rotation c.requires.vertex c.requires.edge c.in_ok-entered.ensures c.as_slice.ensures.value c.as_slice-2.ensures.value c.as_slice-3.ensures.value c.as_slice-4.ensures.value c.as_slice-5.ensures.value c.in_ok-at.ensures c.in_ok-rows.ensures c.in_ok-lists.ensures in
    let P : System → Type 0 = λ rot. rot ≡ system_of c.as_slice-4.result.now c.as_slice-5.result.now in
    IfOk-weaker c.from_rotation.result P (IsStarSplit c.args.a.now c.args.u) (λ rot e. subst (IsStarSplit c.args.a.now c.args.u) (sym e) h.split) c.from_rotation.ensures

pub returns-clause-genus : goal.returns-clause-genus
returns-clause-genus c =
    let h = HasStar-made c.args.a.now c.args.u c.in_ok-entered.parts c.vertices.ensures.rotation c.requires.vertex c.requires.edge c.in_ok-entered.ensures c.as_slice.ensures.value c.as_slice-2.ensures.value c.as_slice-3.ensures.value c.as_slice-4.ensures.value c.as_slice-5.ensures.value c.in_ok-at.ensures c.in_ok-rows.ensures c.in_ok-lists.ensures in
    let P : System → Type 0 = λ rot. rot ≡ system_of c.as_slice-4.result.now c.as_slice-5.result.now in
    IfOk-weaker c.from_rotation.result P HasGenusZero (λ rot e. subst HasGenusZero (sym e) (h.genus c.requires.plane)) c.from_rotation.ensures

pub returns-clause-blocks : goal.returns-clause-blocks
returns-clause-blocks c =
    let h = HasStar-made c.args.a.now c.args.u c.in_ok-entered.parts c.vertices.ensures.rotation c.requires.vertex c.requires.edge c.in_ok-entered.ensures c.as_slice.ensures.value c.as_slice-2.ensures.value c.as_slice-3.ensures.value c.as_slice-4.ensures.value c.as_slice-5.ensures.value c.in_ok-at.ensures c.in_ok-rows.ensures c.in_ok-lists.ensures in
    let P : System → Type 0 = λ rot. rot ≡ system_of c.as_slice-4.result.now c.as_slice-5.result.now in
    IfOk-weaker c.from_rotation.result P (HaveSameBlocks c.args.a.now) (λ rot e. subst (HaveSameBlocks c.args.a.now) (sym e) h.blocks) c.from_rotation.ensures
