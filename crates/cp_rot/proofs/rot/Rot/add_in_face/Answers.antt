use Rattle.std.proofs.Common.{◌≡◌, ◌∙◌, sym, subst}
use Rattle.std.proofs.lemmas.Result.{IfOk-weaker}
use Rattle.cp_rot.specs.Systems.{System, IsRotation}
use Rattle.cp_rot.specs.Genus.{HasGenusZero}
use Rattle.cp_rot.specs.Tables.{system_of}
use Rattle.cp_rot.specs.Rewrites.{with_edge}
use Rattle.cp_rot.proofs.RewriteCode.{made_from}
use Rattle.cp_rot.proofs.Inserted.{IsRotation-with_edge, with_edge-HasGenusZero}
use Rattle.cp_rot.proofs.rot.Rot.add_in_face.Goals as goal

pub build-requires : goal.build-requires
build-requires c =
    let is = subst IsRotation c.self.view_is c.self.invariant.rotation in
    let made = made_from (λ s. with_edge s c.args.d c.args.f) c.as_slice.ensures.value c.as_slice-2.ensures.value c.self.view_is c.in_ok-at.ensures in
    subst IsRotation (sym made) (IsRotation-with_edge c.args.self.now is c.args.d c.args.f c.requires.first c.requires.second)

pub returns-clause-genus : goal.returns-clause-genus
returns-clause-genus c =
    let r = c.args.self.now in
    let is = subst IsRotation c.self.view_is c.self.invariant.rotation in
    let made = made_from (λ s. with_edge s c.args.d c.args.f) c.as_slice.ensures.value c.as_slice-2.ensures.value c.self.view_is c.in_ok-at.ensures in
    let P : System → Type 0 = λ s. s ≡ system_of c.in_ok-at.at.items c.in_ok-at.lists.items in
    let Q : System → Type 0 = λ s. HasGenusZero r → HasGenusZero s in
    IfOk-weaker c.build.result P Q (λ s same zero. subst HasGenusZero (sym (same ∙ made)) (with_edge-HasGenusZero r is c.args.d c.args.f c.requires.first c.requires.second c.requires.face zero)) c.build.ensures
