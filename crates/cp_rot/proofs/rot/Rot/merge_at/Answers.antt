use Rattle.std.proofs.Common.{◌≡◌, ◌∙◌, sym, subst, ⊎_elim}
use Rattle.std.proofs.lemmas.Result.{IfOk-weaker}
use Rattle.cp_rot.specs.Systems.{System, IsRotation}
use Rattle.cp_rot.specs.Genus.{HasGenusZero}
use Rattle.cp_rot.specs.Tables.{system_of}
use Rattle.cp_rot.specs.Rewrites.{merged}
use Rattle.cp_rot.proofs.RewriteCode.{made_from}
use Rattle.cp_rot.proofs.MergedVertices.{IsRotation-merged, merged_within-HasGenusZero, merged_between-HasGenusZero}
use Rattle.cp_rot.proofs.rot.Rot.merge_at.Goals as goal

pub build-requires : goal.build-requires
build-requires c =
    let is = subst IsRotation c.self.view_is c.self.invariant.rotation in
    let made = made_from (λ s. merged s c.args.d c.args.f) c.as_slice.ensures.value c.as_slice-2.ensures.value c.self.view_is c.in_ok-at.ensures in
    subst IsRotation (sym made) (IsRotation-merged c.args.self.now is c.args.d c.args.f c.requires.first c.requires.second c.requires.apart)

pub returns-clause-genus : goal.returns-clause-genus
returns-clause-genus c =
    let r = c.args.self.now in
    let is = subst IsRotation c.self.view_is c.self.invariant.rotation in
    let made = made_from (λ s. merged s c.args.d c.args.f) c.as_slice.ensures.value c.as_slice-2.ensures.value c.self.view_is c.in_ok-at.ensures in
    let P : System → Type 0 = λ s. s ≡ system_of c.in_ok-at.at.items c.in_ok-at.lists.items in
    let Q : System → Type 0 = λ s. HasGenusZero r → HasGenusZero s in
    IfOk-weaker c.build.result P Q (λ s same zero. subst HasGenusZero (sym (same ∙ made)) (⊎_elim
    (λ one. merged_within-HasGenusZero r is c.args.d c.args.f c.requires.first c.requires.second c.requires.apart one zero)
    (λ two. merged_between-HasGenusZero r is c.args.d c.args.f c.requires.first c.requires.second c.requires.apart two zero)
    c.requires.place)) c.build.ensures
