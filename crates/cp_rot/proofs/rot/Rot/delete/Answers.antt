use Rattle.std.proofs.Common.{◌≡◌, ◌∙◌, sym, subst}
use Rattle.std.proofs.lemmas.Result.{IfOk-weaker}
use Rattle.cp_rot.specs.Systems.{System, IsRotation}
use Rattle.cp_rot.specs.Genus.{HasGenusZero}
use Rattle.cp_rot.specs.Tables.{system_of}
use Rattle.cp_rot.specs.Rewrites.{deleted}
use Rattle.cp_rot.proofs.RewriteCode.{made_from}
use Rattle.cp_rot.proofs.DeletedEdges.{IsRotation-deleted, deleted-HasGenusZero}
use Rattle.cp_rot.proofs.rot.Rot.delete.Goals as goal

pub build-requires : goal.build-requires
build-requires c =
    let r = c.args.self.now in
    let e = c.args.e in
    let is = subst IsRotation c.self.view_is c.self.invariant.rotation in
    let made = made_from (λ s. deleted s e) c.as_slice.ensures.value c.as_slice-2.ensures.value c.self.view_is c.in_ok-at.ensures in
    subst IsRotation (sym made) (IsRotation-deleted r is e c.requires)

pub returns-clause-genus : goal.returns-clause-genus
returns-clause-genus c =
    let r = c.args.self.now in
    let e = c.args.e in
    let is = subst IsRotation c.self.view_is c.self.invariant.rotation in
    let made = made_from (λ s. deleted s e) c.as_slice.ensures.value c.as_slice-2.ensures.value c.self.view_is c.in_ok-at.ensures in
    let P : System → Type 0 = λ s. s ≡ system_of c.in_ok-at.at.items c.in_ok-at.lists.items in
    let Q : System → Type 0 = λ s. HasGenusZero r → HasGenusZero s in
    IfOk-weaker c.build.result P Q (λ s same zero. subst HasGenusZero (sym (same ∙ made)) (deleted-HasGenusZero r is e c.requires zero)) c.build.ensures
