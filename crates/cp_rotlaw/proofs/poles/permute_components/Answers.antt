use Rattle.std.proofs.Common.{◌≡◌, ◌<◌, length, subst, sym}
use Rattle.std.proofs.lemmas.Result.{IfOk-weaker}
use Rattle.cp_rot.specs.Systems.{System}
use Rattle.cp_rotlaw.specs.Poles.{IsPermutedAt}
use Rattle.cp_rotlaw.proofs.PermutedSystems.{unchanged-IsPermutedAt}
use Rattle.cp_rotlaw.proofs.poles.permute_components.Goals as goal

pub returns-then-items-lt2-clause-result : goal.returns-then-items-lt2-clause-result
returns-then-items-lt2-clause-result c =
    let r = c.args.a.now in
    let P : System → Type 0 = λ rot. rot ≡ r in
    let few = subst (λ xs. length xs < 2) c.items.ensures c.if-items-lt2.true in
    IfOk-weaker c.stored.result P (IsPermutedAt r c.args.u c.args.v c.args.order.now)
    (λ rot e. subst (IsPermutedAt r c.args.u c.args.v c.args.order.now) (sym e)
    (unchanged-IsPermutedAt r c.is_rotation.ensures.rotation c.args.u c.args.v c.requires.first c.args.order.now
    c.requires.arranged few)) c.stored.ensures
