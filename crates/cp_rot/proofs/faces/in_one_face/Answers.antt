use Rattle.std.proofs.Common.{arith, ◌≡◌, ◌+◌, subst}
use Rattle.std.proofs.lemmas.Bool.{false≢true}
use Rattle.cp_rot.specs.Systems.{darts}
use Rattle.cp_rot.proofs.Walks.{Missed, Missed-start, Missed-more, Missed-round, Missed-all}
use Rattle.cp_rot.proofs.faces.in_one_face.Goals as goal

pub loop-steps-init : goal.loop-steps-init
loop-steps-init g c = Missed-start (g.T.RotationSystem.system c.args.t.now) c.args.x c.args.y c.requires

pub loop-steps-preserved : goal.loop-steps-preserved
loop-steps-preserved g c = Missed-more (g.T.RotationSystem.system c.args.t.now) c.args.x c.args.y c.loop-steps._steps c.loop-steps.z c.dart_after-z.result c.loop-steps.invariant c.if-z-y.false c.dart_after-z.ensures.value c.dart_after-z.ensures.within

pub returns-then-z-x : goal.returns-then-z-x
returns-then-z-x g c =
    let r = g.T.RotationSystem.system c.args.t.now in
    let more = Missed-more r c.args.x c.args.y c.loop-steps._steps c.loop-steps.z c.dart_after-z.result c.loop-steps.invariant c.if-z-y.false c.dart_after-z.ensures.value c.dart_after-z.ensures.within in (
      λ t. absurd (false≢true t),
      λ reached. absurd (Missed-round r c.args.x c.args.y (c.loop-steps._steps + 1) (subst (Missed r c.args.x c.args.y (c.loop-steps._steps + 1)) c.if-z-x.true more) (omega arith) reached),
    )

pub returns : goal.returns
returns g c =
    let r = g.T.RotationSystem.system c.args.t.now in
    let all : c.loop-steps._steps ≡ darts r = omega arith in (
      λ t. absurd (false≢true t),
      λ reached. absurd (Missed-all r c.darts-steps-end.ensures.rotation c.args.x c.args.y c.loop-steps.z c.requires (subst (λ k. Missed r c.args.x c.args.y k c.loop-steps.z) all c.loop-steps.invariant) reached),
    )
