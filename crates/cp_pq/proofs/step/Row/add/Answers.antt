use Rattle.std.proofs.Common.{◌≡◌, ◌+◌, [], ◌∷◌, ◌++◌, sym, subst, arith}
use Rattle.cp_pq.specs.declared.step.Row.{Row}
use Rattle.cp_pq.specs.Steps.{IsStep, IsGathered}
use Rattle.cp_pq.proofs.Counts.{count_push}
use Rattle.cp_pq.proofs.GatherLaws.{open_open, root_open, root_root}
use Rattle.cp_pq.proofs.step.Row.add.Goals as goal

pub returns-in_ok-push-in-Open-step : goal.returns-in_ok-push-in-Open-step
returns-in_ok-push-in-Open-step c = λ q p total ks k opp pos small le s g.
    let gg = subst (IsGathered q p total ks) c.in-Open.is g in
    let ss = subst (IsStep q p total k) c.in-Open-step.is s in
    let a = gg.1 in let b = ss.1 in let n = count_push p ks k in
    let sum : c.saturating_add.result ≡ c.in-Open.count + c.in-Open-step.more = omega (arith, c.saturating_add.ensures, a, b, n, le, small) in
    subst (λ z. IsGathered q p total (ks ++ k ∷ []) (Row.Open z c.saturating_add.result)) (sym c.in_ok-push-in-Open-step.ensures.ok)
    (open_open q p opp total ks k c.in-Open.founds c.in-Open-step.found c.in-Open.count c.in-Open-step.more c.saturating_add.result sum gg ss)

pub returns-in-Open-step-2 : goal.returns-in-Open-step-2
returns-in-Open-step-2 c = λ q p total ks k opp pos small le s g.
    subst (λ z. IsGathered q p total (ks ++ k ∷ []) (Row.Root c.in-Root.before c.in-Root.place z)) (sym c.in_ok-push-in-Root.ensures.ok)
    (root_open q p opp total ks k c.in-Root.before c.in-Root.after c.in-Root.place c.in-Open-step-2.found c.in-Open-step-2.count
    (subst (IsGathered q p total ks) c.in-Root.is g) (subst (IsStep q p total k) c.in-Open-step-2.is s))

pub returns-in_default : goal.returns-in_default
returns-in_default c = λ q p total ks k opp pos small le s g.
    absurd (root_root q p opp total ks k c.in-Root.before c.in-Root.after c.in-Root.place c.in_default.field-0 pos le
    (subst (IsGathered q p total ks) c.in-Root.is g) (subst (IsStep q p total k) c.in_default.is s))
