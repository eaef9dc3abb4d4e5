use Rattle.std.proofs.Common.{ap, ◌∙◌, subst}
use Rattle.cp_pq.specs.declared.step.Top.{Top}
use Rattle.cp_pq.specs.Steps.{IsTop}
use Rattle.cp_pq.proofs.TakenParts.{never_taken_P, run_at, cut_at, run_taken}
use Rattle.cp_pq.proofs.taking.top_part.Goals as goal

pub unreachable-requires : goal.unreachable-requires
unreachable-requires c =
    let r = c.requires in
    never_taken_P r.0 r.1 r.3 c.in-P.field-0 r.2 c.in-Met.founds
    (subst (IsTop r.0 r.1 r.2) (c.in-Met.is ∙ ap (λ l. Top.Met l c.in-Met.founds) c.in-P.is) r.4) r.5

pub returns-in_ok-inner-in-Q : goal.returns-in_ok-inner-in-Q
returns-in_ok-inner-in-Q c = λ q p k opp t f.
    let v = c.in-Q.var in let founds = c.in-Met.founds in
    let at = subst (IsTop q p k) (c.in-Met.is ∙ ap (λ l. Top.Met l founds) c.in-Q.is) t in
    let r = run_at q p opp v k founds at f in
    let cut = cut_at q p opp v k founds at f in
    let parts = c.in_ok-before-in-Q.field-0 in
    let e = c.in_ok-before-in-Q.ensures r.before r.run r.after cut.0 cut.1 in
    run_taken q p opp v k founds at f c.in_ok-inner-in-Q.inner parts.before parts.run parts.after e.0 e.1 e.2
    c.in_ok-inner-in-Q.ensures
