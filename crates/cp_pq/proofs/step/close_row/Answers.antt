use Rattle.std.proofs.Common.{subst}
use Rattle.cp_pq.specs.Steps.{IsGathered}
use Rattle.cp_pq.proofs.GatherLaws.{closed_root, closed_open, closed_top}
use Rattle.cp_pq.proofs.step.close_row.Goals as goal

pub returns-then-count-total : goal.returns-then-count-total
returns-then-count-total c = λ q p ks opp g two pos le.
    let gg = subst (IsGathered q p c.args.total ks) c.in-Open.is g in
    closed_open q p opp c.args.total c.args.label ks c.in-Open.founds c.in-Open.count c.in_ok-found-in-Open.found c.if-count-total.true gg (c.in_ok-found-in-Open.ensures q p ks opp gg.0 two)

pub returns-in_ok-top-in-Open : goal.returns-in_ok-top-in-Open
returns-in_ok-top-in-Open c = λ q p ks opp g two pos le.
    let gg = subst (IsGathered q p c.args.total ks) c.in-Open.is g in
    closed_top q p opp c.args.total c.args.label ks c.in-Open.founds c.in-Open.count c.new.result c.in_ok-top-in-Open.top pos c.if-count-total.false le c.new.ensures gg
    (λ met. c.in_ok-top-in-Open.ensures q p ks opp gg.0 met)

pub returns-in_ok-outer-in-Root : goal.returns-in_ok-outer-in-Root
returns-in_ok-outer-in-Root c = λ q p ks opp g two pos le.
    closed_root q p opp c.args.total c.args.label ks c.in-Root.before c.in-Root.after c.in-Root.place c.in_ok-outer-in-Root.outer le
    c.in_ok-outer-in-Root.ensures.0 c.in_ok-outer-in-Root.ensures.1 (subst (IsGathered q p c.args.total ks) c.in-Root.is g)
