use Rattle.std.proofs.Common.{◌≡◌, ℕ, subst, arith}
use Rattle.cp_pq.specs.SmallTrees.{AreNumbers}
use Rattle.cp_pq.proofs.DeepTrees.{no_numbers, more_numbers}
use Rattle.cp_pq.proofs.tests.numbers.Goals as goal

pub loop-place-init : goal.loop-place-init
loop-place-init c = no_numbers _ c.new-all.ensures

pub loop-place-preserved : goal.loop-place-preserved
loop-place-preserved c =
    more_numbers c.loop-place.place c.loop-place.all c.push.new.self c.in_ok-push.ensures.ok c.loop-place.invariant

pub returns : goal.returns
returns c =
    let all : c.loop-place.place ≡ c.args.count =
    omega (arith, c.loop-place-test.false, c.loop-place.auto.place-end) in
    subst (λ (n : ℕ). AreNumbers n c.loop-place.all) all c.loop-place.invariant
