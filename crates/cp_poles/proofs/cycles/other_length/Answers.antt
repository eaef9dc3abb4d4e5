-- The places are visited one by one.
use Rattle.std.proofs.Common.{arith, slice_index, subst, sym, ⊎_elim}
use Rattle.std.proofs.lemmas.Bool.{cases_eq}
use Rattle.cp_orbits.specs.Orbits.{CycleLength}
use Rattle.cp_poles.specs.Cycles.{AreMarked}
use Rattle.cp_poles.proofs.CycleWalks.{AreMarked-none}
use Rattle.cp_poles.proofs.cycles.other_length.Goals as goal

pub loop-at-init : goal.loop-at-init
loop-at-init c =
    let to = c.args.to.now in
    record {
      marks = subst (AreMarked to c.args.size) (sym c.in_ok-seen.ensures)
          (AreMarked-none to c.args.size);
      before = λ k lt. absurd (omega (arith, lt));
    }

pub returns-in-Some : goal.returns-in-Some
returns-in-Some c = record {
  place = c.loop-at.at;
  within = c.loop-at-test.true;
  before = c.loop-at.invariant.before;
  other = c.in-Some.ensures.told.0;
  differ = c.in-Some.ensures.told.1;
}

pub loop-at-preserved : goal.loop-at-preserved
loop-at-preserved c =
    let to = c.args.to.now in
    record {
      marks = c.visit.ensures.marks;
      before = λ k lt. ⊎_elim
          (λ same. subst (λ j. CycleLength (slice_index to) j c.args.size) (sym same) c.in-None.ensures.told)
          (λ other. c.loop-at.invariant.before k (omega (arith, lt, other)))
          (cases_eq k c.loop-at.at);
    }

pub returns : goal.returns
returns c = λ k lt. c.loop-at.invariant.before k (omega (arith, lt, c.loop-at-test.false))
