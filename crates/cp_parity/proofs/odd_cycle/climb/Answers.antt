-- Each link leads one step up.
use Rattle.std.proofs.Common.{◌≡◌, ◌++◌, ◌∷◌, [], ℕ, ◌<◌, false, List, get_or, Some, slice_get, sym, ap, ◌∙◌, subst, arith}
use Rattle.std.proofs.lemmas.Option.{slice_get-get_or}
use Rattle.cp_base.specs.declared.equation.Equation.{Equation}
use Rattle.cp_parity.specs.declared.found.Found.{Found}
use Rattle.cp_parity.specs.Search.{IsTree, Leads}
use Rattle.cp_parity.proofs.LookUps.{same_at}
use Rattle.cp_parity.proofs.Walks.{Leads-none, Leads-more}
use Rattle.cp_parity.proofs.odd_cycle.climb.Goals as goal

-- a step up from place k
step_up : (root : ℕ) (found : List Found) (from k : ℕ) (h : Found) (walk : List ℕ) → root < k
    → slice_get found k ≡ Some h
    → ((eqs : List Equation) (f g : Found) → IsTree eqs root found → slice_get found from ≡ Some f
    → slice_get found k ≡ Some g → Leads eqs f walk g)
    → (eqs : List Equation) (f g : Found) → IsTree eqs root found → slice_get found from ≡ Some f
    → slice_get found h.up ≡ Some g → Leads eqs f (walk ++ h.link ∷ []) g
step_up root found from k h walk lt at leads eqs f g tree fat gat =
    let hangs = tree k h lt at in
    subst (λ (x : Found). Leads eqs f (walk ++ h.link ∷ []) x) (same_at found h.up hangs.above g hangs.up_at gat)
    (Leads-more eqs root found k f h walk (leads eqs f h tree fat at) hangs)

pub loop-place-init : goal.loop-place-init
loop-place-init c = record {
  not_before = c.requires.below;
  within = c.requires.from_within;
  leads = λ eqs f g tree fat gat.
      subst (λ (walk : List ℕ). Leads eqs f walk g) (sym c.new-walk.ensures)
      (Leads-none eqs f g (same_at c.args.found.now c.args.from f g fat gat));
}

pub loop-place-preserved : goal.loop-place-preserved
loop-place-preserved c =
    let none : Found = record { var = 0; bit = false; up = 0; link = 0 } in
    let h : Found = get_or c.args.found.now c.loop-place.place none in
    let at : slice_get c.args.found.now c.loop-place.place ≡ Some h = slice_get-get_or c.args.found.now
    c.loop-place.place none c.loop-place.invariant.within in
    let up = c.requires.rooted c.loop-place.place h c.loop-place-test.true at in
    record {
      not_before = up.0;
      within = omega (arith, up.1, c.loop-place.invariant.within);
      leads = λ eqs f g tree fat gat.
          subst (λ (walk : List ℕ). Leads eqs f walk g) (sym c.in_ok-push.ensures.ok)
          (step_up c.args.root c.args.found.now c.args.from c.loop-place.place h c.loop-place.walk
          c.loop-place-test.true at c.loop-place.invariant.leads eqs f g tree fat gat);
    }

pub loop-place-smaller : goal.loop-place-smaller
loop-place-smaller c =
    let none : Found = record { var = 0; bit = false; up = 0; link = 0 } in
    let h : Found = get_or c.args.found.now c.loop-place.place none in
    let at : slice_get c.args.found.now c.loop-place.place ≡ Some h = slice_get-get_or c.args.found.now
    c.loop-place.place none c.loop-place.invariant.within in
    let up = c.requires.rooted c.loop-place.place h c.loop-place-test.true at in
    omega (arith, up.1)

pub returns : goal.returns
returns c eqs f g tree fat gat =
    c.loop-place.invariant.leads eqs f g tree fat
    (ap (slice_get c.args.found.now) (omega (arith, c.loop-place.invariant.not_before, c.loop-place-test.false)) ∙ gat)
