use Rattle.std.proofs.Common.{◌≡◌, get_or, ap, ◌∙◌, subst, arith, ⊎_elim, sym}
use Rattle.std.specs.Prelude.{unwrap_or}
use Rattle.std.proofs.lemmas.Bool.{cases_eq, ne_eqb}
use Rattle.cp_force.specs.Fits.{place_in}
use Rattle.cp_force.proofs.PlacedOrders.{placed_rise, apart}
use Rattle.cp_force.proofs.fitting.places_of.Goals as goal

pub loop-i-preserved : goal.loop-i-preserved
unfolding place_in
loop-i-preserved c = λ distinct k lt.
    let i = c.loop-i.i in let xs = c.args.order.now in
    let updates = c.in_ok-insert.ensures.updates in
    ⊎_elim
    (λ (e : k ≡ i). subst (λ z. place_in c.insert.new.self (get_or xs z 0) ≡ z) (sym e) (ap
    (λ o. unwrap_or o 0) updates.1))
    (λ (ne : k ≡ i → ⊥).
    ap (λ o. unwrap_or o 0)
    (updates.2 (get_or xs k 0) (ne_eqb (get_or xs i 0) (get_or xs k 0) (apart xs distinct i k c.loop-i-test.true
    (omega arith))))
    ∙ c.loop-i.invariant distinct k (omega arith))
    (cases_eq k i)

pub returns : goal.returns
returns c = λ distinct. placed_rise (place_in c.loop-i.places) c.args.order.now
    (λ k lt. c.loop-i.invariant distinct k (omega arith))
