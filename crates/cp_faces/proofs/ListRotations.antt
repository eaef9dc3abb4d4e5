-- Lists of the darts round each vertex make a rotation as a function on darts.
use Rattle.std.proofs.Common.{◌≡◌, ℕ, ◌<◌, ◌≢◌, true, List, eqb, sym, refl, ap, ◌∙◌, subst, ⊎_elim}
use Rattle.std.proofs.lemmas.Bool.{cases_eq, cond-true, cond-false, eq-eqb, ne_eqb, eqb-true}
use Rattle.cp_lists.specs.Count.{Exactly}
use Rattle.cp_orbits.specs.Orbits.{Reaches, splice}
use Rattle.cp_lists.specs.CyclicLists.{Has, Distinct, but, follow}
use Rattle.cp_faces.specs.Faces.{Rotates}
use Rattle.cp_orbits.proofs.OrbitLaws.{iterate-agree, Permutes-agree}
use Rattle.cp_orbits.proofs.ListOrbits.{follow-reaches}
use Rattle.cp_lists.proofs.DistinctLists.{Exactly-Distinct, Exactly-Has}
use Rattle.cp_lists.proofs.CyclicLists.{follow-Has, follow-apart, follow-but}
use Rattle.cp_lists.proofs.FollowedLists.{iterate_in_list}

-- functions that agree below n are rotations together
pub Rotates-agree : (v n : ℕ) (at next at' next' : ℕ → ℕ) → ((d : ℕ) → d < n → at d ≡ at' d)
    → ((d : ℕ) → d < n → next d ≡ next' d) → Rotates v n at next → Rotates v n at' next'
Rotates-agree v n at next at' next' same_at same_next rot = record {
  permutes = Permutes-agree n next next' same_next rot.permutes;
  placed = λ d lt. subst (λ y. y < v) (same_at d lt) (rot.placed d lt);
  kept = λ d lt. ap at' (sym (same_next d lt)) ∙ sym (same_at (next d) (rot.permutes.below d lt)) ∙ rot.kept d lt ∙ same_at d lt;
  around = λ c d ltc ltd e.
      let r : Reaches next c d = rot.around c d ltc ltd (same_at c ltc ∙ e ∙ sym (same_at d ltd)) in
      (r.0, sym (iterate-agree n next next' rot.permutes.below same_next r.0 c ltc) ∙ r.1);
}

-- lists that hold for each vertex exactly its darts make a rotation
pub Rotates-lists : (v n : ℕ) (at : ℕ → ℕ) (lists : ℕ → List ℕ) → ((d : ℕ) → d < n → at d < v)
    → ((x : ℕ) → x < v → Exactly n (λ d. eqb (at d) x) (lists x)) → Rotates v n at (λ d. follow (lists (at d)) d)
Rotates-lists v n at lists placed exact = record {
  permutes = record {
    below = λ d lt. (item (at d) (placed d lt) (follow (lists (at d)) d) (follow-Has d (lists (at d)) (own d lt))).0;
    apart = λ c d ltc ltd e.
        let one : at c ≡ at d = sym (stays c ltc) ∙ ap at e ∙ stays d ltd in
        follow-apart c d (lists (at d)) (distinct (at d) (placed d ltd)) (subst (λ x. Has c (lists x)) one (own c ltc)) (own d ltd) (ap (λ (x : ℕ). follow (lists x) c) (sym one) ∙ e);
  };
  placed = placed;
  kept = stays;
  around = λ c d ltc ltd e.
      let r : Reaches (follow (lists (at c))) c d = follow-reaches (lists (at c)) c d (distinct (at c) (placed c ltc)) (own c ltc) (subst (λ x. Has d (lists x)) (sym e) (own d ltd)) in
      (r.0, iterate_in_list (lists (at c)) (λ y. follow (lists (at y)) y) (λ y h. ap (λ (x : ℕ). follow (lists x) y) (item (at c) (placed c ltc) y h).1) r.0 c (own c ltc) ∙ r.1);
}
  where
    distinct : (x : ℕ) → x < v → Distinct (lists x)
    distinct x lt = Exactly-Distinct n (λ d. eqb (at d) x) (lists x) (exact x lt)

    own : (d : ℕ) → d < n → Has d (lists (at d))
    own d lt = (Exactly-Has n (λ y. eqb (at y) (at d)) (lists (at d)) (exact (at d) (placed d lt)) d).1 (lt, eq-eqb (at d) (at d) refl)

    item : (x : ℕ) → x < v → (d : ℕ) → Has d (lists x) → (d < n) × (at d ≡ x)
    item x lt d h = let w : (d < n) × (eqb (at d) x ≡ true) = (Exactly-Has n (λ y. eqb (at y) x) (lists x) (exact x lt) d).0 h in (w.0, eqb-true (at d) x w.1)

    stays : (d : ℕ) → d < n → at (follow (lists (at d)) d) ≡ at d
    stays d lt = (item (at d) (placed d lt) (follow (lists (at d)) d) (follow-Has d (lists (at d)) (own d lt))).1

-- the lists without the dart z make the function that leaves z out
pub follow-splice : (next : ℕ → ℕ) (z d : ℕ) (xs : List ℕ) → Distinct xs → d ≢ z → Has d xs → next d ≡ follow xs d
    → (Has z xs → next z ≡ follow xs z) → follow (but z xs) d ≡ splice next z d
follow-splice next z d xs dis ne h same_d same_z =
    follow-but z d xs dis ne h ∙ ⊎_elim
    (λ e. cond-true (eqb (follow xs d) z) (follow xs z) (follow xs d) (eq-eqb (follow xs d) z e) ∙ sym (same_z (subst (λ y. Has y xs) e (follow-Has d xs h))) ∙ sym (cond-true (eqb (next d) z) (next z) (next d) (eq-eqb (next d) z (same_d ∙ e))))
    (λ f. cond-false (eqb (follow xs d) z) (follow xs z) (follow xs d) (ne_eqb (follow xs d) z f) ∙ sym same_d ∙ sym (cond-false (eqb (next d) z) (next z) (next d) (ne_eqb (next d) z (λ e. f (sym same_d ∙ e)))))
    (cases_eq (follow xs d) z)
