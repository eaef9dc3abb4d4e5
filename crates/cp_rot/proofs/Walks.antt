-- A walk round a face that marks the darts it passes.
use Rattle.std.proofs.Common.{◌≡◌, ℕ, zero, suc, ◌+◌, ◌<◌, ◌≤◌, ◌≢◌, ◌⊎◌, ◌↔◌, Bool, true, false, not, List, length, set, get_or, slice_index_or, sym, refl, ap, ◌∙◌, subst, inl, inr, ⊎_elim, arith}
use Rattle.std.specs.Fn.{iterate}
use Rattle.std.proofs.lemmas.Bool.{cases_eq}
use Rattle.std.proofs.lemmas.List.{get_or-set_same, get_or-set_other}
use Rattle.cp_lists.specs.Count.{count, without, IsCount}
use Rattle.cp_orbits.specs.Orbits.{IsLeastOfOrbit}
use Rattle.cp_lists.proofs.Counting.{count_agree, count_without, without_at, without_other, IsCount-same}
use Rattle.cp_orbits.proofs.OrbitLaws.{iterate-after, Reaches-sym, Reaches-trans, Reaches-below, Reaches-within}
use Rattle.cp_rot.specs.Systems.{System, darts, IsRotation}
use Rattle.cp_rot.specs.Genus.{face_step, InOneFace}
use Rattle.cp_rot.specs.Tables.{IsMarked, IsUnmarked}
use Rattle.cp_rot.proofs.Rotations.{face_step-Permutes}
use Rattle.cp_rot.proofs.Found.{marked_unmarked, Relates, FoundUpto}

-- how many of the numbers below n are not marked
abbrev pub unmarked_below : ℕ → List Bool → ℕ
unmarked_below n marks = count n (λ x. not (slice_index_or marks x false))

-- what is marked stays marked
pub stays_marked : (marks : List Bool) (i x : ℕ) → i < length marks → IsMarked marks x → IsMarked (set marks i true) x
stays_marked marks i x lt is_in =
    ⊎_elim
    (λ e. ap (λ y. get_or (set marks i true) y false) e ∙ get_or-set_same marks i true false lt)
    (λ ne. get_or-set_other marks i x true false ne ∙ is_in)
    (cases_eq x i)

-- a marked number is the new one, or was marked
pub was_marked : (marks : List Bool) (i x : ℕ) → IsMarked (set marks i true) x → IsMarked marks x ⊎ (x ≡ i)
was_marked marks i x is_in =
    ⊎_elim inr (λ ne. inl (sym (get_or-set_other marks i x true false ne) ∙ is_in)) (cases_eq x i)

-- a new mark leaves one number less unmarked
pub unmarked_below-set : (n : ℕ) (marks : List Bool) (i : ℕ) → i < n → i < length marks → IsUnmarked marks i
    → unmarked_below n marks ≡ suc (unmarked_below n (set marks i true))
unmarked_below-set n marks i lt within is_out =
    count_without n free i lt (ap not is_out) ∙ ap suc (count_agree n (without free i) free_after (λ x ltx. agree x))
  where
    free : ℕ → Bool
    free x = not (slice_index_or marks x false)

    free_after : ℕ → Bool
    free_after x = not (slice_index_or (set marks i true) x false)

    agree : (x : ℕ) → without free i x ≡ free_after x
    agree x = ⊎_elim
        (λ e. without_at free i x e ∙ sym (ap (λ y. not (get_or (set marks i true) y false)) e ∙ ap not (get_or-set_same marks i true false within)))
        (λ ne. without_other free i x ne ∙ ap not (sym (get_or-set_other marks i x true false ne)))
        (cases_eq x i)

-- after some steps from dart d the walk is at dart x, and has marked the darts before
pub record Walked (r : System) (d : ℕ) (before marks : List Bool) (x : ℕ) : Type 0 where
  pub steps : ℕ
  pub here : iterate (face_step r) steps d ≡ x
  pub passed : (j : ℕ) → j < steps → IsMarked marks (iterate (face_step r) j d)
  pub found : (y : ℕ) → IsMarked marks y → IsMarked before y ⊎ ((j : ℕ) × (j < steps) × (iterate (face_step r) j d ≡ y))
  pub kept : (y : ℕ) → IsMarked before y → IsMarked marks y
  pub dart : x < darts r

-- at the start nothing is passed
pub Walked-start : (r : System) (d : ℕ) (marks : List Bool) → d < darts r → Walked r d marks marks d
Walked-start r d marks lt = record {
  steps = 0;
  here = refl;
  passed = λ j lt. absurd (omega arith);
  found = λ y is_in. inl is_in;
  kept = λ y is_in. is_in;
  dart = lt;
}

-- one step more
pub Walked-more : (r : System) (d : ℕ) (before marks : List Bool) (x y : ℕ) → Walked r d before marks x
    → x < length marks → y ≡ face_step r x → y < darts r → Walked r d before (set marks x true) y
Walked-more r d before marks x y w within e lt = record {
  steps = suc w.steps;
  here = iterate-after (face_step r) w.steps d ∙ ap (face_step r) w.here ∙ sym e;
  passed = λ j ltj. ⊎_elim
      (λ f. subst (IsMarked (set marks x true)) (sym (ap (λ k. iterate (face_step r) k d) f ∙ w.here)) (get_or-set_same marks x true false within))
      (λ ne. stays_marked marks x (iterate (face_step r) j d) within (w.passed j (omega arith)))
      (cases_eq j w.steps);
  found = λ z is_in. ⊎_elim
      (λ old. ⊎_elim inl (λ h. inr (h.0, omega (arith, h.1), h.2)) (w.found z old))
      (λ f. inr (w.steps, omega arith, w.here ∙ sym f))
      (was_marked marks x z is_in);
  kept = λ z is_in. stays_marked marks x z within (w.kept z is_in);
  dart = lt;
}

-- where the step behind the last passed dart is passed already, all that is reached is passed
pub passed_all : (f : ℕ → ℕ) (d steps : ℕ) → ((j : ℕ) × (j < steps) × (iterate f j d ≡ iterate f steps d)) → (k : ℕ)
    → (j : ℕ) × (j < steps) × (iterate f j d ≡ iterate f k d)
passed_all f d steps closing zero = (0, omega (arith, closing.1), refl)
passed_all f d steps closing (suc k) =
    let p = passed_all f d steps closing k in
    let onward : iterate f (suc p.0) d ≡ iterate f (suc k) d = iterate-after f p.0 d ∙ ap f p.2 ∙ sym (iterate-after f k d) in
    ⊎_elim
    (λ e. (closing.0, closing.1, closing.2 ∙ ap (λ j. iterate f j d) (sym e) ∙ onward))
    (λ ne. (suc p.0, omega (arith, p.1), onward))
    (cases_eq (suc p.0) steps)

-- where the walk comes to a marked dart, it has passed the whole face
pub Walked-end : (r : System) (d : ℕ) (before marks : List Bool) (x : ℕ) → Walked r d before marks x → IsMarked marks x
    → ((y : ℕ) → InOneFace r d y → IsUnmarked before y) → (y : ℕ)
    → IsMarked marks y ↔ (IsMarked before y ⊎ InOneFace r d y)
Walked-end r d before marks x w is_in clear y = (
  λ m. ⊎_elim inl (λ h. inr (h.0, h.2)) (w.found y m),
  λ h. ⊎_elim (w.kept y) (λ reached. let p = passed_all (face_step r) d w.steps closing reached.0 in subst (IsMarked marks) (p.2 ∙ reached.1) (w.passed p.0 p.1)) h,
)
  where
    closing : (j : ℕ) × (j < w.steps) × (iterate (face_step r) j d ≡ iterate (face_step r) w.steps d)
    closing = ⊎_elim (λ old. absurd (marked_unmarked before x old (clear x (w.steps, w.here)))) (λ h. (h.0, h.1, h.2 ∙ sym w.here)) (w.found x is_in)

-- to lie in one face is a relation that goes both ways, and on
pub InOneFace-Relates : (r : System) → IsRotation r → Relates (InOneFace r) (darts r)
InOneFace-Relates r is = record {
  back = Reaches-sym (darts r) (face_step r) (face_step-Permutes r is);
  on = Reaches-trans (face_step r);
}

-- what a dart lies in one face with is a dart
pub InOneFace-below : (r : System) → IsRotation r → (d y : ℕ) → d < darts r → InOneFace r d y → y < darts r
InOneFace-below r is d y lt reached = Reaches-below (darts r) (face_step r) (face_step-Permutes r is) d y lt reached

-- after some steps from dart x the walk is at dart z, and has not met dart y before
pub record Missed (r : System) (x y steps z : ℕ) : Type 0 where
  pub here : iterate (face_step r) steps x ≡ z
  pub missed : (j : ℕ) → j < steps → iterate (face_step r) j x ≢ y
  pub dart : z < darts r

-- at the start nothing is met
pub Missed-start : (r : System) (x y : ℕ) → x < darts r → Missed r x y 0 x
Missed-start r x y lt = record { here = refl; missed = λ j none. absurd (omega arith); dart = lt }

-- the dart in hand is not y, and one step is made
pub Missed-more : (r : System) (x y steps z after : ℕ) → Missed r x y steps z → z ≢ y → after ≡ face_step r z
    → after < darts r → Missed r x y (steps + 1) after
Missed-more r x y steps z after m ne e lt = record {
  here = ap (λ k. iterate (face_step r) k x) (let f : steps + 1 ≡ suc steps = omega arith in f) ∙ iterate-after (face_step r) steps x ∙ ap (face_step r) m.here ∙ sym e;
  missed = λ j ltj. ⊎_elim (λ f same. ne (sym m.here ∙ ap (λ k. iterate (face_step r) k x) (sym f) ∙ same)) (λ other. m.missed j (omega arith)) (cases_eq j steps);
  dart = lt;
}

-- back at x, the walk does not meet y any more
pub Missed-round : (r : System) (x y steps : ℕ) → Missed r x y steps x → 0 < steps → InOneFace r x y → ⊥
Missed-round r x y steps m some reached =
    let p = passed_all (face_step r) x steps (0, some, sym m.here) reached.0 in
    m.missed p.0 p.1 (p.2 ∙ reached.1)

-- after as many steps as there are darts, the walk does not meet y any more
pub Missed-all : (r : System) → IsRotation r → (x y z : ℕ) → x < darts r → Missed r x y (darts r) z → InOneFace r x y
    → ⊥
Missed-all r is x y z lt m reached =
    let h = Reaches-within (darts r) (face_step r) (face_step-Permutes r is) x y lt reached in
    m.missed h.0 h.1 h.2

-- at the end the least darts are counted
pub FoundUpto-faces : (r : System) (marks : List Bool) (least : ℕ)
    → FoundUpto (InOneFace r) (darts r) (darts r) marks least → IsCount (IsLeastOfOrbit (face_step r)) (darts r) least
FoundUpto-faces r marks least found = IsCount-same _ (IsLeastOfOrbit (face_step r)) (darts r) least
    (λ x lt. (λ is k. is (iterate (face_step r) k x) (k, refl), λ is y reached. subst (λ z. x ≤ z) reached.1 (is reached.0)))
    found.counted
