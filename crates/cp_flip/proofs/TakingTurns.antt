-- How far the numbers reach that were passed on the way behind a place.
use Rattle.std.proofs.Common.{◌≡◌, ◌≢◌, ◌⊎◌, ℕ, ◌+◌, ◌<◌, ◌≤◌, List, [], ◌∷◌, ◌++◌, length, slice_index, sym, refl, ap, ◌∙◌, subst, inl, inr, ⊎_elim, arith}
use Rattle.std.proofs.lemmas.Bool.{cases_lt}
use Rattle.std.proofs.lemmas.List.{get_or_append_left, get_or_push}
use Rattle.cp_flip.specs.TakingTurns.{AreLastPlaces, IsLastPlace, TakeTurns, TakesNoTurns}

-- of the places between first and k: far is the last place of one of another number, or 0; none has a later one; and
-- the
-- number at first takes no turns that end in front of k
pub record IsPassed (xs lasts : List ℕ) (first k far : ℕ) : Type 0 where
  pub reach : (far ≡ 0) ⊎ ((m : ℕ) × (first < m) × (m < k) × (slice_index xs first ≢ slice_index xs m)
      × (far ≡ slice_index lasts m))
  pub bound : (m : ℕ) → first < m → m < k → slice_index xs first ≢ slice_index xs m → slice_index lasts m ≤ far
  pub none : (second third fourth : ℕ) → first < second → second < third → third < k → third < fourth
      → fourth < length xs
      → slice_index xs first ≡ slice_index xs third
      → slice_index xs second ≡ slice_index xs fourth
      → slice_index xs first ≢ slice_index xs second
      → ⊥

module _ (xs lasts : List ℕ) (first : ℕ) (are : AreLastPlaces xs lasts) where
  -- no place is passed
  pub IsPassed-none : IsPassed xs lasts first (first + 1) 0
  IsPassed-none = record {
    reach = inl refl;
    bound = λ m lo hi apart. absurd (omega (arith, lo, hi));
    none = λ second third fourth lo mid hi up within one other apart. absurd (omega (arith, lo, mid, hi));
  }

  module _ (k far : ℕ) (passed : IsPassed xs lasts first k far) (lt : k < length xs) where
    -- the number again, behind which another one reaches
    pub IsPassed-turns : slice_index xs first ≡ slice_index xs k → k < far → TakeTurns xs
    IsPassed-turns same over = ⊎_elim
        (λ zero. absurd (omega (arith, over, zero)))
        (λ w. let l = are.each w.0 (omega (arith, w.2, lt)) in record {
          first = first;
          second = w.0;
          third = k;
          fourth = slice_index lasts w.0;
          in_order = (w.1, w.2, omega (arith, over, w.4), l.within);
          one = same;
          other = sym l.same;
          apart = w.3;
        })
        passed.reach

    -- places that are passed stay so
    reach_more : (far ≡ 0) ⊎ ((m : ℕ) × (first < m) × (m < k + 1) × (slice_index xs first ≢ slice_index xs m)
        × (far ≡ slice_index lasts m))
    reach_more = ⊎_elim (λ z. inl z) (λ w. inr (w.0, w.1, omega (arith, w.2), w.3, w.4)) passed.reach

    -- the number again, behind which none reaches
    pub IsPassed-met : slice_index xs first ≡ slice_index xs k → far ≤ k → IsPassed xs lasts first (k + 1) far
    IsPassed-met same within = record {
      reach = reach_more;
      bound = λ m lo hi apart. ⊎_elim
          (λ (l : m < k). passed.bound m lo l apart)
          (λ (g : k ≤ m). let e : k ≡ m = omega (arith, g, hi) in absurd (apart (same ∙ ap (slice_index xs) e)))
          (cases_lt m k);
      none = λ second third fourth lo mid hi up below one other apart. ⊎_elim
          (λ (l : third < k). passed.none second third fourth lo mid l up below one other apart)
          (λ (g : k ≤ third).
          let b = passed.bound second lo (omega (arith, mid, hi)) apart in
          (are.each second (omega (arith, mid, up, below))).last fourth (omega (arith, b, within, g, up)) below
          (sym other))
          (cases_lt third k);
    }

    -- another number
    pub IsPassed-other : (more : ℕ) → slice_index xs first ≢ slice_index xs k → slice_index lasts k ≤ more → far ≤ more
        → (more ≡ far) ⊎ (more ≡ slice_index lasts k) → first < k → IsPassed xs lasts first (k + 1) more
    IsPassed-other more differ of_k of_far is lo_k = record {
      reach = ⊎_elim
          (λ e. ⊎_elim (λ z. inl (e ∙ z)) (λ w. inr (w.0, w.1, w.2, w.3, e ∙ w.4)) reach_more)
          (λ e. inr (k, lo_k, omega arith, differ, e))
          is;
      bound = λ m lo hi apart. ⊎_elim
          (λ (l : m < k). let b = passed.bound m lo l apart in omega (arith, b, of_far))
          (λ (g : k ≤ m). let e : m ≡ k = omega (arith, g, hi) in omega (arith, ap (slice_index lasts) e, of_k))
          (cases_lt m k);
      none = λ second third fourth lo mid hi up below one other apart. ⊎_elim
          (λ (l : third < k). passed.none second third fourth lo mid l up below one other apart)
          (λ (g : k ≤ third). let e : third ≡ k = omega (arith, g, hi) in differ (one ∙ ap (slice_index xs) e))
          (cases_lt third k);
    }

  -- at the end the number takes no turns
  pub IsPassed-TakesNoTurns : (k far : ℕ) → IsPassed xs lasts first k far → length xs ≤ k → TakesNoTurns xs first
  IsPassed-TakesNoTurns k far passed end = λ second third fourth lo mid up below one other apart.
      passed.none second third fourth lo mid (omega (arith, up, below, end)) up below one other apart

-- one place more has the last place of its number
pub IsLastPlace-more : (xs lasts more : List ℕ) (k l : ℕ) → more ≡ lasts ++ l ∷ [] → length lasts ≡ k
    → ((j : ℕ) → j < k → IsLastPlace xs j (slice_index lasts j)) → IsLastPlace xs k l
    → (j : ℕ) → j < k + 1 → IsLastPlace xs j (slice_index more j)
IsLastPlace-more xs lasts more k l is size each last j lt = ⊎_elim
    (λ (lo : j < k). subst (IsLastPlace xs j)
    (sym (ap (λ ys. slice_index ys j) is ∙ get_or_append_left lasts (l ∷ []) 0 j (omega (arith, lo, size))))
    (each j lo))
    (λ (hi : k ≤ j). let e : k ≡ j = omega (arith, hi, lt) in
    subst (λ n. IsLastPlace xs n (slice_index more n)) e
    (subst (IsLastPlace xs k) (sym (ap (λ ys. slice_index ys k) is ∙ get_or_push lasts l 0 k size)) last))
    (cases_lt j k)

-- numbers of which none takes turns with one behind it take no turns
pub take_turns-none : (xs : List ℕ) → ((p : ℕ) → p < length xs → TakesNoTurns xs p) → TakeTurns xs → ⊥
take_turns-none xs none t =
    none t.first (omega (arith, t.in_order.0, t.in_order.1, t.in_order.2, t.in_order.3)) t.second t.third t.fourth
    t.in_order.0 t.in_order.1 t.in_order.2 t.in_order.3 t.one t.other t.apart
