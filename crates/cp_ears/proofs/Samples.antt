-- Graphs that the tests make: their edges are marked at the ends, and a long cycle is one.
use Rattle.std.proofs.Common.{◌≡◌, ℕ, ◌+◌, ◌-◌, ◌<◌, ◌≤◌, ◌⊎◌, Bool, true, false, List, [], ◌∷◌, ◌++◌, length, get_or, set, inl, inr, sym, ap, ◌∙◌, subst, ⊎_elim, arith}
use Rattle.std.specs.Prelude.{replicate}
use Rattle.std.proofs.lemmas.Bool.{cases_eq, false≢true}
use Rattle.std.proofs.lemmas.List.{get_or-set_other, get_or-replicate, get_or_append_left, get_or_push, length-set, length-replicate, length_push}
use Rattle.cp_base.specs.Graphs.{AreWithin}
use Rattle.cp_conn.specs.Blocks.{HaveNoLoop, Touches}
use Rattle.cp_ears.specs.Bipolar.{HaveEdges}

-- each vertex that is marked is an end of some edge
pub record AreTouched (n : ℕ) (es : List (ℕ × ℕ)) (touched : List Bool) : Type 0 where
  pub size : length touched ≡ n
  pub each : (v : ℕ) → v < n → get_or touched v false ≡ true → (e : ℕ) × (e < length es) × Touches es v e

-- before any edge none is marked
pub touch_start : (n : ℕ) (es : List (ℕ × ℕ)) (touched : List Bool) → touched ≡ replicate n false
    → AreTouched n es touched
touch_start n es touched is = record {
  size = ap length is ∙ length-replicate n false;
  each = λ v lt marked. absurd (false≢true
      (sym (ap (λ (xs : List Bool). get_or xs v false) is ∙ get_or-replicate {A = Bool} n v false false lt) ∙ marked));
}

-- the two ends of an edge are marked
pub touch_step : (n : ℕ) (es : List (ℕ × ℕ)) (touched : List Bool) (e : ℕ) → AreTouched n es touched → e < length es
    → AreTouched n es (set (set touched (get_or es e (0, 0)).0 true) (get_or es e (0, 0)).1 true)
touch_step n es touched e t lt = record {
  size = length-set (set touched a true) b true ∙ length-set touched a true ∙ t.size;
  each = λ v ltv marked. ⊎_elim
      (λ f. (e, lt, inr (sym f)))
      (λ nb. ⊎_elim
      (λ f. (e, lt, inl (sym f)))
      (λ na. t.each v ltv (sym (get_or-set_other (set touched a true) b v true false nb
      ∙ get_or-set_other touched a v true false na) ∙ marked))
      (cases_eq v a))
      (cases_eq v b);
}
  where
    -- the first end of the edge
    a : ℕ
    a = (get_or es e (0, 0)).0

    -- the second end of the edge
    b : ℕ
    b = (get_or es e (0, 0)).1

-- where all are marked each vertex has an edge
pub touched_all : (n : ℕ) (es : List (ℕ × ℕ)) (touched seen : List Bool) → AreTouched n es touched → seen ≡ touched
    → ((v : ℕ) → v < length seen → get_or seen v false ≡ true) → HaveEdges n es
touched_all n es touched seen t is all v lt =
    t.each v lt (ap (λ (xs : List Bool). get_or xs v false) (sym is) ∙ all v (omega (arith, lt, t.size, ap length is)))

-- edges that lead from each of the first vertices to the next
pub record AreSteps (n : ℕ) (es : List (ℕ × ℕ)) : Type 0 where
  pub size : length es ≡ n
  pub each : (e : ℕ) → e < n → get_or es e (0, 0) ≡ (e, e + 1)

-- an edge from the last vertex to a new one is a step more
pub steps_more : (n : ℕ) (es more : List (ℕ × ℕ)) → AreSteps n es → more ≡ es ++ (n, n + 1) ∷ [] → AreSteps (n + 1) more
steps_more n es more s is = record {
  size = omega (arith, ap length is, length_push es (n, n + 1), s.size);
  each = λ e lt. ap (λ (xs : List (ℕ × ℕ)). get_or xs e (0, 0)) is ∙ ⊎_elim
      (λ last. get_or_push es (n, n + 1) (0, 0) e (s.size ∙ sym last) ∙ ap (λ (k : ℕ). (k, k + 1)) (sym last))
      (λ ne. get_or_append_left es ((n, n + 1) ∷ []) (0, 0) e (omega (arith, s.size)) ∙ s.each e (omega arith))
      (cases_eq e n);
}

-- an edge of a cycle leads to the next vertex, or from the last vertex to the first
cycle_edge : (n : ℕ) (es whole : List (ℕ × ℕ)) (e : ℕ) → 2 ≤ n → AreSteps (n - 1) es → whole ≡ es ++ (n - 1, 0) ∷ []
    → e < length whole → ((get_or whole e (0, 0) ≡ (e, e + 1)) × (e + 1 < n))
    ⊎ ((get_or whole e (0, 0) ≡ (n - 1, 0)) × (0 < n - 1))
cycle_edge n es whole e two s is lt = ⊎_elim
    (λ last. inr (
      ap (λ (xs : List (ℕ × ℕ)). get_or xs e (0, 0)) is
          ∙ get_or_push es (n - 1, 0) (0, 0) e (s.size ∙ sym last),
      omega arith,
    ))
    (λ ne. let less : e < n - 1 = omega (arith, lt, ap length is, length_push es (n - 1, 0), s.size) in
    inl (
      ap (λ (xs : List (ℕ × ℕ)). get_or xs e (0, 0)) is
          ∙ get_or_append_left es ((n - 1, 0) ∷ []) (0, 0) e (omega (arith, less, s.size)) ∙ s.each e less,
      omega arith,
    ))
    (cases_eq e (n - 1))

-- the edges of a cycle end at its vertices
pub cycle_within : (n : ℕ) (es whole : List (ℕ × ℕ)) → 2 ≤ n → AreSteps (n - 1) es → whole ≡ es ++ (n - 1, 0) ∷ []
    → AreWithin n whole
cycle_within n es whole two s is e lt = ⊎_elim
    (λ h. subst (λ (p : ℕ × ℕ). (p.0 < n) × (p.1 < n)) (sym h.0) (omega (arith, h.1), h.1))
    (λ h. subst (λ (p : ℕ × ℕ). (p.0 < n) × (p.1 < n)) (sym h.0) (omega arith, omega arith))
    (cycle_edge n es whole e two s is lt)

-- a cycle of two vertices or more has no loop
pub cycle_no_loop : (n : ℕ) (es whole : List (ℕ × ℕ)) → 2 ≤ n → AreSteps (n - 1) es → whole ≡ es ++ (n - 1, 0) ∷ []
    → HaveNoLoop whole
cycle_no_loop n es whole two s is e lt same = ⊎_elim
    (λ h. let f : e ≡ e + 1 = subst (λ (p : ℕ × ℕ). p.0 ≡ p.1) h.0 same in omega arith)
    (λ h. let f : n - 1 ≡ 0 = subst (λ (p : ℕ × ℕ). p.0 ≡ p.1) h.0 same in omega (arith, h.1))
    (cycle_edge n es whole e two s is lt)

-- a cycle has as many edges as vertices
pub cycle_length : (n : ℕ) (es whole : List (ℕ × ℕ)) → 2 ≤ n → AreSteps (n - 1) es → whole ≡ es ++ (n - 1, 0) ∷ []
    → length whole ≡ n
cycle_length n es whole two s is = omega (arith, ap length is, length_push es (n - 1, 0), s.size)
