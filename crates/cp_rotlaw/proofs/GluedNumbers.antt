-- The numbers that vertices and edges get where some are left out.
use Rattle.std.proofs.Common.{◌≡◌, ℕ, zero, suc, ◌+◌, ◌-◌, ◌<◌, ◌≤◌, ◌≢◌, Bool, true, false, not, ltb, List, set, length, slice_index, map, take, [], ◌∷◌, ◌++◌, sym, refl, ap, ap₂, ◌∙◌, ⊎_elim, arith, length-set}
use Rattle.std.proofs.lemmas.List.{map-append}
use Rattle.std.proofs.lemmas.Bool.{cases_eq, cases_lt, eq-eqb, ne_eqb, lt-ltb, le-ltb, cond-true, cond-false, false≢true}
use Rattle.std.proofs.lemmas.List.{get_or-set_same, get_or-set_other, take_more}
use Rattle.cp_lists.specs.Count.{count}
use Rattle.cp_lists.proofs.Counting.{count_yes, count_no}
use Rattle.cp_rotlaw.specs.Systems.{is_other}
use Rattle.cp_rotlaw.specs.GlueTables.{old_vertex}

-- another vertex is one
pub is_other_yes : (u v : ℕ) → v ≢ u → is_other u v ≡ true
is_other_yes u v ne = ap not (ne_eqb v u ne)

-- the vertex itself is none
pub is_other_no : (u v : ℕ) → v ≡ u → is_other u v ≡ false
is_other_no u v e = ap not (eq-eqb v u e)

-- the vertices up to u keep their numbers
pub count_other_low : (u v : ℕ) → v ≤ u → count v (is_other u) ≡ v
count_other_low u zero le = refl
count_other_low u (suc v) le = count_yes v (is_other u) (is_other_yes u v (λ e. omega arith)) ∙ ap suc (count_other_low u v (omega arith))

-- those behind it get the number before
pub count_other_high : (u v : ℕ) → u < v → suc (count v (is_other u)) ≡ v
count_other_high u zero lt = absurd (omega arith)
count_other_high u (suc v) lt = ⊎_elim
    (λ e. ap suc (count_no v (is_other u) (is_other_no u v e) ∙ count_other_low u v (omega arith)))
    (λ ne. ap suc (count_yes v (is_other u) (is_other_yes u v ne) ∙ count_other_high u v (omega arith)))
    (cases_eq v u)

-- as the code says it
pub count_other_then : (u v : ℕ) → u < v → v - 1 ≡ count v (is_other u)
count_other_then u v lt = omega (arith, count_other_high u v lt)

-- the vertex with a number, where it is below u
pub old_vertex_low : (u x : ℕ) → x < u → old_vertex u x ≡ x
old_vertex_low u x lt = cond-true (ltb x u) x (x + 1) (lt-ltb x u lt)

-- and where it is not
pub old_vertex_high : (u x : ℕ) → u ≤ x → old_vertex u x ≡ x + 1
old_vertex_high u x le = cond-false (ltb x u) x (x + 1) (le-ltb x u le)

-- the vertex with the number of v is v
pub old_vertex-count : (u v : ℕ) → v ≢ u → old_vertex u (count v (is_other u)) ≡ v
old_vertex-count u v ne = ⊎_elim
    (λ lt. ap (old_vertex u) (count_other_low u v (omega arith)) ∙ old_vertex_low u v lt)
    (λ ge. let lt : u < v = omega arith in old_vertex_high u (count v (is_other u)) (omega (arith, count_other_high u v lt)) ∙ omega (arith, count_other_high u v lt))
    (cases_lt v u)

-- the number of the vertex with number x is x
pub count-old_vertex : (u x : ℕ) → count (old_vertex u x) (is_other u) ≡ x
count-old_vertex u x = ⊎_elim
    (λ lt. ap (λ v. count v (is_other u)) (old_vertex_low u x lt) ∙ count_other_low u x (omega arith))
    (λ ge. ap (λ v. count v (is_other u)) (old_vertex_high u x ge) ∙ omega (arith, count_other_high u (x + 1) (omega arith)))
    (cases_lt x u)

-- the vertex with number x is another than u
pub old_vertex-other : (u x : ℕ) → old_vertex u x ≢ u
old_vertex-other u x e = ⊎_elim (λ lt. omega (arith, old_vertex_low u x lt, e)) (λ ge. omega (arith, old_vertex_high u x ge, e)) (cases_lt x u)

-- of n vertices all numbers below n - 1 are taken
pub old_vertex-below : (n u x : ℕ) → u < n → x < n - 1 → old_vertex u x < n
old_vertex-below n u x ltu ltx = ⊎_elim (λ lt. omega (arith, old_vertex_low u x lt)) (λ ge. omega (arith, old_vertex_high u x ge)) (cases_lt x u)

-- the numbers stay below n - 1
pub count_other-below : (n u v : ℕ) → u < n → v < n → v ≢ u → count v (is_other u) < n - 1
count_other-below n u v ltu ltv ne = ⊎_elim
    (λ lt. omega (arith, count_other_low u v (omega arith)))
    (λ ge. omega (arith, count_other_high u v (omega arith)))
    (cases_lt v u)

-- the table is old with value j at place j for each j below i that passes
pub record Written (place value : ℕ → ℕ) (passes : ℕ → Bool) (i : ℕ) (old table : List ℕ) : Type 0 where
  pub size : length table ≡ length old
  pub told : (j : ℕ) → j < i → passes j ≡ true → slice_index table (place j) ≡ value j
  pub others : (x : ℕ) → ((j : ℕ) → j < i → passes j ≡ true → place j ≢ x) → slice_index table x ≡ slice_index old x

-- at first
pub Written-start : (place value : ℕ → ℕ) (passes : ℕ → Bool) (old : List ℕ) → Written place value passes 0 old old
Written-start place value passes old = record { size = refl; told = λ j lt. absurd (omega arith); others = λ x none. refl }

-- one value more
pub Written-more : (place value : ℕ → ℕ) (passes : ℕ → Bool) (i : ℕ) (old table : List ℕ) (p y : ℕ)
    → Written place value passes i old table → passes i ≡ true → p ≡ place i → y ≡ value i → p < length table
    → ((j : ℕ) → j < i → passes j ≡ true → place j ≢ place i) → Written place value passes (i + 1) old (set table p y)
Written-more place value passes i old table p y w t ep ey within apart = record {
  size = length-set table p y ∙ w.size;
  told = λ j lt tj. ⊎_elim
      (λ e. ap (slice_index (set table p y)) (ap place e ∙ sym ep) ∙ get_or-set_same table p y 0 within ∙ ey ∙ ap value (sym e))
      (λ ne. get_or-set_other table p (place j) y 0 (λ same. apart j (omega arith) tj (same ∙ ep)) ∙ w.told j (omega arith) tj)
      (cases_eq j i);
  others = λ x none. get_or-set_other table p x y 0 (λ same. none i (omega arith) t (sym ep ∙ sym same)) ∙ w.others x (λ j lt. none j (omega arith));
}

-- a number that does not pass
pub Written-skip : (place value : ℕ → ℕ) (passes : ℕ → Bool) (i : ℕ) (old table : List ℕ)
    → Written place value passes i old table → passes i ≡ false → Written place value passes (i + 1) old table
Written-skip place value passes i old table w f = record {
  size = w.size;
  told = λ j lt tj. ⊎_elim (λ e. absurd (false≢true (sym f ∙ ap passes (sym e) ∙ tj))) (λ ne. w.told j (omega arith) tj) (cases_eq j i);
  others = λ x none. w.others x (λ j lt. none j (omega arith));
}

-- a loop's step: one item more with its new name
pub map_more : (h : ℕ → ℕ) (xs : List ℕ) (i : ℕ) {ys zs : List ℕ} {y : ℕ} → ys ≡ map h (take i xs) → i < length xs
    → y ≡ h (slice_index xs i) → zs ≡ ys ++ y ∷ [] → zs ≡ map h (take (i + 1) xs)
map_more h xs i {ys} {zs} {y} e lt ey ez =
    ez ∙ ap₂ (λ us v. us ++ v ∷ []) e ey ∙ sym (ap (map h) (take_more xs i 0 lt) ∙ map-append h (take i xs) (slice_index xs i ∷ []))
