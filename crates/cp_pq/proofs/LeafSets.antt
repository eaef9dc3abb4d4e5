-- Sets of leaves: a rising list of distinct leaves has as many items as the leaves that are in it.
use Rattle.std.proofs.Common.{◌≡◌, ℕ, suc, ◌+◌, ◌<◌, Bool, true, false, cond, not, ◌&&◌, ◌||◌, eqb, List, [], ◌∷◌, length, filter, slice_index, refl, sym, ap, ap₂, ◌∙◌, subst, inl, inr, ⊎_elim, arith}
use Rattle.std.specs.List.Sorted.{IsStrictlyIncreasing}
use Rattle.std.proofs.lemmas.Bool.{cases_eq, eq-eqb, ne_eqb, cases_Bool, true≢false, false≢true}
use Rattle.cp_lists.specs.CyclicLists.{Has, Lacks, Distinct}
use Rattle.cp_lists.proofs.DistinctLists.{Lacks-from, has_lacks}
use Rattle.cp_pq.specs.Orders.{inside, outside}

-- an item of the set is inside, and back
pub inside_of : (set : List ℕ) (x : ℕ) → inside set x ≡ true → Has x set
inside_of [] x h = absurd (false≢true h)
inside_of (y ∷ set) x h = ⊎_elim
    (λ e. inl e)
    (λ ne. inr (inside_of set x (sym (ap (λ b. b || inside set x) (ne_eqb y x ne)) ∙ h)))
    (cases_eq y x)

-- a leaf that a set lacks is outside
pub lacks_outside : (set : List ℕ) (x : ℕ) → Lacks x set → outside set x ≡ true
lacks_outside set x l = ⊎_elim (λ i. absurd (has_lacks x set (inside_of set x i) l)) (λ o. ap (λ b. not b) o) (cases_Bool (inside set x))

-- the items behind the first of a rising list are greater
pub rest_rises : (y : ℕ) (ys : List ℕ) → IsStrictlyIncreasing (y ∷ ys) → IsStrictlyIncreasing ys
rest_rises y ys h k lt =
    let e : suc k + 1 ≡ suc (k + 1) = omega arith in
    subst (λ z. slice_index (y ∷ ys) (suc k) < slice_index (y ∷ ys) z) e (h (suc k) (omega (arith, lt)))

-- the items behind the first of a rising list are greater
pub greater : (y : ℕ) (ys : List ℕ) → IsStrictlyIncreasing (y ∷ ys) → (x : ℕ) → Has x ys → y < x
greater y [] h x m = absurd m
greater y (z ∷ zs) h x m =
    let first : y < z = h 0 (omega arith) in
    ⊎_elim
    (λ e. subst (λ w. y < w) e first)
    (λ n. let a = greater z zs (rest_rises y (z ∷ zs) h) x n in omega (arith, a, first))
    m

-- how often an item stands in a list
once_none : (y : ℕ) (xs : List ℕ) → Lacks y xs → length (filter (λ x. eqb y x) xs) ≡ 0
once_none y [] l = refl
once_none y (x ∷ xs) l = ap (λ b. length (cond b (x ∷ filter (λ z. eqb y z) xs) (filter (λ z. eqb y z) xs))) (ne_eqb y x (λ e. l.0 (sym e))) ∙ once_none y xs l.1

-- an item of a list of distinct items stands there once
once : (y : ℕ) (xs : List ℕ) → Distinct xs → Has y xs → length (filter (λ x. eqb y x) xs) ≡ 1
once y [] d h = absurd h
once y (x ∷ xs) d h = ⊎_elim
    (λ e. ap (λ b. length (cond b (x ∷ filter (λ z. eqb y z) xs) (filter (λ z. eqb y z) xs))) (eq-eqb y x (sym e)) ∙ ap (λ n. suc n) (once_none y xs (subst (λ w. Lacks w xs) e d.0)))
    (λ m. ap (λ b. length (cond b (x ∷ filter (λ z. eqb y z) xs) (filter (λ z. eqb y z) xs))) (ne_eqb y x (λ e. has_lacks y xs m (subst (λ w. Lacks w xs) (sym e) d.0))) ∙ once y xs d.1 m)
    h

-- one more item in the set
one_more : (y : ℕ) (ys xs : List ℕ) → Lacks y ys
    → length (filter (inside (y ∷ ys)) xs) ≡ length (filter (λ x. eqb y x) xs) + length (filter (inside ys) xs)
one_more y ys [] l = refl
one_more y ys (x ∷ xs) l = ⊎_elim
    (λ e. let a = eq-eqb y x e in
    let b : inside ys x ≡ false = ⊎_elim (λ i. absurd (has_lacks y ys (subst (λ w. Has w ys) (sym e) (inside_of ys x i)) l)) (λ o. o) (cases_Bool (inside ys x)) in
    count (eqb y x) (inside ys x) true false a b refl (one_more y ys xs l))
    (λ ne. ⊎_elim
    (λ i. count (eqb y x) (inside ys x) false true (ne_eqb y x ne) i refl (one_more y ys xs l))
    (λ o. count (eqb y x) (inside ys x) false false (ne_eqb y x ne) o refl (one_more y ys xs l))
    (cases_Bool (inside ys x)))
    (cases_eq y x)
  where
    count : (a b c d : Bool) → a ≡ c → b ≡ d → (c && d) ≡ false
        → length (filter (inside (y ∷ ys)) xs) ≡ length (filter (λ z. eqb y z) xs) + length (filter (inside ys) xs)
        → length (cond (a || b) (x ∷ filter (inside (y ∷ ys)) xs) (filter (inside (y ∷ ys)) xs))
        ≡ length (cond a (x ∷ filter (λ z. eqb y z) xs)
        (filter (λ z. eqb y z) xs)) + length (cond b (x ∷ filter (inside ys) xs) (filter (inside ys) xs))
    count true true c d e f n ih = absurd (true≢false (ap₂ (λ u v. u && v) e f ∙ n))
    count true false c d e f n ih = omega (arith, ih)
    count false true c d e f n ih = omega (arith, ih)
    count false false c d e f n ih = ih

-- the leaves in a set of distinct leaves are as many as the set
pub set_count : (set xs : List ℕ) → IsStrictlyIncreasing set → Distinct xs → ((x : ℕ) → Has x set → Has x xs)
    → length (filter (inside set) xs) ≡ length set
set_count [] xs rising d all = none xs
  where
    none : (ys : List ℕ) → length (filter (inside []) ys) ≡ 0
    none [] = refl
    none (y ∷ ys) = none ys
set_count (y ∷ set) xs rising d all =
    let l : Lacks y set = Lacks-from y set (λ h. let g = greater y set rising y h in omega (arith, g)) in
    let a = one_more y set xs l in
    let b = once y xs d (all y (inl refl)) in
    let c = set_count set xs (rest_rises y set rising) d (λ x h. all x (inr h)) in
    omega (arith, a, b, c)
