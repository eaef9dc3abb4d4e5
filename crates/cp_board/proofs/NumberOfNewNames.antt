-- There are as many new names as are asked for.
use Rattle.std.proofs.Common.{◌≡◌, ◌≢◌, ℕ, ◌+◌, ◌≤◌, Bool, true, false, not, ◌||◌, cond, ltb, List, [], ◌∷◌, length, refl, ap, ◌∙◌, subst, ⊎_elim, arith}
use Rattle.std.specs.Prelude.{filter}
use Rattle.std.specs.List.{range_with_len}
use Rattle.std.specs.List.Sorted.{IsStrictlyIncreasing}
use Rattle.std.proofs.lemmas.Bool.{and_parts, cases_Bool, cases_eq, cond-true, cond-false, eq-eqb, ne_eqb, ltb-true}
use Rattle.std.proofs.lemmas.List.{length-take-le}
use Rattle.std.proofs.lemmas.List.FromFn.{get_or-range_with_len, length-range_with_len}
use Rattle.cp_lists.specs.CyclicLists.{Lacks, Distinct}
use Rattle.cp_board.specs.Names.{has, new_names}
use Rattle.cp_board.proofs.ListTests.{rises}
use Rattle.cp_board.proofs.NamedLists.{rises_from, filter_true}

-- numbers that rise from x on are none of those up to x
rises_lacks : (x : ℕ) (xs : List ℕ) → rises (x ∷ xs) ≡ true → (z : ℕ) → z ≤ x → Lacks z xs
rises_lacks x [] t z le = tt
rises_lacks x (y ∷ ys) t z le =
    let h = and_parts (ltb x y) (rises (y ∷ ys)) t in
    let lt = ltb-true x y h.0 in
    ((λ e. omega (arith, lt, le, e)), rises_lacks y ys h.1 z (omega (arith, lt, le)))

-- the rest of numbers that rise
rises_rest : (x : ℕ) (xs : List ℕ) → rises (x ∷ xs) ≡ true → rises xs ≡ true
rises_rest x [] t = refl
rises_rest x (y ∷ ys) t = (and_parts (ltb x y) (rises (y ∷ ys)) t).1

-- numbers that rise are distinct
pub Distinct-from_rises : (xs : List ℕ) → rises xs ≡ true → Distinct xs
Distinct-from_rises [] t = tt
Distinct-from_rises (x ∷ xs) t = (rises_lacks x xs t x (omega arith), Distinct-from_rises xs (rises_rest x xs t))

-- the numbers from 0 on rise
range_rises : (m : ℕ) → IsStrictlyIncreasing (range_with_len 0 m)
range_rises m k lt =
    omega (
      arith,
      get_or-range_with_len 0 m k 0 (omega (arith, lt, length-range_with_len 0 m)),
      get_or-range_with_len 0 m (k + 1) 0 (omega (arith, lt, length-range_with_len 0 m)),
    )

-- one name more, which no number is, leaves the same numbers
filter-not_has_other : (l : ℕ) (ls xs : List ℕ) → Lacks l xs
    → filter (λ k. not (has (l ∷ ls) k)) xs ≡ filter (λ k. not (has ls k)) xs
filter-not_has_other l ls [] lacks = refl
filter-not_has_other l ls (x ∷ xs) lacks =
    let same : not (has (l ∷ ls) x) ≡ not (has ls x) = ap (λ b. not (b || has ls x)) (ne_eqb x l lacks.0) in
    ap (λ b. cond b (x ∷ filter (λ k. not (has (l ∷ ls) k)) xs) (filter (λ k. not (has (l ∷ ls) k)) xs)) same
    ∙ ap (λ ys. cond (not (has ls x)) (x ∷ ys) ys) (filter-not_has_other l ls xs lacks.1)

-- a number that may be kept makes a list longer by at most one
length-cond : (b : Bool) (x : ℕ) (xs : List ℕ) → length (cond b (x ∷ xs) xs) ≤ length xs + 1
length-cond true x xs = omega arith
length-cond false x xs = omega arith

-- one name more leaves at most one number less
filter-not_has_more : (l : ℕ) (ls xs : List ℕ) → Distinct xs
    → length (filter (λ k. not (has ls k)) xs) ≤ length (filter (λ k. not (has (l ∷ ls) k)) xs) + 1
filter-not_has_more l ls [] distinct = omega arith
filter-not_has_more l ls (x ∷ xs) distinct =
    let few = filter (λ k. not (has (l ∷ ls) k)) xs in
    let many = filter (λ k. not (has ls k)) xs in
    ⊎_elim
    (λ (e : x ≡ l).
    let off : not (has (l ∷ ls) x) ≡ false = ap (λ b. not (b || has ls x)) (eq-eqb x l e) in
    let now = ap length (cond-false (not (has (l ∷ ls) x)) (x ∷ few) few off) in
    let rest = ap length (filter-not_has_other l ls xs (subst (λ z. Lacks z xs) e distinct.0)) in
    omega (arith, now, rest, length-cond (not (has ls x)) x many))
    (λ (ne : x ≢ l).
    let same : not (has (l ∷ ls) x) ≡ not (has ls x) = ap (λ b. not (b || has ls x)) (ne_eqb x l ne) in
    let rest = filter-not_has_more l ls xs distinct.1 in
    ⊎_elim
    (λ t. omega (arith, rest, ap length (cond-true (not (has ls x)) (x ∷ many) many t), ap length (cond-true (not (has (l ∷ ls) x)) (x ∷ few) few (same ∙ t))))
    (λ f. omega (arith, rest, ap length (cond-false (not (has ls x)) (x ∷ many) many f), ap length (cond-false (not (has (l ∷ ls) x)) (x ∷ few) few (same ∙ f))))
    (cases_Bool (not (has ls x))))
    (cases_eq x l)

-- of distinct numbers all but as many as there are names are none of the names
pub filter-not_has-many : (live xs : List ℕ) → Distinct xs
    → length xs ≤ length (filter (λ k. not (has live k)) xs) + length live
filter-not_has-many [] xs distinct = omega (arith, ap length (filter_true xs))
filter-not_has-many (l ∷ ls) xs distinct =
    omega (arith, filter-not_has-many ls xs distinct, filter-not_has_more l ls xs distinct)

-- as many new names as are asked for
pub length-new_names : (live : List ℕ) (n : ℕ) → length (new_names live n) ≡ n
length-new_names live n =
    let range = range_with_len 0 (length live + n) in
    let many = filter-not_has-many live range (Distinct-from_rises range (rises_from range (range_rises (length live + n)))) in
    length-take-le n (filter (λ k. not (has live k)) range) (omega (arith, many, length-range_with_len 0 (length live + n)))
