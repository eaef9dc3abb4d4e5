-- What tests on lists tell: that items pass, that numbers rise or differ, that lists are equal.
use Rattle.std.proofs.Common.{◌≡◌, ℕ, zero, suc, ◌+◌, ◌<◌, Bool, true, false, not, ◌&&◌, ◌||◌, eqb, ltb, List, [], ◌∷◌, length, sym, refl, ap, ◌∙◌, subst, ⊎_elim, arith}
use Rattle.std.specs.Prelude.{slice_index}
use Rattle.std.specs.List.{All, Contains, list_all}
use Rattle.std.specs.List.Sorted.{IsStrictlyIncreasing}
use Rattle.std.proofs.lemmas.Bool.{false≢true, and_parts, or_cases, eqb-true, eqb-false, ltb-true, not-true}
use Rattle.std.proofs.lemmas.List.Sums.{AllPass-from_list_all}
use Rattle.cp_lists.specs.CyclicLists.{Distinct, Lacks}
use Rattle.cp_board.specs.Names.{has}

-- what a test tells of each item
pub All-from_test : {X : Type 0} (P : X → Type 0) (t : X → Bool) → ((x : X) → t x ≡ true → P x) → (xs : List X)
    → list_all t xs ≡ true → All P xs
All-from_test P t tells xs e k d lt = tells _ (AllPass-from_list_all t xs e k d lt)

-- each item is less than the next
abbrev pub rises : List ℕ → Bool
rises [] = true
rises (x ∷ []) = true
rises (x ∷ y ∷ ys) = ltb x y && rises (y ∷ ys)

-- an item of a list that rises is less than the one directly behind it
rises_at : (xs : List ℕ) (k m : ℕ) → rises xs ≡ true → m ≡ suc k → m < length xs → slice_index xs k < slice_index xs m
rises_at [] k m t e lt = absurd (omega arith)
rises_at (x ∷ []) k m t e lt = absurd (omega arith)
rises_at (x ∷ y ∷ ys) zero m t e lt = subst (λ n. x < slice_index (x ∷ y ∷ ys) n) (sym e) (ltb-true x y (and_parts (ltb x y) (rises (y ∷ ys)) t).0)
rises_at (x ∷ y ∷ ys) (suc k) m t e lt = subst (λ n. slice_index (x ∷ y ∷ ys) (suc k) < slice_index (x ∷ y ∷ ys) n) (sym e) (rises_at (y ∷ ys) k (suc k) (and_parts (ltb x y) (rises (y ∷ ys)) t).1 refl (omega arith))

-- a list that passes the test rises
pub IsStrictlyIncreasing-from_test : (xs : List ℕ) → rises xs ≡ true → IsStrictlyIncreasing xs
IsStrictlyIncreasing-from_test xs t k lt = rises_at xs k (k + 1) t (omega arith) lt

-- the item is in the list
pub Contains-from_has : (xs : List ℕ) (x : ℕ) → has xs x ≡ true → Contains xs x
Contains-from_has [] x t = absurd (false≢true t)
Contains-from_has (y ∷ ys) x t =
    ⊎_elim (λ h. (0, omega arith, sym (eqb-true x y h))) (λ h. let c = Contains-from_has ys x h in (suc c.0, omega (arith, c.1), c.2)) (or_cases (eqb x y) (has ys x) t)

-- no two items are equal
abbrev pub distinct : List ℕ → Bool
distinct [] = true
distinct (x ∷ xs) = not (has xs x) && distinct xs

-- an item that is not found in a list is none of its items
lacks : (x : ℕ) (xs : List ℕ) → not (has xs x) ≡ true → Lacks x xs
lacks x [] t = tt
lacks x (y ∷ ys) t =
    let p = not_both (eqb x y) (has ys x) t in
    (λ e. eqb-false x y (not-true (eqb x y) p.0) (sym e), lacks x ys p.1)
  where
    not_both : (a b : Bool) → not (a || b) ≡ true → (not a ≡ true) × (not b ≡ true)
    not_both true b e = absurd (false≢true e)
    not_both false b e = (refl, e)

-- a list that passes the test has no item twice
pub Distinct-from_test : (xs : List ℕ) → distinct xs ≡ true → Distinct xs
Distinct-from_test [] t = tt
Distinct-from_test (x ∷ xs) t = let p = and_parts (not (has xs x)) (distinct xs) t in (lacks x xs p.0, Distinct-from_test xs p.1)

-- two lists are equal
abbrev pub same : List ℕ → List ℕ → Bool
same [] [] = true
same [] (y ∷ ys) = false
same (x ∷ xs) [] = false
same (x ∷ xs) (y ∷ ys) = eqb x y && same xs ys

-- lists that pass the test are equal
pub same_lists : (xs ys : List ℕ) → same xs ys ≡ true → xs ≡ ys
same_lists [] [] t = refl
same_lists [] (y ∷ ys) t = absurd (false≢true t)
same_lists (x ∷ xs) [] t = absurd (false≢true t)
same_lists (x ∷ xs) (y ∷ ys) t = let p = and_parts (eqb x y) (same xs ys) t in ap (λ z. z ∷ xs) (eqb-true x y p.0) ∙ ap (λ zs. y ∷ zs) (same_lists xs ys p.1)
