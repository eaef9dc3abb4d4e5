-- New names, and items under names.
use Rattle.std.proofs.Common.{Contains, slice_index_or, ◌∙◌, ap, ◌≡◌, ◌≢◌, ℕ, ◌+◌, ◌<◌, Bool, true, false, not, ◌||◌, eqb, List, [], ◌∷◌, length, map, sym, refl, subst, subst₂, ⊎_elim, arith}
use Rattle.std.specs.Prelude.{filter, find, take, None}
use Rattle.std.specs.List.{All, range_with_len}
use Rattle.std.specs.List.Sorted.{IsStrictlyIncreasing}
use Rattle.std.proofs.lemmas.Bool.{both_ways, eq-eqb, ne_eqb, false≢true}
use Rattle.std.proofs.lemmas.List.{get_or-take, length-take}
use Rattle.std.proofs.lemmas.List.Elements.{Contains-get_or, All-contains}
use Rattle.std.proofs.lemmas.List.FromFn.{get_or-range_with_len, length-range_with_len}
use Rattle.std.proofs.lemmas.List.Kept.{IsStrictlyIncreasing-filter}
use Rattle.cp_lists.specs.CyclicLists.{Distinct, Has, Lacks}
use Rattle.cp_lists.proofs.DistinctLists.{Has-Contains}
use Rattle.cp_board.specs.Names.{has, AreNew}
use Rattle.cp_board.proofs.NamedLists.{rises_from}
use Rattle.cp_board.proofs.NewNames.{new_names-dead}
use Rattle.cp_board.proofs.NumberOfNewNames.{Distinct-from_rises}

-- the test for an item of a list
pub has-true : (xs : List ℕ) (x : ℕ) → Has x xs → has xs x ≡ true
has-true [] x h = absurd h
has-true (y ∷ ys) x h = ⊎_elim
    (λ (e : y ≡ x). rw (eq-eqb x y (sym e)) refl)
    (λ k. or_right (eqb x y) (has ys x) (has-true ys x k)) h
  where
    or_right : (a b : Bool) → b ≡ true → (a || b) ≡ true
    or_right true b t = refl
    or_right false b t = t

-- and for none
pub has-false : (xs : List ℕ) (x : ℕ) → Lacks x xs → has xs x ≡ false
has-false [] x l = refl
has-false (y ∷ ys) x l = rw (ne_eqb x y (λ e. l.0 (sym e))) (has-false ys x l.1)

-- nothing stands under a name that no item has
pub find-none : {A : Type 0} (name : A → ℕ) (n : ℕ) (xs : List A) → Lacks n (map name xs)
    → find (λ y. eqb (name y) n) xs ≡ None
find-none name n [] l = refl
find-none name n (x ∷ xs) l = rw (ne_eqb (name x) n l.0) (find-none name n xs l.1)

-- the numbers from 0 on rise
range_rises : (m : ℕ) → IsStrictlyIncreasing (range_with_len 0 m)
range_rises m k lt =
    let within : k + 1 < m = omega (arith, lt, length-range_with_len 0 m) in
    omega (arith, get_or-range_with_len 0 m k 0 (omega (arith, within)), get_or-range_with_len 0 m (k + 1) 0 within)

-- the first of numbers that rise
pub rising-take : (n : ℕ) (xs : List ℕ) → IsStrictlyIncreasing xs → IsStrictlyIncreasing (take n xs)
rising-take n xs up k lt =
    let size = length-take n xs in
    subst₂ (λ x y. x < y) (sym (get_or-take n xs k 0 (omega (arith, lt, size))))
    (sym (get_or-take n xs (k + 1) 0 (omega (arith, lt, size))))
    (up k (omega (arith, lt, size)))

-- new names rise
pub fresh_rising : (live names : List ℕ) → AreNew live names → IsStrictlyIncreasing names
fresh_rising live names new =
    subst IsStrictlyIncreasing (sym new)
    (rising-take (length names) (filter (λ k. not (has live k)) (range_with_len 0 (length live + length names)))
    (IsStrictlyIncreasing-filter (λ k. not (has live k)) (range_with_len 0 (length live + length names))
    (range_rises (length live + length names))))

-- so none stands twice
pub fresh_once : (live names : List ℕ) → AreNew live names → Distinct names
fresh_once live names new = Distinct-from_rises names (rises_from names (fresh_rising live names new))

-- a new name is not live
pub fresh_other : (live names : List ℕ) (n m : ℕ) → AreNew live names → Has n names → Has m live → n ≢ m
fresh_other live names n m new h c e =
    both_ways (has live n)
    (All-contains (λ k. has live k ≡ false) names n (new_names-dead live names new) ((Has-Contains n names).0 h))
    (has-true live n (subst (λ z. Has z live) (sym e) c))

-- an item that a test of names passes has none of the names
pub passed : (names : List ℕ) (n : ℕ) → not (has names n) ≡ true → (m : ℕ) → Has m names → n ≢ m
passed names n t m h e =
    false≢true (sym (ap not (has-true names n (subst (λ z. Has z names) (sym e) h))) ∙ t)

-- what holds of each item that a list contains
pub All-from_items : {A : Type 0} (R : A → Type 0) (xs : List A) → ((x : A) → Contains xs x → R x) → All R xs
All-from_items R xs h k d lt = h (slice_index_or xs k d) (Contains-get_or xs k d lt)
