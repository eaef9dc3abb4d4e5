-- Rows whose keys rise: there is one such order of a row.
use Rattle.std.proofs.Common.{◌≡◌, ℕ, suc, ◌<◌, ◌≤◌, ◌⊎◌, Bool, cond, List, [], ◌∷◌, filter, map, length, get_or, refl, sym, ap, ◌∙◌, subst, inl, inr, ⊎_elim, arith, IsPermutation}
use Rattle.std.specs.Prelude.{nat_lt}
use Rattle.std.specs.List.{AllByRecursion}
use Rattle.std.specs.List.Sorted.{IsNonDecreasingBy}
use Rattle.std.proofs.lemmas.Bool.{lt-ltb, le-ltb}
use Rattle.std.proofs.lemmas.List.Sorted.{IsPermutation-sym, IsPermutation-map, length_permutation}
use Rattle.cp_lists.specs.CyclicLists.{Lacks, Distinct}
use Rattle.cp_pq.proofs.PermutedLists.{Distinct-IsPermutation}
use Rattle.cp_force.proofs.PermutedRows.{all_permuted}
use Rattle.cp_pq.proofs.Permutations.{IsPermutation-filter}

module _ {X : Type 0} (key : X → ℕ) where
  -- each key is less than those behind it
  abbrev pub KeysRise : List X → Type 0
  KeysRise [] = Unit {0}
  KeysRise (f ∷ fs) = AllByRecursion (λ g. key f < key g) fs × KeysRise fs

  -- a key less than the others is none of them
  lacks_less : (n : ℕ) (fs : List X) → AllByRecursion (λ g. n < key g) fs → Lacks n (map key fs)
  lacks_less n [] h = tt
  lacks_less n (f ∷ fs) h = (λ e. let lt = h.0 in omega (arith, e, lt), lacks_less n fs h.1)

  -- rising keys are distinct
  distinct_keys : (fs : List X) → KeysRise fs → Distinct (map key fs)
  distinct_keys [] h = tt
  distinct_keys (f ∷ fs) h = (lacks_less (key f) fs h.0, distinct_keys fs h.1)

  -- what holds at each place holds of each item
  all_places : (P : X → Type 0) (fs : List X) → ((j : ℕ) (d : X) → j < length fs → P (get_or fs j d))
      → AllByRecursion P fs
  all_places P [] h = tt
  all_places P (f ∷ fs) h = (h 0 f (omega arith), all_places P fs (λ j d lt. h (suc j) d (omega arith)))

  -- keys that are not less, and are distinct, are greater
  greater : (n : ℕ) (fs : List X) → AllByRecursion (λ g. n ≤ key g) fs → Lacks n (map key fs)
      → AllByRecursion (λ g. n < key g) fs
  greater n [] h l = tt
  greater n (f ∷ fs) h l = (above (key f) h.0 l.0, greater n fs h.1 l.1)
    where
      above : (m : ℕ) → n ≤ m → (m ≡ n → ⊥) → n < m
      above m le ne = omega arith

  -- sorted distinct keys rise
  sorted_rise : (fs : List X) → IsNonDecreasingBy key fs → Distinct (map key fs) → KeysRise fs
  sorted_rise [] s d = tt
  sorted_rise (f ∷ fs) s d = (
    greater (key f) fs (all_places (λ g. key f ≤ key g) fs (λ j e lt. s 0 (suc j) e (omega arith) (omega arith))) d.0,
    sorted_rise fs (λ i j e le lt. s (suc i) (suc j) e (omega arith) (omega arith)) d.1,
  )

  -- whether a key is greater
  abbrev behind : ℕ → X → Bool
  behind n g = nat_lt n (key g)

  -- items with greater keys pass
  all_behind : (n : ℕ) (fs : List X) → AllByRecursion (λ g. n < key g) fs → filter (behind n) fs ≡ fs
  all_behind n [] h = refl
  all_behind n (f ∷ fs) h =
      subst (λ b. cond b (f ∷ filter (behind n) fs) (filter (behind n) fs) ≡ f ∷ fs) (sym (lt-ltb n (key f) h.0))
      (ap (λ gs. f ∷ gs) (all_behind n fs h.1))

  -- an item with the same key does not
  not_itself : (f : X) (fs : List X) → filter (behind (key f)) (f ∷ fs) ≡ filter (behind (key f)) fs
  not_itself f fs = subst (λ b. cond b (f ∷ filter (behind (key f)) fs) (filter (behind (key f)) fs)
      ≡ filter (behind (key f)) fs) (sym (le-ltb (key f) (key f) (omega arith))) refl

  -- one of the two heads is the other, as each is least
  same_head : (h g : X) → (g ≡ h) ⊎ (key h < key g) → (h ≡ g) ⊎ (key g < key h) → g ≡ h
  same_head h g one two = ⊎_elim (λ e. e) (λ a. ⊎_elim sym (λ b. absurd (omega (arith, a, b))) two) one

  -- the head is itself or less
  least : (f : X) (fs : List X) → AllByRecursion (λ g. key f < key g) fs
      → AllByRecursion (λ g. (g ≡ f) ⊎ (key f < key g)) fs
  least f [] h = tt
  least f (g ∷ fs) h = (inr h.0, least f fs h.1)

  -- a row has one order in which its keys rise
  pub one_rising_order : (hs gs : List X) → KeysRise hs → KeysRise gs → IsPermutation hs gs → gs ≡ hs
  one_rising_order [] [] a b p = refl
  one_rising_order [] (g ∷ gs) a b p = let e = length_permutation [] (g ∷ gs) p in absurd (omega (arith, e))
  one_rising_order (h ∷ hs) [] a b p = let e = length_permutation (h ∷ hs) [] p in absurd (omega (arith, e))
  one_rising_order (h ∷ hs) (g ∷ gs) a b p =
      rest (same_head h g
      (all_permuted (λ f. (f ≡ h) ⊎ (key h < key f)) (h ∷ hs) (g ∷ gs) p (inl refl, least h hs a.0)).0
      (all_permuted (λ f. (f ≡ g) ⊎ (key g < key f)) (g ∷ gs) (h ∷ hs) (IsPermutation-sym (h ∷ hs) (g ∷ gs) p)
      (inl refl, least g gs b.0)).0)
      (λ q. one_rising_order hs gs a.1 b.1 q)
    where
      rest : g ≡ h → (IsPermutation hs gs → gs ≡ hs) → g ∷ gs ≡ h ∷ hs
      rest e again =
          let behind_both = IsPermutation-filter (behind (key h)) (h ∷ hs) (h ∷ gs)
          (subst (λ z. IsPermutation (h ∷ hs) (z ∷ gs)) e p) in
          let left : filter (behind (key h)) (h ∷ hs) ≡ hs = not_itself h hs ∙ all_behind (key h) hs a.0 in
          let right : filter (behind (key h)) (h ∷ gs) ≡ gs =
          not_itself h gs ∙ all_behind (key h) gs (subst (λ z. AllByRecursion (λ g. key z < key g) gs) e b.0) in
          let inner : IsPermutation hs gs =
          subst (λ z. IsPermutation hs z) right (subst (λ z. IsPermutation z (filter (behind (key h))
          (h ∷ gs))) left behind_both) in
          ap (λ z. z ∷ gs) e ∙ ap (λ zs. h ∷ zs) (again inner)

  -- a row sorted by its keys is the row in which they rise
  pub sorted_is_rising : (hs gs : List X) → KeysRise hs → IsPermutation hs gs → IsNonDecreasingBy key gs → gs ≡ hs
  sorted_is_rising hs gs rise p s =
      one_rising_order hs gs rise
      (sorted_rise gs s
      (Distinct-IsPermutation (map key hs) (map key gs) (IsPermutation-map key hs gs p) (distinct_keys hs rise))) p
