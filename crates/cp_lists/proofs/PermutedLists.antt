-- Permutations: what holds along each of them, and what they keep of numbers in lists.
use Rattle.std.proofs.Common.{ℕ, zero, suc, ◌<◌, List, [], ◌∷◌, ◌++◌, length, get_or, set, swap, refl, sym, subst, arith, inl, inr, ⊎_elim, IsPermutation}
use Rattle.std.proofs.lemmas.List.Sorted.{IsPermutation-cons, IsPermutation-keeps, IsPermutation-middle, IsPermutation-refl, IsPermutation-sym, IsPermutation-trans}
use Rattle.cp_lists.specs.CyclicLists.{Has, Lacks, Distinct}
use Rattle.cp_lists.proofs.DistinctLists.{Distinct-less, Distinct-middle, Has-append_cases, Has-append_left, Has-append_right, Has-split, Lacks-from, has_lacks, has_other}

-- A relation holds along each permutation if it is reflexive and transitive, and goes under a head and over an exchange
-- of two heads.
module _ {X : Type 0} (R : List X → List X → Type 0) (same : (xs : List X) → R xs xs)
    (skip : (x : X) (xs ys : List X) → R xs ys → R (x ∷ xs) (x ∷ ys))
    (turn : (x y : X) (xs : List X) → R (x ∷ y ∷ xs) (y ∷ x ∷ xs))
    (chain : (xs ys zs : List X) → R xs ys → R ys zs → R xs zs) where
  -- an exchange with the head
  to_head : (l : List X) (j : ℕ) (x d : X) → j < length l → R (x ∷ l) (get_or l j d ∷ set l j x)
  to_head [] j x d h = absurd (omega arith)
  to_head (y ∷ l) zero x d h = turn x y l
  to_head (y ∷ l) (suc j) x d h =
      chain _ _ _ (turn x y l)
      (chain _ _ _ (skip y _ _ (to_head l j x d (omega arith))) (turn y (get_or l j d) (set l j x)))

  -- an exchange of two items, written as two writes
  exchanged : (l : List X) (i j : ℕ) (d : X) → i < length l → j < length l
      → R l (set (set l i (get_or l j d)) j (get_or l i d))
  exchanged [] i j d p q = absurd (omega arith)
  exchanged (x ∷ l) zero zero d p q = same (x ∷ l)
  exchanged (x ∷ l) zero (suc j) d p q = to_head l j x d (omega arith)
  exchanged (x ∷ l) (suc i) zero d p q = to_head l i x d (omega arith)
  exchanged (x ∷ l) (suc i) (suc j) d p q = skip x _ _ (exchanged l i j d (omega arith) (omega arith))

  -- an exchange of two items
  swapped : (l : List X) (i j : ℕ) → i < length l → j < length l → R l (swap l i j)
  swapped [] i j p q = same []
  swapped (x ∷ l) i j p q = exchanged (x ∷ l) i j x p q

  -- the relation holds between a list and each permutation of it
  pub along_permutation : (xs ys : List X) → IsPermutation xs ys → R xs ys
  along_permutation xs = IsPermutation-keeps xs (R xs) (same xs) (λ l i j p q h. chain xs l _ h (swapped l i j p q))

-- a permutation has the same items
pub Has-IsPermutation : (d : ℕ) (xs ys : List ℕ) → IsPermutation xs ys → Has d xs → Has d ys
Has-IsPermutation d = along_permutation (λ xs ys. Has d xs → Has d ys)
    (λ xs h. h)
    (λ x xs ys f. ⊎_elim inl (λ h. inr (f h)))
    (λ x y xs. ⊎_elim (λ e. inr (inl e)) (⊎_elim (λ e. inl e) (λ h. inr (inr h))))
    (λ xs ys zs f g h. g (f h))

-- what a list lacks a permutation lacks
pub Lacks-IsPermutation : (d : ℕ) (xs ys : List ℕ) → IsPermutation xs ys → Lacks d xs → Lacks d ys
Lacks-IsPermutation d xs ys p l = Lacks-from d ys (λ h. has_lacks d xs (Has-IsPermutation d ys xs (IsPermutation-sym xs ys p) h) l)

-- what one list lacks the other lacks, and it is distinct where the one is
abbrev KeepsDistinct : List ℕ → List ℕ → Type 0
KeepsDistinct xs ys = ((d : ℕ) → Lacks d xs → Lacks d ys) × (Distinct xs → Distinct ys)

-- a permutation of distinct items is distinct
pub Distinct-IsPermutation : (xs ys : List ℕ) → IsPermutation xs ys → Distinct xs → Distinct ys
Distinct-IsPermutation xs ys p = (along_permutation KeepsDistinct
    (λ xs. (λ d l. l, λ d. d))
    (λ x xs ys f. (λ d l. (l.0, f.0 d l.1), λ d. (f.0 x d.0, f.1 d.1)))
    (λ x y xs. (λ d l. (l.1.0, (l.0, l.1.1)), λ d. ((λ e. d.0.0 (sym e), d.1.0), (d.0.1, d.1.1))))
    (λ xs ys zs f g. (λ d l. g.0 d (f.0 d l), λ d. g.1 (f.1 d))) xs ys p).1

-- distinct lists of the same items are permutations of each other
pub IsPermutation-from : (xs ys : List ℕ) → Distinct xs → Distinct ys → ((d : ℕ) → Has d xs → Has d ys)
    → ((d : ℕ) → Has d ys → Has d xs) → IsPermutation xs ys
IsPermutation-from [] [] once once' to from = IsPermutation-refl []
IsPermutation-from [] (y ∷ ys) once once' to from = absurd (from y (inl refl))
IsPermutation-from (x ∷ xs) ys once once' to from =
    let s = Has-split x ys (to x (inl refl)) in
    let us : List ℕ = s.0 in
    let vs : List ℕ = s.1 in
    let split : Distinct (us ++ x ∷ vs) = subst Distinct s.2 once' in
    let apart = Distinct-middle x us vs split in
    let there : (d : ℕ) → Has d xs → Has d (us ++ vs) =
    λ d h. ⊎_elim
    (λ k. Has-append_left d us vs k)
    (λ k. ⊎_elim (λ e. absurd (has_other d x xs h once.0 (sym e))) (λ m. Has-append_right d us vs m) k)
    (Has-append_cases d us (x ∷ vs) (subst (Has d) s.2 (to d (inr h)))) in
    let back : (d : ℕ) → Has d (us ++ vs) → Has d xs =
    λ d h. ⊎_elim
    (λ k. ⊎_elim
    (λ e. absurd (has_lacks x us (subst (λ z. Has z us) (sym e) k) apart.0))
    (λ m. m)
    (from d (subst (Has d) (sym s.2) (Has-append_left d us (x ∷ vs) k))))
    (λ k. ⊎_elim
    (λ e. absurd (has_lacks x vs (subst (λ z. Has z vs) (sym e) k) apart.1))
    (λ m. m)
    (from d (subst (Has d) (sym s.2) (Has-append_right d us (x ∷ vs) (inr k)))))
    (Has-append_cases d us vs h) in
    subst (IsPermutation (x ∷ xs)) (sym s.2)
    (IsPermutation-trans (x ∷ xs) (x ∷ (us ++ vs)) (us ++ x ∷ vs)
    (IsPermutation-cons x xs (us ++ vs)
    (IsPermutation-from xs (us ++ vs) once.1 (Distinct-less us x vs split) there back))
    (IsPermutation-sym (us ++ x ∷ vs) (x ∷ (us ++ vs)) (IsPermutation-middle us x vs)))
