-- Items of a list by their places.
use Rattle.std.proofs.Common.{◌≡◌, ℕ, suc, zero, ◌<◌, ◌⊎◌, List, [], ◌∷◌, ◌++◌, length, set, Some, replicate, slice_get, sym, refl, ap, ◌∙◌, subst, inl, inr, arith}
use Rattle.std.specs.List.{All}
use Rattle.std.proofs.lemmas.Option.{none-some, same_Some, slice_get_within, get_or_from_slice_get}

-- what holds of all items holds of the one at a place
pub All-at : {A : Type 0} (P : A → Type 0) (xs : List A) (i : ℕ) (x : A) → All P xs → slice_get xs i ≡ Some x → P x
All-at P xs i x all at = subst P (get_or_from_slice_get xs i x x at) (all i x (slice_get_within xs i x at))

-- one item stands at a place
pub same_at : {A : Type 0} (xs : List A) (i : ℕ) (x y : A) → slice_get xs i ≡ Some x → slice_get xs i ≡ Some y → x ≡ y
same_at xs i x y one other = same_Some x y (sym one ∙ other)

-- an item of the first part is one of the whole
pub at_append : {A : Type 0} (xs ys : List A) (i : ℕ) (x : A) → slice_get xs i ≡ Some x
    → slice_get (xs ++ ys) i ≡ Some x
at_append [] ys i x at = absurd (none-some x at)
at_append (z ∷ xs) ys zero x at = at
at_append (z ∷ xs) ys (suc i) x at = at_append xs ys i x at

-- a further item stands behind the others
pub at_end : {A : Type 0} (xs : List A) (y : A) → slice_get (xs ++ y ∷ []) (length xs) ≡ Some y
at_end [] y = refl
at_end (z ∷ xs) y = at_end xs y

-- an item of a list with a further item is an old one or the further one
pub at_cases : {A : Type 0} (xs : List A) (y : A) (i : ℕ) (x : A) → slice_get (xs ++ y ∷ []) i ≡ Some x
    → (slice_get xs i ≡ Some x) ⊎ ((i ≡ length xs) × (y ≡ x))
at_cases [] y zero x at = inr (refl, same_Some y x at)
at_cases [] y (suc i) x at = absurd (none-some x at)
at_cases (z ∷ xs) y zero x at = inl at
at_cases (z ∷ xs) y (suc i) x at =
    elim (at_cases xs y i x at) [ inl old ↦ inl old | inr new ↦ inr (ap suc new.0, new.1) ]

-- a new item stands at its place
pub at_set : {A : Type 0} (xs : List A) (i : ℕ) (x : A) → i < length xs → slice_get (set xs i x) i ≡ Some x
at_set [] i x lt = absurd (omega arith)
at_set (z ∷ xs) zero x lt = refl
at_set (z ∷ xs) (suc i) x lt = at_set xs i x (omega arith)

-- the items at other places stay
pub at_set_other : {A : Type 0} (xs : List A) (i k : ℕ) (x : A) → (k ≡ i → ⊥)
    → slice_get (set xs i x) k ≡ slice_get xs k
at_set_other [] i k x ne = refl
at_set_other (z ∷ xs) zero zero x ne = absurd (ne refl)
at_set_other (z ∷ xs) zero (suc k) x ne = refl
at_set_other (z ∷ xs) (suc i) zero x ne = refl
at_set_other (z ∷ xs) (suc i) (suc k) x ne = at_set_other xs i k x (λ e. ne (ap suc e))

-- an item of a list of equal items is that item
pub at_replicate : {A : Type 0} (n : ℕ) (y : A) (i : ℕ) (x : A) → slice_get (replicate n y) i ≡ Some x → y ≡ x
at_replicate zero y i x at = absurd (none-some x at)
at_replicate (suc n) y zero x at = same_Some y x at
at_replicate (suc n) y (suc i) x at = at_replicate n y i x at
