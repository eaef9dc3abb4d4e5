-- Facts of lists of lists that the maps need.
use Rattle.std.proofs.Common.{◌≡◌, ℕ, ◌<◌, true, false, ◌||◌, eqb, List, [], ◌∷◌, ◌++◌, sym, refl, ap, ◌∙◌, subst, inl, inr, ⊎_elim, ◌⊎◌, map, ap₂}
use Rattle.std.proofs.lemmas.Bool.{eq-eqb, ne_eqb, false≢true, or_left, or_right}
use Rattle.cp_lists.specs.CyclicLists.{Has, Lacks}
use Rattle.cp_lists.proofs.DistinctLists.{Has-append_cases, Has-append_left, Has-append_right, Has-split, has_cases}
use Rattle.cp_maps.specs.Maps.{Below, has}

-- a list with a dart in it, turned to begin with it
pub from_dart : (x : ℕ) (xs : List ℕ) → Has x xs → (us : List ℕ) × (vs : List ℕ) × (xs ≡ us ++ x ∷ vs)
from_dart x xs h = let s : (us : List ℕ) × (vs : List ℕ) × (xs ≡ us ++ x ∷ vs) × Lacks x us = Has-split x xs h in
    (s.0, s.1, s.2)

-- an item of a list is the dart at which it is parted, or one of the two parts
pub other_item : (d x : ℕ) (xs us vs : List ℕ) → xs ≡ us ++ x ∷ vs → Has d xs → (x ≡ d) ⊎ Has d (vs ++ us)
other_item d x xs us vs e h = ⊎_elim
    (λ k. inr (Has-append_right d vs us k))
    (λ k. ⊎_elim (λ s. inl s) (λ l. inr (Has-append_left d vs us l)) k)
    (Has-append_cases d us (x ∷ vs) (subst (Has d) e h))

-- an item of the two parts of a list is one of the list
pub its_item : (d x : ℕ) (xs us vs : List ℕ) → xs ≡ us ++ x ∷ vs → Has d (vs ++ us) → Has d xs
its_item d x xs us vs e h =
    subst (Has d) (sym e) (⊎_elim (λ k. Has-append_right d us (x ∷ vs) (inr k)) (λ k. Has-append_left d us (x ∷ vs) k)
    (Has-append_cases d vs us h))

-- an item of a list of numbers below n is below n
pub below_item : (n d : ℕ) (xs : List ℕ) → Below n xs → Has d xs → d < n
below_item n d [] b h = absurd h
below_item n d (x ∷ xs) b h = ⊎_elim (λ e. subst (λ y. y < n) e b.0) (λ k. below_item n d xs b.1 k) h

-- a list whose items are below n is one of numbers below n
pub Below-from : (n : ℕ) (xs : List ℕ) → ((d : ℕ) → Has d xs → d < n) → Below n xs
Below-from n [] each = tt
Below-from n (x ∷ xs) each = (each x (inl refl), Below-from n xs (λ d h. each d (inr h)))

-- an item of the list passes the test for its items
pub has_yes : (d : ℕ) (xs : List ℕ) → Has d xs → has d xs ≡ true
has_yes d [] h = absurd h
has_yes d (x ∷ xs) h =
    ⊎_elim (λ e. or_left (eqb x d) (has d xs) (eq-eqb x d e)) (λ k. or_right (eqb x d) (has d xs) (has_yes d xs k)) h

-- a number that the list lacks does not pass the test for its items
pub has_no : (d : ℕ) (xs : List ℕ) → Lacks d xs → has d xs ≡ false
has_no d [] l = refl
has_no d (x ∷ xs) l = ap (λ b. b || has d xs) (ne_eqb x d l.0) ∙ has_no d xs l.1

-- lists that agree on some names are the same under these names
pub map-agree : (lists lists' : ℕ → List ℕ) (names : List ℕ) → ((w : ℕ) → Has w names → lists w ≡ lists' w)
    → map lists names ≡ map lists' names
map-agree lists lists' [] same = refl
map-agree lists lists' (w ∷ names) same =
    ap₂ (λ xs rows. xs ∷ rows) (same w (inl refl)) (map-agree lists lists' names (λ v h. same v (inr h)))

-- what passes the test for the items of the list is one
pub has_true : (d : ℕ) (xs : List ℕ) → has d xs ≡ true → Has d xs
has_true d xs t = ⊎_elim (λ h. h) (λ l. absurd (false≢true (sym (has_no d xs l) ∙ t))) (has_cases d xs)
