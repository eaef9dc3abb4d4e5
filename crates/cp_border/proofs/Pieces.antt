-- Lists that are put together from one piece for each number of a range.
use Rattle.std.proofs.Common.{◌≡◌, ℕ, suc, ◌+◌, ◌<◌, List, [], ◌∷◌, ◌++◌, length, get_or, map, refl, ap, ap₂, ◌∙◌, arith}
use Rattle.std.specs.List.{flat_map, range_with_len}

-- pieces by the numbers of a list's places are pieces by its items
pub flat_map_places : {X A : Type 0} (F : ℕ → List A) (f : X → List A) (d : X) (a : ℕ) (xs : List X) →
    ((i : ℕ) → i < length xs → F (a + i) ≡ f (get_or xs i d)) →
    flat_map F (range_with_len a (length xs)) ≡ flat_map f xs
flat_map_places {X = X} {A = A} F f d a [] same = refl
flat_map_places {X = X} {A = A} F f d a (x ∷ xs) same =
    let first : F a ≡ f x = ap F (let e : a ≡ a + 0 = omega arith in e) ∙ same 0 (omega arith) in
    let rest : flat_map F (range_with_len (a + 1) (length xs)) ≡ flat_map f xs =
    flat_map_places F f d (a + 1) xs (λ i lt. ap F (let e : a + 1 + i ≡ a + suc i = omega arith in e) ∙ same (suc i)
    (omega arith)) in
    ap₂ (λ (p q : List A). p ++ q) first rest

-- pieces that are empty make an empty list
pub flat_map_empty : {A : Type 0} (F : ℕ → List A) (xs : List ℕ) → ((x : ℕ) → F x ≡ []) → flat_map F xs ≡ []
flat_map_empty {A = A} F [] empty = refl
flat_map_empty {A = A} F (x ∷ xs) empty = ap₂ (λ (p q : List A). p ++ q) (empty x) (flat_map_empty F xs empty)

-- what changes no item changes no list
pub map_same : {A : Type 0} (f : A → A) (xs : List A) → ((x : A) → f x ≡ x) → map f xs ≡ xs
map_same {A = A} f [] same = refl
map_same {A = A} f (x ∷ xs) same = ap₂ (λ (y : A) (ys : List A). y ∷ ys) (same x) (map_same f xs same)
