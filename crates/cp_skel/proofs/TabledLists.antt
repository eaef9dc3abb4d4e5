-- Lists that are made by the places of a list, and lists of images of images.
use Rattle.std.proofs.Common.{◌≡◌, ℕ, suc, ◌+◌, ◌<◌, List, [], ◌∷◌, map, length, refl, ap, ap₂, ◌∙◌, arith}
use Rattle.std.specs.Prelude.{slice_index_or}
use Rattle.std.specs.List.{range_with_len}

-- what is made of each place is what is made of the item there
pub map_places : {X Y : Type 0} (f : ℕ → Y) (h : X → Y) (d : X) (a : ℕ) (xs : List X)
    → ((i : ℕ) → i < length xs → f (a + i) ≡ h (slice_index_or xs i d))
    → map f (range_with_len a (length xs)) ≡ map h xs
map_places f h d a [] same = refl
map_places {Y = Y} f h d a (x ∷ xs) same =
    ap₂ (λ (y : Y) (ys : List Y). y ∷ ys) (ap f (let e : a ≡ a + 0 = omega arith in e) ∙ same 0 (omega arith))
    (map_places f h d (a + 1) xs
    (λ i lt. ap f (let e : a + 1 + i ≡ a + suc i = omega arith in e) ∙ same (suc i) (omega arith)))

-- the images of images are images
pub map_twice : {X Y Z : Type 0} (f : X → Y) (h : Y → Z) (xs : List X) → map h (map f xs) ≡ map (λ x. h (f x)) xs
map_twice f h [] = refl
map_twice {Z = Z} f h (x ∷ xs) = ap (λ (ys : List Z). h (f x) ∷ ys) (map_twice f h xs)
