-- Permutations of rows, and of rows that stand place by place.
use Rattle.std.proofs.Common.{◌≡◌, List, [], ◌∷◌, ◌++◌, append_assoc, map, reverse, sym, refl, ap, ◌∙◌, subst, IsPermutation}
use Rattle.std.proofs.lemmas.List.{map-append, reverse-append}
use Rattle.std.specs.List.{AllZip, AllByRecursion, flat_map}
use Rattle.std.proofs.lemmas.List.Sorted.{IsPermutation-refl, IsPermutation-trans, IsPermutation-append_left, IsPermutation-append_right, IsPermutation-append_comm, IsPermutation-cons}
use Rattle.cp_lists.proofs.PermutedLists.{along_permutation}

-- the first two items exchanged
two_heads : {X : Type 0} (x y : X) (xs : List X) → IsPermutation (x ∷ y ∷ xs) (y ∷ x ∷ xs)
two_heads x y xs = IsPermutation-append_left xs (x ∷ y ∷ []) (y ∷ x ∷ []) (IsPermutation-append_comm (x ∷ []) (y ∷ []))

-- the rows that stand place by place with a permuted row are permuted too
abbrev Follows : {A B : Type 0} → (A → B → Type 0) → List B → List B → Type 0
Follows {A} R fs gs = (ks : List A) → AllZip R ks fs → (js : List A) × IsPermutation ks js × AllZip R js gs

-- under a head
follows_skip : {A B : Type 0} (R : A → B → Type 0) (f : B) (fs gs : List B) → Follows R fs gs
    → Follows R (f ∷ fs) (f ∷ gs)
follows_skip R f fs gs h [] z = absurd z
follows_skip R f fs gs h (k ∷ ks) z =
    let r = h ks z.1 in (k ∷ r.0, IsPermutation-cons k ks r.0 r.1, (z.0, r.2))

-- over an exchange of two heads
follows_turn : {A B : Type 0} (R : A → B → Type 0) (f g : B) (fs : List B) → Follows R (f ∷ g ∷ fs) (g ∷ f ∷ fs)
follows_turn R f g fs [] z = absurd z
follows_turn R f g fs (k ∷ []) z = absurd z.1
follows_turn R f g fs (k ∷ j ∷ ks) z = (j ∷ k ∷ ks, two_heads k j ks, (z.1.0, (z.0, z.1.1)))

-- where one row is permuted, so is the row that stands with it place by place
pub zip_permuted : {A B : Type 0} (R : A → B → Type 0) (fs gs : List B) → IsPermutation fs gs → (ks : List A)
    → AllZip R ks fs → (js : List A) × IsPermutation ks js × AllZip R js gs
zip_permuted R = along_permutation (Follows R)
    (λ fs ks z. (ks, IsPermutation-refl ks, z))
    (follows_skip R)
    (follows_turn R)
    (λ fs gs hs one two ks z.
    let r = one ks z in let s = two r.0 r.2 in (s.0, IsPermutation-trans ks r.0 s.0 r.1 s.1, s.2))

-- the rows the other way round
pub zip_flipped : {A B : Type 0} (R : A → B → Type 0) (ks : List A) (fs : List B) → AllZip R ks fs
    → AllZip (λ f k. R k f) fs ks
zip_flipped R [] [] z = tt
zip_flipped R [] (f ∷ fs) z = absurd z
zip_flipped R (k ∷ ks) [] z = absurd z
zip_flipped R (k ∷ ks) (f ∷ fs) z = (z.0, zip_flipped R ks fs z.1)

-- rows one behind the other
pub zip_join : {A B : Type 0} (R : A → B → Type 0) (ks js : List A) (fs gs : List B) → AllZip R ks fs → AllZip R js gs
    → AllZip R (ks ++ js) (fs ++ gs)
zip_join R [] js [] gs a b = b
zip_join R [] js (f ∷ fs) gs a b = absurd a
zip_join R (k ∷ ks) js [] gs a b = absurd a
zip_join R (k ∷ ks) js (f ∷ fs) gs a b = (a.0, zip_join R ks js fs gs a.1 b)

-- rows from their ends
pub zip_reversed : {A B : Type 0} (R : A → B → Type 0) (ks : List A) (fs : List B) → AllZip R ks fs
    → AllZip R (reverse ks) (reverse fs)
zip_reversed R [] [] z = tt
zip_reversed R [] (f ∷ fs) z = absurd z
zip_reversed R (k ∷ ks) [] z = absurd z
zip_reversed R (k ∷ ks) (f ∷ fs) z =
    subst (λ w. AllZip R w (reverse (f ∷ fs))) (sym (reverse-append (k ∷ []) ks))
    (subst (AllZip R (reverse ks ++ k ∷ [])) (sym (reverse-append (f ∷ []) fs))
    (zip_join R (reverse ks) (k ∷ []) (reverse fs) (f ∷ []) (zip_reversed R ks fs z.1) (z.0, tt)))

-- what holds of each item holds of each item of a permutation
pub all_permuted : {X : Type 0} (P : X → Type 0) (xs ys : List X) → IsPermutation xs ys → AllByRecursion P xs
    → AllByRecursion P ys
all_permuted P = along_permutation (λ xs ys. AllByRecursion P xs → AllByRecursion P ys)
    (λ xs h. h)
    (λ x xs ys f h. (h.0, f h.1))
    (λ x y xs h. (h.1.0, (h.0, h.1.1)))
    (λ xs ys zs f g h. g (f h))

-- the lists of the items are permuted with them
pub IsPermutation-flat_map : {A B : Type 0} (f : A → List B) (xs ys : List A) → IsPermutation xs ys
    → IsPermutation (flat_map f xs) (flat_map f ys)
IsPermutation-flat_map f = along_permutation (λ xs ys. IsPermutation (flat_map f xs) (flat_map f ys))
    (λ xs. IsPermutation-refl _)
    (λ x xs ys h. IsPermutation-append_right (f x) _ _ h)
    (λ x y xs. rw (← append_assoc (f x), ← append_assoc (f y))
    (IsPermutation-append_left (flat_map f xs) _ _ (IsPermutation-append_comm (f x) (f y))))
    (λ xs ys zs. IsPermutation-trans _ _ _)

-- a map of a list from its end
pub map-reverse : {A B : Type 0} (f : A → B) (xs : List A) → map f (reverse xs) ≡ reverse (map f xs)
map-reverse f [] = refl
map-reverse f (x ∷ xs) =
    ap (map f) (reverse-append (x ∷ []) xs) ∙ map-append f (reverse xs) (x ∷ [])
    ∙ ap (λ zs. zs ++ f x ∷ []) (map-reverse f xs) ∙ sym (reverse-append (f x ∷ []) (map f xs))

-- items stand with their images
zip_images : {A B : Type 0} (f : A → B) (xs : List A) → AllZip (λ x y. f x ≡ y) xs (map f xs)
zip_images f [] = tt
zip_images f (x ∷ xs) = (refl, zip_images f xs)

-- what stands with items as their images are their images
images_zip : {A B : Type 0} (f : A → B) (xs : List A) (ys : List B) → AllZip (λ x y. f x ≡ y) xs ys → map f xs ≡ ys
images_zip f [] [] z = refl
images_zip f [] (y ∷ ys) z = absurd z
images_zip f (x ∷ xs) [] z = absurd z
images_zip f (x ∷ xs) (y ∷ ys) z = ap (λ w. w ∷ map f xs) z.0 ∙ ap (λ zs. y ∷ zs) (images_zip f xs ys z.1)

-- where the images are permuted, so are the items
pub permuted_images : {A B : Type 0} (f : A → B) (xs : List A) (ys : List B) → IsPermutation (map f xs) ys
    → (zs : List A) × IsPermutation xs zs × (map f zs ≡ ys)
permuted_images f xs ys p =
    let h = zip_permuted (λ x y. f x ≡ y) (map f xs) ys p xs (zip_images f xs) in
    (h.0, h.1, images_zip f h.0 ys h.2)
