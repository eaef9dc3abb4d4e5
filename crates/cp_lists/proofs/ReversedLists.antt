-- Lists in reverse.
use Rattle.std.proofs.Common.{◌≡◌, ℕ, ◌+◌, ◌-◌, ◌<◌, Bool, List, [], ◌∷◌, ◌++◌, length, map, reverse, slice_index, sym, refl, ap, ◌∙◌, subst, ⊎_elim, arith, append-nil}
use Rattle.std.specs.List.{filter}
use Rattle.std.proofs.lemmas.Bool.{cases_Bool, cases_eq}
use Rattle.std.proofs.lemmas.List.{get_or-reverse, length-reverse, map-append, reverse-append, reverse-reverse}
use Rattle.std.proofs.lemmas.List.Elements.{filter-append}
use Rattle.cp_lists.specs.CyclicLists.{Has, Distinct, follow}
use Rattle.cp_lists.proofs.DistinctLists.{Has_at, Has-place, Distinct-from, Distinct-once}
use Rattle.cp_lists.proofs.FollowedLists.{follow_at, follow_last}
use Rattle.cp_lists.proofs.FilteredLists.{filter_yes, filter_no}

-- item i in reverse
pub reverse_at : (xs : List ℕ) (i : ℕ) → i < length xs → slice_index (reverse xs) i ≡ slice_index xs (length xs - 1 - i)
reverse_at xs i lt = get_or-reverse xs i 0 lt

-- an item is one of the list in reverse
pub Has-reverse : (d : ℕ) (xs : List ℕ) → Has d xs → Has d (reverse xs)
Has-reverse d xs h =
    let w = Has-place d xs h in
    let i : ℕ = length xs - 1 - w.0 in
    let back : length xs - 1 - i ≡ w.0 = omega (arith, w.1) in
    subst (λ y. Has y (reverse xs)) (reverse_at xs i (omega (arith, w.1)) ∙ ap (slice_index xs) back ∙ w.2) (Has_at (reverse xs) i (omega (arith, w.1, length-reverse xs)))

-- and the other way round
pub reverse-Has : (d : ℕ) (xs : List ℕ) → Has d (reverse xs) → Has d xs
reverse-Has d xs h = subst (Has d) (reverse-reverse xs) (Has-reverse d (reverse xs) h)

-- distinct items are distinct in reverse
pub Distinct-reverse : (xs : List ℕ) → Distinct xs → Distinct (reverse xs)
Distinct-reverse xs dis = Distinct-from (reverse xs) (λ i j lti ltj e.
    let li : i < length xs = omega (arith, lti, length-reverse xs) in
    let lj : j < length xs = omega (arith, ltj, length-reverse xs) in
    let same : length xs - 1 - i ≡ length xs - 1 - j = Distinct-once xs dis (length xs - 1 - i) (length xs - 1 - j) (omega arith) (omega arith) (sym (reverse_at xs i li) ∙ e ∙ reverse_at xs j lj) in
    omega arith)

-- behind an item in reverse comes what was in front of it
pub follow-reverse : (d : ℕ) (xs : List ℕ) → Distinct xs → Has d xs → follow (reverse xs) (follow xs d) ≡ d
follow-reverse d xs dis h =
    let w = Has-place d xs h in
    let i : ℕ = w.0 in
    let li : i < length xs = w.1 in
    let size : length (reverse xs) ≡ length xs = length-reverse xs in
    ap (λ y. follow (reverse xs) (follow xs y)) (sym w.2)
    ∙ ⊎_elim
    (λ last.
    let low : 0 < length xs = omega arith in
    let place : length xs - 1 - (length xs - 1) ≡ 0 = omega arith in
    let end : length xs - 1 - 0 ≡ i = omega arith in
    ap (follow (reverse xs)) (follow_last xs i dis last ∙ sym (reverse_at xs (length xs - 1) (omega arith) ∙ ap (slice_index xs) place))
    ∙ follow_last (reverse xs) (length xs - 1) (Distinct-reverse xs dis) (omega arith)
    ∙ reverse_at xs 0 low ∙ ap (slice_index xs) end)
    (λ more.
    let j : ℕ = length xs - 1 - (i + 1) in
    let place : length xs - 1 - j ≡ i + 1 = omega arith in
    let end : length xs - 1 - (j + 1) ≡ i = omega arith in
    ap (follow (reverse xs)) (follow_at xs i dis (omega arith) ∙ sym (reverse_at xs j (omega arith) ∙ ap (slice_index xs) place))
    ∙ follow_at (reverse xs) j (Distinct-reverse xs dis) (omega arith)
    ∙ reverse_at xs (j + 1) (omega arith) ∙ ap (slice_index xs) end)
    (cases_eq (i + 1) (length xs))
    ∙ w.2

-- the first item in reverse is the last
pub reverse-cons : (x : ℕ) (xs : List ℕ) → reverse (x ∷ xs) ≡ reverse xs ++ x ∷ []
reverse-cons x xs = reverse-append (x ∷ []) xs

-- the images of a list in reverse are its images in reverse
pub map-reverse : (f : ℕ → ℕ) (xs : List ℕ) → map f (reverse xs) ≡ reverse (map f xs)
map-reverse f [] = refl
map-reverse f (x ∷ xs) =
    ap (map f) (reverse-cons x xs) ∙ map-append f (reverse xs) (x ∷ [])
    ∙ ap (λ ys. ys ++ f x ∷ []) (map-reverse f xs) ∙ sym (reverse-cons (f x) (map f xs))

-- what a list in reverse keeps by a test is what the list keeps by it, in reverse
pub filter-reverse : (p : ℕ → Bool) (xs : List ℕ) → filter p (reverse xs) ≡ reverse (filter p xs)
filter-reverse p [] = refl
filter-reverse p (x ∷ xs) =
    ap (filter p) (reverse-cons x xs) ∙ filter-append p (reverse xs) (x ∷ [])
    ∙ ap (λ ys. ys ++ filter p (x ∷ [])) (filter-reverse p xs)
    ∙ ⊎_elim
    (λ passes. ap (λ ys. reverse (filter p xs) ++ ys) (filter_yes p x [] passes) ∙ sym (reverse-cons x (filter p xs)) ∙ sym (ap reverse (filter_yes p x xs passes)))
    (λ fails. ap (λ ys. reverse (filter p xs) ++ ys) (filter_no p x [] fails) ∙ append-nil (reverse (filter p xs)) ∙ sym (ap reverse (filter_no p x xs fails)))
    (cases_Bool (p x))
