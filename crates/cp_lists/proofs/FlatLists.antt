-- Several lists one behind the other.
use Rattle.std.proofs.Common.{◌≡◌, ℕ, zero, suc, ◌<◌, Bool, List, [], ◌∷◌, ◌++◌, length, map, get_or, append_assoc, sym, refl, ap, ◌∙◌, ⊎_elim, arith}
use Rattle.std.specs.List.{filter}
use Rattle.std.proofs.lemmas.List.{map-append}
use Rattle.std.proofs.lemmas.List.Elements.{filter-append}
use Rattle.cp_lists.specs.CyclicLists.{Has, Distinct, but}
use Rattle.cp_lists.specs.Rows.{flat}
use Rattle.cp_lists.proofs.DistinctLists.{Has-append_left, Has-append_right, Has-append_cases, Distinct-append_left, Distinct-append_right, Distinct-apart, but-append, has_lacks}

-- the items of two rows of lists
pub flat-append : (rows others : List (List ℕ)) → flat (rows ++ others) ≡ flat rows ++ flat others
flat-append [] others = refl
flat-append (xs ∷ rows) others = ap (λ ys. xs ++ ys) (flat-append rows others) ∙ sym (append_assoc xs (flat rows) (flat others))

-- the items without one
pub flat-but : (z : ℕ) (rows : List (List ℕ)) → flat (map (but z) rows) ≡ but z (flat rows)
flat-but z [] = refl
flat-but z (xs ∷ rows) = ap (λ ys. but z xs ++ ys) (flat-but z rows) ∙ sym (but-append z xs (flat rows))

-- the items that a test keeps
pub flat-filter : (p : ℕ → Bool) (rows : List (List ℕ)) → flat (map (filter p) rows) ≡ filter p (flat rows)
flat-filter p [] = refl
flat-filter p (xs ∷ rows) = ap (λ ys. filter p xs ++ ys) (flat-filter p rows) ∙ sym (filter-append p xs (flat rows))

-- the images of the items
pub flat-map : (f : ℕ → ℕ) (rows : List (List ℕ)) → flat (map (map f) rows) ≡ map f (flat rows)
flat-map f [] = refl
flat-map f (xs ∷ rows) = ap (λ ys. map f xs ++ ys) (flat-map f rows) ∙ sym (map-append f xs (flat rows))

-- an item of one of the lists is an item
pub Has-flat : (d i : ℕ) (rows : List (List ℕ)) → i < length rows → Has d (get_or rows i []) → Has d (flat rows)
Has-flat d i [] lt has = absurd (omega arith)
Has-flat d zero (xs ∷ rows) lt has = Has-append_left d xs (flat rows) has
Has-flat d (suc i) (xs ∷ rows) lt has = Has-append_right d xs (flat rows) (Has-flat d i rows (omega arith) has)

-- an item is one of one of the lists
pub flat-Has : (d : ℕ) (rows : List (List ℕ)) → Has d (flat rows) →
    (i : ℕ) × (i < length rows) × Has d (get_or rows i [])
flat-Has d [] has = absurd has
flat-Has d (xs ∷ rows) has =
    ⊎_elim
    (λ h. (0, omega arith, h))
    (λ h. let w = flat-Has d rows h in (suc w.0, omega (arith, w.1), w.2))
    (Has-append_cases d xs (flat rows) has)

-- where all items are distinct, those of each list are
pub flat-Distinct : (i : ℕ) (rows : List (List ℕ)) → i < length rows → Distinct (flat rows) →
    Distinct (get_or rows i [])
flat-Distinct i [] lt dis = absurd (omega arith)
flat-Distinct zero (xs ∷ rows) lt dis = Distinct-append_left xs (flat rows) dis
flat-Distinct (suc i) (xs ∷ rows) lt dis = flat-Distinct i rows (omega arith) (Distinct-append_right xs (flat rows) dis)

-- and each stands in one list alone
pub flat-Distinct_once : (d i j : ℕ) (rows : List (List ℕ)) → i < length rows → j < length rows → Distinct (flat rows) →
    Has d (get_or rows i []) → Has d (get_or rows j []) → i ≡ j
flat-Distinct_once d i j [] lti ltj dis hi hj = absurd (omega arith)
flat-Distinct_once d zero zero (xs ∷ rows) lti ltj dis hi hj = refl
flat-Distinct_once d zero (suc j) (xs ∷ rows) lti ltj dis hi hj =
    absurd (has_lacks d (flat rows) (Has-flat d j rows (omega arith) hj) (Distinct-apart d xs (flat rows) dis hi))
flat-Distinct_once d (suc i) zero (xs ∷ rows) lti ltj dis hi hj =
    absurd (has_lacks d (flat rows) (Has-flat d i rows (omega arith) hi) (Distinct-apart d xs (flat rows) dis hj))
flat-Distinct_once d (suc i) (suc j) (xs ∷ rows) lti ltj dis hi hj =
    ap suc (flat-Distinct_once d i j rows (omega arith) (omega arith) (Distinct-append_right xs (flat rows) dis) hi hj)
