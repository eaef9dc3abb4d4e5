-- The items of a cyclic list of distinct items by their places, and lists with the same items behind the same items.
use Rattle.std.proofs.Common.{◌≡◌, ℕ, zero, suc, ◌+◌, ◌<◌, ◌↔◌, List, [], ◌∷◌, ◌++◌, length, slice_index, eqb, sym, refl, ap, ◌∙◌, subst, inl, ⊎_elim, arith, ext_get_or}
use Rattle.std.specs.Fn.{iterate}
use Rattle.std.proofs.lemmas.Bool.{cases_order, cond-true, cond-false, eq-eqb, ne_eqb}
use Rattle.cp_lists.specs.CyclicLists.{Has, Lacks, Distinct, follow}
use Rattle.cp_lists.proofs.ExactLists.{place, place_is}
use Rattle.cp_lists.proofs.DistinctLists.{Has_at, Has-split, Distinct-turn, Distinct-once}
use Rattle.cp_lists.proofs.CyclicLists.{follow-places, follow-Has, follow-turn}

-- the item behind item i is item i + 1
pub follow_at : (xs : List ℕ) (i : ℕ) → Distinct xs → i + 1 < length xs
    → follow xs (slice_index xs i) ≡ slice_index xs (i + 1)
follow_at xs i dis lt =
    let here : place xs (slice_index xs i) ≡ i = place_is xs i (slice_index xs i) (Distinct-once xs dis) (omega arith) refl in
    follow-places (slice_index xs i) xs (Has_at xs i (omega arith))
    ∙ ap (slice_index xs) (cond-false (eqb (place xs (slice_index xs i) + 1) (length xs)) 0 (place xs (slice_index xs i) + 1) (ne_eqb (place xs (slice_index xs i) + 1) (length xs) (λ e. omega arith)) ∙ ap (λ (j : ℕ). j + 1) here)

-- behind the last item comes the first
pub follow_last : (xs : List ℕ) (i : ℕ) → Distinct xs → i + 1 ≡ length xs
    → follow xs (slice_index xs i) ≡ slice_index xs 0
follow_last xs i dis last =
    let here : place xs (slice_index xs i) ≡ i = place_is xs i (slice_index xs i) (Distinct-once xs dis) (omega arith) refl in
    follow-places (slice_index xs i) xs (Has_at xs i (omega arith))
    ∙ ap (slice_index xs) (cond-true (eqb (place xs (slice_index xs i) + 1) (length xs)) 0 (place xs (slice_index xs i) + 1) (eq-eqb (place xs (slice_index xs i) + 1) (length xs) (omega arith)))

-- k steps lead from item i to item i + k
pub follow_steps : (xs : List ℕ) (k i : ℕ) → Distinct xs → i + k < length xs
    → iterate (follow xs) k (slice_index xs i) ≡ slice_index xs (i + k)
follow_steps xs zero i dis lt = let same : i ≡ i + 0 = omega arith in ap (slice_index xs) same
follow_steps xs (suc k) i dis lt =
    let same : i + 1 + k ≡ i + suc k = omega arith in
    ap (iterate (follow xs) k) (follow_at xs i dis (omega arith)) ∙ follow_steps xs k (i + 1) dis (omega arith) ∙ ap (slice_index xs) same

-- a function that is the item behind on the items of a list has the same walks there
pub iterate_in_list : (xs : List ℕ) (f : ℕ → ℕ) → ((d : ℕ) → Has d xs → f d ≡ follow xs d) → (k d : ℕ) → Has d xs
    → iterate f k d ≡ iterate (follow xs) k d
iterate_in_list xs f same zero d h = refl
iterate_in_list xs f same (suc k) d h = ap (iterate f k) (same d h) ∙ iterate_in_list xs f same k (follow xs d) (follow-Has d xs h)

-- lists with one first item and the same item behind each have the same items at the places of both
same_from_first : (x : ℕ) (xs ys : List ℕ) → Distinct (x ∷ xs) → Distinct (x ∷ ys)
    → ((d : ℕ) → Has d (x ∷ xs) → follow (x ∷ xs) d ≡ follow (x ∷ ys) d) → (i : ℕ) → i < length (x ∷ xs)
    → i < length (x ∷ ys) → slice_index (x ∷ xs) i ≡ slice_index (x ∷ ys) i
same_from_first x xs ys dx dy same zero li lj = refl
same_from_first x xs ys dx dy same (suc i) li lj =
    let rest : slice_index (x ∷ xs) i ≡ slice_index (x ∷ ys) i = same_from_first x xs ys dx dy same i (omega arith) (omega arith) in
    let more : suc i ≡ i + 1 = omega arith in
    ap (slice_index (x ∷ xs)) more ∙ sym (follow_at (x ∷ xs) i dx (omega arith)) ∙ same (slice_index (x ∷ xs) i) (Has_at (x ∷ xs) i (omega arith)) ∙ ap (follow (x ∷ ys)) rest ∙ follow_at (x ∷ ys) i dy (omega arith) ∙ sym (ap (slice_index (x ∷ ys)) more)

-- they are equally long
same_length : (x : ℕ) (xs ys : List ℕ) → Distinct (x ∷ xs) → Distinct (x ∷ ys)
    → ((d : ℕ) → Has d (x ∷ xs) → follow (x ∷ xs) d ≡ follow (x ∷ ys) d) → length (x ∷ xs) ≡ length (x ∷ ys)
same_length x xs ys dx dy same =
    ⊎_elim
    (λ e. e)
    (λ h. absurd (⊎_elim
    (λ l.
    let n : ℕ = length xs in
    let at : slice_index (x ∷ xs) n ≡ slice_index (x ∷ ys) n = same_from_first x xs ys dx dy same n (omega arith) (omega arith) in
    let turn : x ≡ slice_index (x ∷ ys) (n + 1) = sym (follow_last (x ∷ xs) n dx (omega arith)) ∙ same (slice_index (x ∷ xs) n) (Has_at (x ∷ xs) n (omega arith)) ∙ ap (follow (x ∷ ys)) at ∙ follow_at (x ∷ ys) n dy (omega arith) in
    let one : 0 ≡ n + 1 = Distinct-once (x ∷ ys) dy 0 (n + 1) (omega arith) (omega arith) turn in
    omega arith)
    (λ g.
    let n : ℕ = length ys in
    let at : slice_index (x ∷ xs) n ≡ slice_index (x ∷ ys) n = same_from_first x xs ys dx dy same n (omega arith) (omega arith) in
    let turn : slice_index (x ∷ xs) (n + 1) ≡ x = sym (follow_at (x ∷ xs) n dx (omega arith)) ∙ same (slice_index (x ∷ xs) n) (Has_at (x ∷ xs) n (omega arith)) ∙ ap (follow (x ∷ ys)) at ∙ follow_last (x ∷ ys) n dy (omega arith) in
    let one : n + 1 ≡ 0 = Distinct-once (x ∷ xs) dx (n + 1) 0 (omega arith) (omega arith) turn in
    omega arith)
    h))
    (cases_order (length (x ∷ xs)) (length (x ∷ ys)))

-- lists with one first item and the same item behind each are equal
pub equal_from_first : (x : ℕ) (xs ys : List ℕ) → Distinct (x ∷ xs) → Distinct (x ∷ ys)
    → ((d : ℕ) → Has d (x ∷ xs) → follow (x ∷ xs) d ≡ follow (x ∷ ys) d) → x ∷ xs ≡ x ∷ ys
equal_from_first x xs ys dx dy same =
    let long : length (x ∷ xs) ≡ length (x ∷ ys) = same_length x xs ys dx dy same in
    ext_get_or 0 (x ∷ xs) (x ∷ ys) long (λ i lt. same_from_first x xs ys dx dy same i lt (omega arith))

-- lists of the same items with the same item behind each are turns of each other
pub turn_from_follow : (xs ys : List ℕ) → Distinct xs → Distinct ys → ((d : ℕ) → Has d xs ↔ Has d ys)
    → ((d : ℕ) → Has d xs → follow xs d ≡ follow ys d)
    → (ps : List ℕ) × (qs : List ℕ) × (xs ≡ ps ++ qs) × (ys ≡ qs ++ ps)
turn_from_follow [] [] dx dy items same = ([], [], refl, refl)
turn_from_follow [] (y ∷ ys) dx dy items same = absurd ((items y).1 (inl refl))
turn_from_follow (x ∷ xs) ys dx dy items same =
    let s : (us : List ℕ) × (ws : List ℕ) × (ys ≡ us ++ x ∷ ws) × Lacks x us = Has-split x ys ((items x).0 (inl refl)) in
    let apart : Distinct (s.0 ++ x ∷ s.1) = subst Distinct s.2 dy in
    let behind : (d : ℕ) → Has d (x ∷ xs) → follow (x ∷ xs) d ≡ follow (x ∷ (s.1 ++ s.0)) d = λ d h.
    same d h ∙ ap (λ (zs : List ℕ). follow zs d) s.2 ∙ sym (follow-turn d s.0 (x ∷ s.1) apart (subst (Has d) s.2 ((items d).0 h))) in
    (x ∷ s.1, s.0, equal_from_first x xs (s.1 ++ s.0) dx (Distinct-turn s.0 (x ∷ s.1) apart) behind, s.2)
