-- Lists of distinct numbers of which one has all items of the other.
use Rattle.std.proofs.Common.{◌≡◌, ℕ, ◌≤◌, List, [], ◌∷◌, ◌++◌, length, map, sym, refl, ap, subst, inl, inr, ⊎_elim, arith, length-append}
use Rattle.std.proofs.lemmas.List.{length-map}
use Rattle.cp_lists.specs.CyclicLists.{Has, Lacks, Distinct}
use Rattle.cp_lists.proofs.DistinctLists.{has_cases, has_lacks, Has-split, Has-append_left, Has-append_right, Has-append_cases}
use Rattle.cp_lists.proofs.MappedLists.{map_on-Has, Distinct-map_on}

-- distinct numbers that are all in a list are at most as many as its items
pub subset_length : (xs ys : List ℕ) → Distinct xs → ((d : ℕ) → Has d xs → Has d ys) → length xs ≤ length ys
subset_length [] ys once all = omega arith
subset_length (x ∷ xs) ys once all =
    let at : (us : List ℕ) × (vs : List ℕ) × (ys ≡ us ++ x ∷ vs) × Lacks x us = Has-split x ys (all x (inl refl)) in
    let rest : length xs ≤ length (at.0 ++ at.1) = subset_length xs (at.0 ++ at.1) once.1 (λ d h.
    ⊎_elim
    (λ k. Has-append_left d at.0 at.1 k)
    (λ k. ⊎_elim
    (λ same. absurd (has_lacks x xs (subst (λ (z : ℕ). Has z xs) (sym same) h) once.0))
    (λ past. Has-append_right d at.0 at.1 past)
    k)
    (Has-append_cases d at.0 (x ∷ at.1) (subst (Has d) at.2 (all d (inr h))))) in
    omega (arith, rest, length-append at.0 at.1, length-append at.0 (x ∷ at.1), ap length at.2)

-- distinct numbers that are all in a list, as many as its items, are all of them
pub subset_full : (xs ys : List ℕ) → Distinct xs → ((d : ℕ) → Has d xs → Has d ys) → length ys ≤ length xs
    → (d : ℕ) → Has d ys → Has d xs
subset_full xs ys once all enough d h =
    ⊎_elim
    (λ k. k)
    (λ lacks. absurd (omega (
      arith,
      subset_length (d ∷ xs) ys (lacks, once) (λ z k.
          ⊎_elim (λ same. subst (λ (w : ℕ). Has w ys) same h) (λ past. all z past) k),
    )))
    (has_cases d xs)

-- a function that takes distinct numbers into a list, no two to one, finds at least as many items there
pub injected_length : (f : ℕ → ℕ) (xs ys : List ℕ) → Distinct xs
    → ((x : ℕ) → Has x xs → Has (f x) ys) → ((x y : ℕ) → Has x xs → Has y xs → f x ≡ f y → x ≡ y)
    → length xs ≤ length ys
injected_length f xs ys once there apart =
    let images : length (map f xs) ≤ length ys =
    subset_length (map f xs) ys (Distinct-map_on f xs apart once) (λ d h.
    let from : (x : ℕ) × Has x xs × (f x ≡ d) = map_on-Has f d xs h in
    subst (λ (z : ℕ). Has z ys) from.2 (there from.0 from.1)) in
    omega (arith, images, length-map xs f)

-- and each item of the list, where they are equally many
pub injected_full : (f : ℕ → ℕ) (xs ys : List ℕ) → Distinct xs
    → ((x : ℕ) → Has x xs → Has (f x) ys) → ((x y : ℕ) → Has x xs → Has y xs → f x ≡ f y → x ≡ y)
    → length ys ≤ length xs → (y : ℕ) → Has y ys → (x : ℕ) × Has x xs × (f x ≡ y)
injected_full f xs ys once there apart enough y h =
    map_on-Has f y xs
    (subset_full (map f xs) ys (Distinct-map_on f xs apart once)
    (λ d k.
    let from : (x : ℕ) × Has x xs × (f x ≡ d) = map_on-Has f d xs k in
    subst (λ (z : ℕ). Has z ys) from.2 (there from.0 from.1))
    (omega (arith, enough, length-map xs f)) y h)
