-- Pairs of distinct firsts and distinct seconds: each is the partner of the other.
use Rattle.std.proofs.Common.{◌≡◌, ℕ, zero, suc, ◌<◌, eqb, List, [], ◌∷◌, length, map, slice_index_or, sym, refl, ap, ◌∙◌, subst, arith}
use Rattle.std.specs.Prelude.{Some, find}
use Rattle.std.specs.Option.{option_map_or}
use Rattle.std.proofs.lemmas.Bool.{cond-true, cond-false, eq-eqb, ne_eqb}
use Rattle.std.proofs.lemmas.List.{get_or-map, length-map}
use Rattle.cp_lists.specs.CyclicLists.{Distinct, Has}
use Rattle.cp_lists.proofs.DistinctLists.{Has-place, Has_at, has_lacks}
use Rattle.cp_conn.specs.NamedGraphs.{rank}
use Rattle.cp_conn.proofs.NamedGraphs.{rank_is}

-- the key of an item is among the keys
pub key_has : {A : Type 0} (key : A → ℕ) (xs : List A) (k : ℕ) (d : A) → k < length xs
    → Has (key (slice_index_or xs k d)) (map key xs)
key_has key xs k d lt =
    subst (λ n. Has n (map key xs)) (get_or-map key xs k d 0 lt)
    (Has_at (map key xs) k (omega (arith, lt, length-map xs key)))

-- an item is found under its key, where keys are distinct
pub found_once : {A : Type 0} (key : A → ℕ) (xs : List A) (k : ℕ) (d : A) → Distinct (map key xs) → k < length xs
    → find (λ x. eqb (key x) (key (slice_index_or xs k d))) xs ≡ Some (slice_index_or xs k d)
found_once key [] k d once lt = absurd (omega (arith, lt))
found_once key (x ∷ xs) zero d once lt =
    cond-true (eqb (key x) (key x)) (Some x) (find (λ y. eqb (key y) (key x)) xs) (eq-eqb (key x) (key x) refl)
found_once key (x ∷ xs) (suc k) d once lt =
    cond-false (eqb (key x) (key (slice_index_or xs k d))) (Some x)
    (find (λ y. eqb (key y) (key (slice_index_or xs k d))) xs)
    (ne_eqb (key x) (key (slice_index_or xs k d))
    (λ e. has_lacks (key x) (map key xs)
    (subst (λ n. Has n (map key xs)) (sym e) (key_has key xs k d (omega (arith, lt)))) once.0))
    ∙ found_once key xs k d once.1 (omega (arith, lt))

module _ (pairs : List (ℕ × ℕ)) where
  -- the first edges of the pairs
  abbrev pub firsts : List ℕ
  firsts = map (λ x. x.0) pairs

  -- and the second ones
  abbrev pub seconds : List ℕ
  seconds = map (λ x. x.1) pairs

  -- the partner of a first, and that of a second
  abbrev pub second : ℕ → ℕ
  second x = option_map_or (λ y. y.1) (find (λ y. eqb y.0 x) pairs) 0

  -- and that of a second
  abbrev pub first : ℕ → ℕ
  first y = option_map_or (λ x. x.0) (find (λ x. eqb x.1 y) pairs) 0

  -- the pair at a place
  abbrev pair : ℕ → ℕ × ℕ
  pair k = slice_index_or pairs k (0, 0)

  module _ (once_a : Distinct firsts) (once_b : Distinct seconds) where
    -- the partner of the first of a pair
    second_at : (k : ℕ) → k < length pairs → second (pair k).0 ≡ (pair k).1
    second_at k lt = ap (λ o. option_map_or (λ y. y.1) o 0) (found_once (λ (x : ℕ × ℕ). x.0) pairs k (0, 0) once_a lt)

    -- and that of the second
    first_at : (k : ℕ) → k < length pairs → first (pair k).1 ≡ (pair k).0
    first_at k lt = ap (λ o. option_map_or (λ y. y.0) o 0) (found_once (λ (x : ℕ × ℕ). x.1) pairs k (0, 0) once_b lt)

    -- the place of the pair of a first
    at_first : (x : ℕ) → Has x firsts → (k : ℕ) × (k < length pairs) × ((pair k).0 ≡ x)
    at_first x h =
        let w = Has-place x firsts h in
        let lt : w.0 < length pairs = omega (arith, w.1, length-map pairs (λ (y : ℕ × ℕ). y.0)) in
        (w.0, lt, sym (get_or-map (λ (y : ℕ × ℕ). y.0) pairs w.0 (0, 0) 0 lt) ∙ w.2)

    -- and of a second
    at_second : (y : ℕ) → Has y seconds → (k : ℕ) × (k < length pairs) × ((pair k).1 ≡ y)
    at_second y h =
        let w = Has-place y seconds h in
        let lt : w.0 < length pairs = omega (arith, w.1, length-map pairs (λ (x : ℕ × ℕ). x.1)) in
        (w.0, lt, sym (get_or-map (λ (x : ℕ × ℕ). x.1) pairs w.0 (0, 0) 0 lt) ∙ w.2)

    -- the partner of a first is a second
    pub second_has : (x : ℕ) → Has x firsts → Has (second x) seconds
    second_has x h =
        let w = at_first x h in
        subst (λ n. Has n seconds) (sym (second_at w.0 w.1) ∙ ap second w.2) (key_has (λ (y : ℕ × ℕ). y.1) pairs w.0 (0, 0) w.1)

    -- and that of a second is a first
    pub first_has : (y : ℕ) → Has y seconds → Has (first y) firsts
    first_has y h =
        let w = at_second y h in
        subst (λ n. Has n firsts) (sym (first_at w.0 w.1) ∙ ap first w.2) (key_has (λ (x : ℕ × ℕ). x.0) pairs w.0 (0, 0) w.1)

    -- the partner of the partner
    pub first_second : (x : ℕ) → Has x firsts → first (second x) ≡ x
    first_second x h =
        let w = at_first x h in
        ap (λ n. first (second n)) (sym w.2) ∙ ap first (second_at w.0 w.1) ∙ first_at w.0 w.1 ∙ w.2

    -- also from the second
    pub second_first : (y : ℕ) → Has y seconds → second (first y) ≡ y
    second_first y h =
        let w = at_second y h in
        ap (λ n. second (first n)) (sym w.2) ∙ ap second (first_at w.0 w.1) ∙ second_at w.0 w.1 ∙ w.2

    -- partners stand at one place
    pub rank_first : (y : ℕ) → Has y seconds → rank firsts (first y) ≡ rank seconds y
    rank_first y h =
        let w = at_second y h in
        ap (rank firsts) (sym (ap first w.2) ∙ first_at w.0 w.1)
        ∙ rank_is firsts w.0 (pair w.0).0 once_a (omega (arith, w.1, length-map pairs (λ (x : ℕ × ℕ). x.0)))
        (get_or-map (λ (x : ℕ × ℕ). x.0) pairs w.0 (0, 0) 0 w.1)
        ∙ sym (rank_is seconds w.0 y once_b (omega (arith, w.1, length-map pairs (λ (x : ℕ × ℕ). x.1)))
        (get_or-map (λ (x : ℕ × ℕ). x.1) pairs w.0 (0, 0) 0 w.1 ∙ w.2))
