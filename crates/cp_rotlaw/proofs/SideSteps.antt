-- Two lists of a side put together at a corner of a list between them.
use Rattle.std.proofs.Common.{◌≡◌, ◌≢◌, ℕ, suc, ◌+◌, ◌*◌, ◌<◌, List, [], ◌∷◌, ◌++◌, length, take, drop, drop-cons, slice_index, append_assoc, sym, refl, ap, ap₂, ◌∙◌, subst, arith}
use Rattle.std.proofs.lemmas.List.{take-append-drop, take_more}
use Rattle.cp_lists.specs.CyclicLists.{Has, follow}
use Rattle.cp_lists.specs.Rows.{flat}
use Rattle.cp_lists.specs.Turns.{IsTurn}
use Rattle.cp_lists.proofs.CyclicLists.{next_from_at}
use Rattle.cp_lists.proofs.DistinctLists.{Distinct-apart, Has-append_left, Has_at, has_lacks}
use Rattle.cp_lists.proofs.TurnedLists.{turn-follow, turn-sym, turn_parts, turn_to_item}
use Rattle.cp_faces.specs.Twins.{twin}
use Rattle.cp_maps.specs.Genus.{Becomes}
use Rattle.cp_maps.specs.Maps.{IsMapOf}
use Rattle.cp_maps.proofs.MapLists.{IsMapOf-swap, IsMapOf-third, IsMapOf-turn}
use Rattle.cp_mergelaw.proofs.SideMerges.{twins_merged-Becomes}
use Rattle.cp_rotlaw.specs.SideStates.{turned_at}

-- it is a turn
pub turned_at-IsTurn : (i : ℕ) (xs : List ℕ) → IsTurn xs (turned_at i xs)
turned_at-IsTurn i xs =
    subst (λ ys. IsTurn ys (turned_at i xs)) (take-append-drop i xs) (turn_parts (take i xs) (drop i xs))

-- the item at this place stands first
turned_at-first : (i : ℕ) (xs : List ℕ) → i < length xs
    → turned_at i xs ≡ slice_index xs i ∷ (drop (suc i) xs ++ take i xs)
turned_at-first i xs lt = ap (λ ys. ys ++ take i xs) (drop-cons xs i 0 lt)

-- turned to the next place it stands last
turned_at-last : (i : ℕ) (xs : List ℕ) → i < length xs
    → turned_at (suc i) xs ≡ (drop (suc i) xs ++ take i xs) ++ slice_index xs i ∷ []
turned_at-last i xs lt =
    let next : suc i ≡ i + 1 = omega arith in
    ap (λ ys. drop (suc i) xs ++ ys) (ap (λ k. take k xs) next ∙ take_more xs i 0 lt)
    ∙ sym (append_assoc (drop (suc i) xs) (take i xs) (slice_index xs i ∷ []))

-- the lists of the twins of two darts that follow each other in a third list can be put together: the one from its twin
-- on, the other from behind its twin on
pub corner-Becomes : (e : ℕ) (f : ℕ → ℕ) (x y : ℕ) (first row o : List ℕ) (rows : List (List ℕ)) (i j : ℕ)
    → IsMapOf (2 * e) f (first ∷ row ∷ o ∷ rows) → i < length first → slice_index first i ≡ twin x → j < length row
    → slice_index row j ≡ twin y → Has x o → follow o x ≡ y
    → Becomes e f ((turned_at i first ++ turned_at (suc j) row) ∷ o ∷ rows)
corner-Becomes e f x y first row o rows i j is lti at_i ltj at_j hx next =
    let t = turn_to_item x o hx in by_rest t.0 t.1
  where
    n : ℕ
    n = 2 * e

    xs : List ℕ
    xs = drop (suc i) first ++ take i first

    ys : List ℕ
    ys = drop (suc j) row ++ take j row

    first_turn : IsTurn first (twin x ∷ xs)
    first_turn = subst (IsTurn first) (turned_at-first i first lti ∙ ap (λ d. d ∷ xs) at_i) (turned_at-IsTurn i first)

    row_turn : IsTurn row (twin y ∷ ys)
    row_turn = subst (IsTurn row) (turned_at-first j row ltj ∙ ap (λ d. d ∷ ys) at_j) (turned_at-IsTurn j row)

    merged : twin x ∷ (xs ++ (ys ++ twin y ∷ [])) ≡ turned_at i first ++ turned_at (suc j) row
    merged = ap₂ (λ us vs. us ++ vs) (sym (turned_at-first i first lti ∙ ap (λ d. d ∷ xs) at_i))
        (sym (turned_at-last j row ltj ∙ ap (λ d. ys ++ d ∷ []) at_j))

    differ : x ≢ y
    differ s = has_lacks (twin x) (row ++ (o ++ flat rows))
        (Has-append_left (twin x) row (o ++ flat rows)
        (subst (λ d. Has d row) (at_j ∙ ap twin (sym s)) (Has_at row j ltj)))
        (Distinct-apart (twin x) first (row ++ (o ++ flat rows)) is.once
        (subst (λ d. Has d first) at_i (Has_at first i lti)))

    o_first : IsMapOf n f (o ∷ first ∷ row ∷ rows)
    o_first = IsMapOf-third n f first row o rows is

    by_rest : (os : List ℕ) → IsTurn o (x ∷ os) → Becomes e f ((turned_at i first ++ turned_at (suc j) row) ∷ o ∷ rows)
    by_rest [] turn = absurd (differ (sym (next_from_at x x x [] refl)
        ∙ turn-follow o (x ∷ []) x o_first.rings.0.distinct turn hx ∙ next))
    by_rest (z ∷ zs) turn =
        let second : z ≡ y = sym (next_from_at x x x (z ∷ zs) refl)
        ∙ turn-follow o (x ∷ z ∷ zs) x o_first.rings.0.distinct turn hx ∙ next in
        let o_turn : IsTurn o (x ∷ y ∷ zs) = subst (λ d. IsTurn o (x ∷ d ∷ zs)) second turn in
        let a : IsMapOf n f (row ∷ (x ∷ y ∷ zs) ∷ first ∷ rows) =
        IsMapOf-third n f (x ∷ y ∷ zs) first row rows
        (IsMapOf-turn n f o (x ∷ y ∷ zs) (first ∷ row ∷ rows) o_turn o_first) in
        let b : IsMapOf n f (first ∷ (twin y ∷ ys) ∷ (x ∷ y ∷ zs) ∷ rows) =
        IsMapOf-third n f (twin y ∷ ys) (x ∷ y ∷ zs) first rows
        (IsMapOf-turn n f row (twin y ∷ ys) ((x ∷ y ∷ zs) ∷ first ∷ rows) row_turn a) in
        let c : Becomes e f ((twin x ∷ (xs ++ (ys ++ twin y ∷ []))) ∷ (x ∷ y ∷ zs) ∷ rows) =
        twins_merged-Becomes e f x y xs ys zs rows
        (IsMapOf-turn n f first (twin x ∷ xs) ((twin y ∷ ys) ∷ (x ∷ y ∷ zs) ∷ rows) first_turn b) in
        let m : List ℕ = twin x ∷ (xs ++ (ys ++ twin y ∷ [])) in (
          c.0,
          subst (λ us. IsMapOf n c.0 (us ∷ o ∷ rows)) merged
              (IsMapOf-swap n c.0 o m rows
              (IsMapOf-turn n c.0 (x ∷ y ∷ zs) o (m ∷ rows) (turn-sym o (x ∷ y ∷ zs) o_turn)
              (IsMapOf-swap n c.0 m (x ∷ y ∷ zs) rows c.1))),
          c.2,
        )
