-- The two sides of inner vertices: two vertices whose orders mirror each other, each taken apart, and back.
use Rattle.std.proofs.Common.{◌≡◌, ℕ, ◌*◌, ◌<◌, Bool, true, false, cond, List, [], ◌∷◌, ◌++◌, map, reverse, sym, refl, ap, ◌∙◌, subst, ⊎_elim, arith}
use Rattle.std.specs.List.{filter}
use Rattle.std.proofs.lemmas.List.{append-nil}
use Rattle.cp_lists.specs.CyclicLists.{Distinct, Has, Lacks}
use Rattle.cp_lists.specs.Rows.{flat}
use Rattle.cp_lists.specs.Turns.{IsTurn}
use Rattle.cp_lists.proofs.Crossings.{map-Crosses, reverse-Crosses}
use Rattle.cp_lists.proofs.DistinctLists.{Distinct-append, Has-append_cases, Lacks-from, has_lacks}
use Rattle.cp_lists.proofs.MappedLists.{Distinct-map_on, Has-map_on, map_on-Has}
use Rattle.cp_lists.proofs.ReversedLists.{Distinct-reverse, Has-reverse, filter-reverse, reverse-Has}
use Rattle.cp_lists.proofs.TurnedLists.{turn_reverse_head}
use Rattle.cp_faces.specs.Twins.{twin}
use Rattle.cp_faces.proofs.Twins.{twin-below, twin-twin}
use Rattle.cp_maps.specs.Genus.{CanBeFlat}
use Rattle.cp_maps.specs.Maps.{IsMapOf, next_by}
use Rattle.cp_maps.specs.Mirrors.{mirror}
use Rattle.cp_maps.proofs.Dipoles.{loose_edges-IsFlat, mirrored_dipole-IsFlat}
use Rattle.cp_maps.proofs.ListFacts.{Below-from}
use Rattle.cp_maps.proofs.MapLists.{IsMapOf-bare, IsMapOf-by, IsMapOf-front, IsMapOf-swap, IsMapOf-turn}
use Rattle.cp_mergelaw.specs.Sides.{AllUncrossed, EachList, IsMergeOf, IsMergedSide, IsMirrorIn, RestrictsTo, Uncrossed, is_of, leads_to}
use Rattle.cp_join.proofs.TakenApart.{taken_apart-CanBeFlat}

-- an item of the mirror is the twin of one of the list
pub mirror-Has : (d : ℕ) (xs : List ℕ) → Has d (mirror xs) → Has (twin d) xs
mirror-Has d xs h =
    let r = map_on-Has twin d xs (reverse-Has d (map twin xs) h) in
    subst (λ y. Has y xs) (sym (twin-twin r.0) ∙ ap twin r.2) r.1

-- and the other way round
pub Has-mirror : (d : ℕ) (xs : List ℕ) → Has (twin d) xs → Has d (mirror xs)
Has-mirror d xs h =
    Has-reverse d (map twin xs) (subst (λ y. Has y (map twin xs)) (twin-twin d) (Has-map_on twin (twin d) xs h))

-- the mirror of a list of different darts has different darts
pub mirror-Distinct : (xs : List ℕ) → Distinct xs → Distinct (mirror xs)
mirror-Distinct xs once =
    Distinct-reverse (map twin xs)
    (Distinct-map_on twin xs (λ x y hx hy same. sym (twin-twin x) ∙ ap twin same ∙ twin-twin y) once)

-- two vertices alone whose orders mirror each other can be flat
pub mirrored-CanBeFlat : (e : ℕ) (whole : List ℕ) → Distinct whole → ((d : ℕ) → Has d whole → d < 2 * e)
    → ((d : ℕ) → Has d whole → Lacks (twin d) whole) → CanBeFlat e (whole ∷ mirror whole ∷ [])
mirrored-CanBeFlat e [] once low no_twin =
    let none : IsMapOf (2 * e) (λ d. d) [] = record { once = tt; below = tt; rings = tt; loose = λ d lt l. refl } in (
      (λ d. d),
      IsMapOf-bare (2 * e) (λ d. d) ([] ∷ []) (IsMapOf-bare (2 * e) (λ d. d) [] none),
      loose_edges-IsFlat e,
    )
mirrored-CanBeFlat e (x ∷ xs) once low no_twin = (
  next_by rows,
  is,
  mirrored_dipole-IsFlat e (next_by rows) x xs
      (IsMapOf-swap (2 * e) (next_by rows) (twin x ∷ mirror xs) whole []
      (IsMapOf-turn (2 * e) (next_by rows) (mirror whole) (twin x ∷ mirror xs) (whole ∷ [])
      (turn_reverse_head (twin x) (map twin xs)) (IsMapOf-swap (2 * e) (next_by rows) whole (mirror whole) [] is))),
)
  where
    whole : List ℕ
    whole = x ∷ xs

    rows : List (List ℕ)
    rows = whole ∷ mirror whole ∷ []

    second : (d : ℕ) → Has d (mirror whole ++ []) → Has d (mirror whole)
    second d h = subst (Has d) (append-nil (mirror whole)) h

    low_second : (d : ℕ) → Has d (mirror whole) → d < 2 * e
    low_second d h =
        subst (λ y. y < 2 * e) (twin-twin d)
        (twin-below (2 * e) (twin d) (omega arith) (low (twin d) (mirror-Has d whole h)))

    is : IsMapOf (2 * e) (next_by rows) rows
    is = IsMapOf-by (2 * e) rows
        (Distinct-append whole (mirror whole ++ []) once
        (subst Distinct (sym (append-nil (mirror whole))) (mirror-Distinct whole once))
        (λ d h. Lacks-from d (mirror whole ++ [])
        (λ k. has_lacks (twin d) whole (mirror-Has d whole (second d k)) (no_twin d h))))
        (Below-from (2 * e) (flat rows) (λ d h. ⊎_elim
        (λ k. low d k) (λ k. low_second d (second d k)) (Has-append_cases d whole (mirror whole ++ []) h)))

-- a list, and lists of which it and its mirror are put together without a crossing: they can be flat together
module _ (e : ℕ) (whole : List ℕ) (firsts seconds : List (List ℕ)) (once : Distinct whole)
    (low : (d : ℕ) → Has d whole → d < 2 * e) (no_twin : (d : ℕ) → Has d whole → Lacks (twin d) whole)
    (merge_a : IsMergeOf whole firsts) (merge_b : IsMergeOf (mirror whole) seconds) (once_a : Distinct (flat firsts))
    (once_b : Distinct (flat seconds)) (all_a : (d : ℕ) → Has d whole → Has d (flat firsts))
    (all_b : (d : ℕ) → Has d (mirror whole) → Has d (flat seconds)) where
  -- the list and its mirror as two vertices
  dipole : CanBeFlat e (whole ∷ mirror whole ∷ [])
  dipole = mirrored-CanBeFlat e whole once low no_twin

  -- the second of them taken apart
  half : CanBeFlat e (seconds ++ whole ∷ [])
  half = taken_apart-CanBeFlat e (mirror whole) seconds (whole ∷ [])
      (dipole.0, IsMapOf-swap (2 * e) dipole.0 whole (mirror whole) [] dipole.1, dipole.2) merge_b once_b all_b

  -- both taken apart
  pub inner-CanBeFlat : CanBeFlat e (firsts ++ seconds)
  inner-CanBeFlat = subst (λ zs. CanBeFlat e (firsts ++ zs)) (append-nil seconds)
      (taken_apart-CanBeFlat e whole firsts (seconds ++ [])
      (half.0, IsMapOf-front (2 * e) half.0 whole seconds [] half.1, half.2) merge_a once_a all_a)

-- what a test keeps of the twins
filter-twins : (p : ℕ → Bool) (xs : List ℕ) → filter p (map twin xs) ≡ map twin (filter (λ d. p (twin d)) xs)
filter-twins p [] = refl
filter-twins p (x ∷ xs) = by_test (p (twin x)) (filter-twins p xs)
  where
    kept : List ℕ
    kept = filter (λ d. p (twin d)) xs

    by_test : (b : Bool) → filter p (map twin xs) ≡ map twin kept
        → cond b (twin x ∷ filter p (map twin xs)) (filter p (map twin xs)) ≡ map twin (cond b (x ∷ kept) kept)
    by_test true same = ap (λ zs. twin x ∷ zs) same
    by_test false same = same

-- what the mirror of a list has of another is the mirror of what the list has of edges that lead to the other
mirror-leads_to : (whole xs : List ℕ) → filter (is_of xs) (mirror whole) ≡ mirror (filter (leads_to xs) whole)
mirror-leads_to whole xs =
    filter-reverse (is_of xs) (map twin whole) ∙ ap reverse (filter-twins (is_of xs) whole)

-- lists that read a whole list in reverse and do not cross in it: its mirror is put together of them
module _ (whole : List ℕ) where
  -- what reads the whole list in reverse has the order of its mirror
  restricted_each : (rows : List (List ℕ)) → EachList (IsMirrorIn whole) rows
      → EachList (RestrictsTo (mirror whole)) rows
  restricted_each [] each = tt
  restricted_each (xs ∷ rows) each =
      (subst (IsTurn xs) (sym (mirror-leads_to whole xs)) each.0, restricted_each rows each.1)

  -- what does not cross in the whole list does not in its mirror
  uncrossed_one : (xs ys : List ℕ) → Uncrossed leads_to whole xs ys → Uncrossed is_of (mirror whole) xs ys
  uncrossed_one xs ys apart cross =
      apart (map-Crosses twin (is_of xs) (is_of ys) whole
      (reverse-Crosses (is_of xs) (is_of ys) (map twin whole) cross))

  -- the same for one list and each of several
  uncrossed_each : (xs : List ℕ) (rows : List (List ℕ)) → EachList (Uncrossed leads_to whole xs) rows
      → EachList (Uncrossed is_of (mirror whole) xs) rows
  uncrossed_each xs [] each = tt
  uncrossed_each xs (ys ∷ rows) each = (uncrossed_one xs ys each.0, uncrossed_each xs rows each.1)

  -- and for any two of several
  uncrossed_all : (rows : List (List ℕ)) → AllUncrossed leads_to whole rows → AllUncrossed is_of (mirror whole) rows
  uncrossed_all [] all = tt
  uncrossed_all (xs ∷ rows) all = (uncrossed_each xs rows all.0, uncrossed_all rows all.1)

  -- the other side of a merged side
  pub mirror-IsMergeOf : (e : ℕ) (side others : List (List ℕ)) → IsMergedSide e side others whole
      → IsMergeOf (mirror whole) others
  mirror-IsMergeOf e side others merged = record {
    restricted = restricted_each others merged.mirrored;
    uncrossed = uncrossed_all others merged.others_uncrossed;
  }
