-- All vertices of a side made one.
use Rattle.std.proofs.Common.{◌≡◌, ℕ, zero, suc, ◌*◌, List, [], ◌∷◌, ◌++◌, length, append-nil, append_assoc, sym, refl, ap, ◌⊎◌, subst, inl, inr, ⊎_elim, arith}
use Rattle.cp_lists.specs.CyclicLists.{Distinct, Has}
use Rattle.cp_lists.specs.Rows.{flat}
use Rattle.cp_lists.specs.Turns.{IsTurn}
use Rattle.cp_lists.proofs.DistinctLists.{Has-append_cases, Has-append_left, Has-append_right}
use Rattle.cp_lists.proofs.TurnedLists.{Has-of_turn, turn-Has}
use Rattle.cp_faces.specs.Twins.{twin}
use Rattle.cp_maps.specs.Genus.{Becomes, CanBeFlat, IsFlat}
use Rattle.cp_maps.specs.Maps.{IsMapOf}
use Rattle.cp_maps.proofs.Genus.{SameGenus-IsFlat, SameGenus-trans}
use Rattle.cp_maps.proofs.Growth.{middle_cases, middle_item}
use Rattle.cp_maps.proofs.MapLists.{IsMapOf-front, IsMapOf-swap, IsMapOf-third}
use Rattle.cp_mergelaw.specs.Merges.{NextMerge}
use Rattle.cp_mergelaw.specs.Sides.{AllUncrossed, AreSides, EachList, IsMergeOf, IsMergedSide, IsMirrorIn, NoneBare, Uncrossed, leads_to}
use Rattle.cp_mergelaw.proofs.MergedLists.{IsMergeOf-before, IsMergeOf-one}
use Rattle.cp_mergelaw.proofs.MirroredLists.{flat-IsMirrorIn, flat-Uncrossed}
use Rattle.cp_mergelaw.proofs.NextMerges.{next-NextMerge}

-- lists of which none is empty, without one of them
NoneBare-less : (xs : List ℕ) (before behind : List (List ℕ)) → NoneBare (before ++ xs ∷ behind)
    → NoneBare (before ++ behind)
NoneBare-less [] [] behind h = absurd h
NoneBare-less (x ∷ xs) [] behind h = h
NoneBare-less xs ([] ∷ before) behind h = absurd h
NoneBare-less xs ((y ∷ ys) ∷ before) behind h = NoneBare-less xs before behind h

-- a list with an item in front of lists of which none is empty
NoneBare-cons : (x : ℕ) (xs : List ℕ) (rows : List (List ℕ)) → Has x xs → NoneBare rows → NoneBare (xs ∷ rows)
NoneBare-cons x [] rows h none = absurd h
NoneBare-cons x (w ∷ xs) rows h none = none

-- a list among others is one more
length-among : (xs : List ℕ) (before behind : List (List ℕ))
    → length (before ++ xs ∷ behind) ≡ suc (length (before ++ behind))
length-among xs [] behind = refl
length-among xs (ys ∷ before) behind = ap suc (length-among xs before behind)

-- the first list and one of the others put together: the darts are the same
module _ (first row us vs : List ℕ) (before behind : List (List ℕ)) (one : IsTurn first us) (two : IsTurn row vs) where
  -- a dart of the lists is one of those merged
  merged_item : (d : ℕ) → Has d (flat (first ∷ (before ++ row ∷ behind)))
      → Has d (flat ((us ++ vs) ∷ (before ++ behind)))
  merged_item d h = ⊎_elim
      (λ k. in_first (Has-append_left d us vs (turn-Has first us d one k)))
      (λ k. ⊎_elim
      (λ l. in_first (Has-append_right d us vs (turn-Has row vs d two l)))
      (λ l. Has-append_right d (us ++ vs) (flat (before ++ behind)) l)
      (middle_cases d before row behind k))
      (Has-append_cases d first (flat (before ++ row ∷ behind)) h)
    where
      in_first : Has d (us ++ vs) → Has d (flat ((us ++ vs) ∷ (before ++ behind)))
      in_first k = Has-append_left d (us ++ vs) (flat (before ++ behind)) k

  -- and back
  item_merged : (d : ℕ) → Has d (flat ((us ++ vs) ∷ (before ++ behind)))
      → Has d (flat (first ∷ (before ++ row ∷ behind)))
  item_merged d h = ⊎_elim
      (λ k. ⊎_elim
      (λ l. Has-append_left d first (flat (before ++ row ∷ behind)) (Has-of_turn first us d one l))
      (λ l. in_rest (inl (Has-of_turn row vs d two l)))
      (Has-append_cases d us vs k))
      (λ k. in_rest (inr k))
      (Has-append_cases d (us ++ vs) (flat (before ++ behind)) h)
    where
      in_rest : Has d row ⊎ Has d (flat (before ++ behind)) → Has d (flat (first ∷ (before ++ row ∷ behind)))
      in_rest k = Has-append_right d first (flat (before ++ row ∷ behind)) (middle_item d before row behind k)

-- one list for a side: the genus stays, and it keeps the order of each list of the side, no two of which cross in it
record IsMerged (e : ℕ) (f : ℕ → ℕ) (side others : List (List ℕ)) (whole : List ℕ) : Type 0 where
  becomes : Becomes e f (whole ∷ others)
  items : (d : ℕ) → Has d (flat side) → Has d whole
  merge : IsMergeOf whole side

-- a side merged after a first merge is the side merged
module _ (e : ℕ) (f : ℕ → ℕ) (first : List ℕ) (side others : List (List ℕ)) (m : NextMerge e f first side others) where
  -- the first list, turned
  abbrev us : List ℕ
  us = m.merge.0

  -- the list that is merged with it, turned
  abbrev vs : List ℕ
  vs = m.merge.1

  -- both in one
  abbrev mid : List ℕ
  mid = us ++ vs

  -- the lists that stay
  abbrev rest : List (List ℕ)
  rest = m.before ++ m.behind

  -- the map with both in one
  abbrev step : Becomes e f (mid ∷ (rest ++ others))
  step = m.merge.4

  -- its first list is distinct
  mid_once : Distinct mid
  mid_once = step.1.rings.0.distinct

  -- what is merged from there is merged from here
  IsMerged-before : (whole : List ℕ) → IsMerged e step.0 (mid ∷ rest) others whole
      → IsMerged e f (first ∷ side) others whole
  IsMerged-before whole go = record {
    becomes = (go.becomes.0, go.becomes.1, SameGenus-trans e f step.0 go.becomes.0 step.2 go.becomes.2);
    items = λ d h. go.items d (merged_item first m.row us vs m.before m.behind m.merge.2 m.merge.3 d
        (subst (λ rows. Has d (flat (first ∷ rows))) m.whole h));
    merge = subst (λ rows. IsMergeOf whole (first ∷ rows)) (sym m.whole)
        (IsMergeOf-before whole first m.row us vs m.before m.behind m.merge.2 m.merge.3 mid_once go.merge);
  }

-- the lists of a side, one after the other, become one
merged-IsMerged : (n : ℕ) (e : ℕ) (f : ℕ → ℕ) (first : List ℕ) (side others : List (List ℕ)) → length side ≡ n
    → IsMapOf (2 * e) f (first ∷ (side ++ others)) → NoneBare (first ∷ side) → AreSides (first ∷ side) others
    → (whole : List ℕ) × IsMerged e f (first ∷ side) others whole
merged-IsMerged n e f [] side others size is none sides = absurd none
merged-IsMerged n e f (r ∷ rs) [] others size is none sides = (
  r ∷ rs,
  record {
    becomes = (f, is, refl);
    items = λ d h. subst (Has d) (append-nil (r ∷ rs)) h;
    merge = IsMergeOf-one (r ∷ rs);
  },
)
merged-IsMerged n e f (r ∷ rs) ([] ∷ more) others size is none sides = absurd none
merged-IsMerged zero e f (r ∷ rs) ((b ∷ bs) ∷ more) others size is none sides = absurd (omega (arith, size))
merged-IsMerged (suc n) e f (r ∷ rs) ((b ∷ bs) ∷ more) others size is none sides =
    let first : List ℕ = r ∷ rs in
    let side : List (List ℕ) = (b ∷ bs) ∷ more in
    let m : NextMerge e f first side others = next-NextMerge e f r b rs bs more others is sides in
    let us : List ℕ = m.merge.0 in
    let vs : List ℕ = m.merge.1 in
    let rest : List (List ℕ) = m.before ++ m.behind in
    let go = merged-IsMerged n e m.merge.4.0 (us ++ vs) rest others
    (omega (arith, size, ap length m.whole, length-among m.row m.before m.behind)) m.merge.4.1
    (NoneBare-cons r (us ++ vs) rest (Has-append_left r us vs (turn-Has first us r m.merge.2 (inl refl)))
    (NoneBare-less m.row m.before m.behind (subst NoneBare m.whole none)))
    (record {
      across = λ d h. sides.across d (subst (λ rows. Has d (flat (first ∷ rows))) (sym m.whole)
          (item_merged first m.row us vs m.before m.behind m.merge.2 m.merge.3 d h));
      back = λ d h. merged_item first m.row us vs m.before m.behind m.merge.2 m.merge.3 (twin d)
          (subst (λ rows. Has (twin d) (flat (first ∷ rows))) m.whole (sides.back d h));
    }) in
    (go.0, IsMerged-before e f first side others m go.0 go.1)

-- the vertices of the other side, with the lists before them that were treated
module _ (e : ℕ) (whole : List ℕ) where
  -- lists in front can be moved back
  CanBeFlat-moved : (xs : List ℕ) (done rows : List (List ℕ)) → CanBeFlat e (whole ∷ (done ++ xs ∷ rows))
      → CanBeFlat e (whole ∷ xs ∷ (done ++ rows))
  CanBeFlat-moved xs done rows can = (
    can.0,
    IsMapOf-swap (2 * e) can.0 xs whole (done ++ rows)
        (IsMapOf-front (2 * e) can.0 xs (whole ∷ done) rows can.1),
    can.2,
  )

  -- each of them reads the whole list in reverse
  others-IsMirrorIn : (done rows : List (List ℕ)) → CanBeFlat e (whole ∷ (done ++ rows))
      → ((d : ℕ) → Has d (flat rows) → Has (twin d) whole) → EachList (IsMirrorIn whole) rows
  others-IsMirrorIn done [] can back = tt
  others-IsMirrorIn done (xs ∷ rows) can back = (
    flat-IsMirrorIn e whole xs (done ++ rows) (CanBeFlat-moved xs done rows can)
        (λ d h. back d (Has-append_left d xs (flat rows) h)),
    others-IsMirrorIn (done ++ xs ∷ []) rows
        (subst (λ all. CanBeFlat e (whole ∷ all)) (sym (append_assoc done (xs ∷ []) rows)) can)
        (λ d h. back d (Has-append_right d xs (flat rows) h)),
  )

  -- one of them is not crossed by any behind it
  one-Uncrossed : (xs : List ℕ) (done rows : List (List ℕ)) → CanBeFlat e (whole ∷ xs ∷ (done ++ rows))
      → EachList (Uncrossed leads_to whole xs) rows
  one-Uncrossed xs done [] can = tt
  one-Uncrossed xs done (ys ∷ rows) can = (
    flat-Uncrossed e whole xs ys (done ++ rows) (
      can.0,
      IsMapOf-third (2 * e) can.0 xs ys whole (done ++ rows)
          (IsMapOf-third (2 * e) can.0 ys whole xs (done ++ rows)
          (IsMapOf-front (2 * e) can.0 ys (whole ∷ xs ∷ done) rows can.1)),
      can.2,
    ),
    one-Uncrossed xs (done ++ ys ∷ []) rows
        (subst (λ all. CanBeFlat e (whole ∷ xs ∷ all)) (sym (append_assoc done (ys ∷ []) rows)) can),
  )

  -- no two of them are crossed
  others-AllUncrossed : (done rows : List (List ℕ)) → CanBeFlat e (whole ∷ (done ++ rows))
      → AllUncrossed leads_to whole rows
  others-AllUncrossed done [] can = tt
  others-AllUncrossed done (xs ∷ rows) can = (
    one-Uncrossed xs done rows (CanBeFlat-moved xs done rows can),
    others-AllUncrossed (done ++ xs ∷ []) rows
        (subst (λ all. CanBeFlat e (whole ∷ all)) (sym (append_assoc done (xs ∷ []) rows)) can),
  )

-- a side of which the vertices were made one, by whatever merges: what the list of this vertex keeps of the others, and
-- what the other side reads of it
pub IsMergeOf-IsMergedSide : (e : ℕ) (side others : List (List ℕ)) (whole : List ℕ) → CanBeFlat e (whole ∷ others)
    → IsMergeOf whole side → ((d : ℕ) → Has d (flat others) → Has (twin d) whole) → IsMergedSide e side others whole
IsMergeOf-IsMergedSide e side others whole can merge back = record {
  can_be_flat = can;
  merge = merge;
  mirrored = others-IsMirrorIn e whole [] others can back;
  others_uncrossed = others-AllUncrossed e whole [] others can;
}

-- the vertices of one side of a map can be made one vertex, without a change of the genus, whose list is put together
-- of theirs
pub merged_side-Becomes : (e : ℕ) (f : ℕ → ℕ) (first : List ℕ) (side others : List (List ℕ))
    → IsMapOf (2 * e) f (first ∷ (side ++ others)) → NoneBare (first ∷ side) → AreSides (first ∷ side) others
    → (whole : List ℕ) × Becomes e f (whole ∷ others) × IsMergeOf whole (first ∷ side)
merged_side-Becomes e f first side others is none sides =
    let m = merged-IsMerged (length side) e f first side others refl is none sides in
    (m.0, m.1.becomes, m.1.merge)

-- the vertices of one side of a flat map can be made one vertex: its list is put together of theirs and is read in
-- reverse by each vertex of the other side, and no two of these cross in it
pub merged_side-IsMergedSide : (e : ℕ) (f : ℕ → ℕ) (first : List ℕ) (side others : List (List ℕ))
    → IsMapOf (2 * e) f (first ∷ (side ++ others)) → NoneBare (first ∷ side) → AreSides (first ∷ side) others
    → IsFlat e f → (whole : List ℕ) × IsMergedSide e (first ∷ side) others whole
merged_side-IsMergedSide e f first side others is none sides z =
    let m = merged-IsMerged (length side) e f first side others refl is none sides in
    let b : Becomes e f (m.0 ∷ others) = m.1.becomes in (
      m.0,
      IsMergeOf-IsMergedSide e (first ∷ side) others m.0 (b.0, b.1, SameGenus-IsFlat e f b.0 b.2 z) m.1.merge
          (λ d h. m.1.items (twin d) (sides.back d h)),
    )
