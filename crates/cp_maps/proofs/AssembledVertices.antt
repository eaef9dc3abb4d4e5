-- Copies of a vertex in different components made one, where their lists do not cross.
use Rattle.std.proofs.Common.{◌≡◌, ℕ, false, eqb, List, [], ◌∷◌, ◌++◌, sym, refl, ap, ◌∙◌, subst, ⊎_elim, suc, ◌*◌, Bool, lt-suc_self, ◌⊎◌, length}
use Rattle.std.proofs.lemmas.Bool.{eq-eqb, ne_eqb, false≢true}
use Rattle.std.specs.List.{filter}
use Rattle.cp_lists.specs.Crossings.{NoCross}
use Rattle.cp_lists.specs.CyclicLists.{Distinct, Has, follow}
use Rattle.cp_lists.specs.Rows.{flat}
use Rattle.cp_lists.proofs.DistinctLists.{Distinct-apart, Distinct-append, Distinct-append_left, Distinct-append_right, Has-append_cases, Has-append_left, Has-append_right, Lacks-from, has_lacks}
use Rattle.cp_lists.proofs.FlatLists.{flat-append}
use Rattle.cp_lists.proofs.TurnedLists.{Has-of_turn, turn-Distinct, turn-Has, turn-sym}
use Rattle.cp_orbits.specs.Classes.{labels}
use Rattle.cp_orbits.specs.Orbits.{Permutes}
use Rattle.cp_maps.specs.Genus.{AllApart, Becomes, Evenly, SameGenus, in_part, linked}
use Rattle.cp_maps.specs.Gluings.{AreCopiesOf, IsAssembled}
use Rattle.cp_maps.specs.ListClasses.{EachClassOf}
use Rattle.cp_maps.specs.Maps.{Below, IsMapOf, Rings}
use Rattle.cp_maps.proofs.AssembledLists.{uncrossed-IsAssembled}
use Rattle.cp_maps.proofs.Copies.{copies-Has, copies-split}
use Rattle.cp_maps.proofs.Edges.{twin-OnePart}
use Rattle.cp_maps.proofs.Genus.{SameGenus-trans}
use Rattle.cp_maps.proofs.GluedVertices.{concatenated-Becomes}
use Rattle.cp_maps.proofs.ListFacts.{Below-from, below_item}
use Rattle.cp_maps.proofs.MapLists.{IsMapOf-Permutes, IsMapOf-among, IsMapOf-bare, IsMapOf-other, IsMapOf-swap, IsMapOf-turn}
use Rattle.cp_maps.proofs.MergedVertices.{same_lists-SameGenus}
use Rattle.cp_maps.proofs.Parts.{Evenly-two_parts, Ring-OnePart}
use Rattle.cp_maps.proofs.Rings.{Rings-append, Rings-append_left, Rings-append_right}

-- an item of a list that is made of copies is one of theirs
pub assembled_item : (row : List ℕ) (copies : List (List ℕ)) (d : ℕ) → IsAssembled row copies → Has d row
    → Has d (flat copies)
assembled_item row [] d is h = subst (Has d) is h
assembled_item row (xs ∷ copies) d is h = ⊎_elim
    (λ k. Has-append_left d xs (flat copies) k)
    (λ k. Has-append_right d xs (flat copies) (assembled_item is.0 copies d is.2 k))
    (Has-append_cases d xs is.0 (Has-of_turn (xs ++ is.0) row d is.1 h))

-- a map, and a component of it
module _ (e : ℕ) (f : ℕ → ℕ) (perm : Permutes (2 * e) f) (c : ℕ) where
  -- the test for the component
  abbrev with_c : ℕ → Bool
  with_c y = eqb (labels (linked f (2 * e) e) y) (labels (linked f (2 * e) e) c)

  -- it has one value on each ring
  rings_even : (rows : List (List ℕ)) → Rings f rows → Below (2 * e) (flat rows) → Evenly with_c rows
  rings_even [] rings below = tt
  rings_even (xs ∷ rows) rings below = (
    λ a b ha hb.
        ap (λ y. eqb y (labels (linked f (2 * e) e) c))
        (Ring-OnePart e f perm xs rings.0
        (λ d h. below_item (2 * e) d (xs ++ flat rows) below (Has-append_left d xs (flat rows) h)) a b ha hb),
    rings_even rows rings.1 (Below-from (2 * e) (flat rows)
        (λ d h. below_item (2 * e) d (xs ++ flat rows) below (Has-append_right d xs (flat rows) h))),
  )

-- copies of a vertex in different components made one
pub assembled-Becomes : (e : ℕ) (f : ℕ → ℕ) (row : List ℕ) (copies rows : List (List ℕ))
    → IsMapOf (2 * e) f (copies ++ rows) → AllApart e f copies → IsAssembled row copies → Becomes e f (row ∷ rows)
assembled-Becomes e f row [] rows is apart made =
    (f, subst (λ xs. IsMapOf (2 * e) f (xs ∷ rows)) (sym made) (IsMapOf-bare (2 * e) f rows is), refl)
assembled-Becomes e f row (xs ∷ copies) rows is apart made =
    let g : Becomes e f (made.0 ∷ xs ∷ rows) =
    assembled-Becomes e f made.0 copies (xs ∷ rows) (IsMapOf-among (2 * e) f xs copies rows is) apart.1 made.2 in
    let perm : Permutes (2 * e) f = IsMapOf-Permutes (2 * e) f (xs ∷ (copies ++ rows)) is in
    let is' : IsMapOf (2 * e) f (xs ∷ (copies ++ rows)) = is in
    let one : Becomes e g.0 ((xs ++ made.0) ∷ rows) =
    concatenated-Becomes e g.0 xs made.0 rows (IsMapOf-swap (2 * e) g.0 made.0 xs rows g.1) (λ c d hc hd same.
    Evenly-two_parts e g.0 (made.0 ∷ xs ∷ rows) (with_c e f perm c) c d g.1 (
      (λ a b ha hb. outside c hc a ha ∙ sym (outside c hc b hb)),
      inner perm c,
    )
    (λ y lt. ap (λ z. eqb z (labels (linked f (2 * e) e) c)) (sym (twin-OnePart e f perm y lt)))
    (λ h. false≢true (sym (outside c hc d hd) ∙ sym h
    ∙ eq-eqb (labels (linked f (2 * e) e) c) (labels (linked f (2 * e) e) c) refl)) same) in
    (one.0, IsMapOf-turn (2 * e) one.0 (xs ++ made.0) row rows made.1 one.1, SameGenus-trans e f g.0 one.0 g.2 one.2)
  where
    outside : (c : ℕ) → Has c xs → (y : ℕ) → Has y made.0
        → eqb (labels (linked f (2 * e) e) y) (labels (linked f (2 * e) e) c) ≡ false
    outside c hc y hy =
        ne_eqb (labels (linked f (2 * e) e) y) (labels (linked f (2 * e) e) c)
        (λ h. apart.0 c y hc (assembled_item made.0 copies y made.2 hy) (sym h))

    inner : (perm : Permutes (2 * e) f) (c : ℕ) → Evenly (with_c e f perm c) (xs ∷ rows)
    inner perm c =
        let last : IsMapOf (2 * e) f (copies ++ xs ∷ rows) = IsMapOf-among (2 * e) f xs copies rows is in
        rings_even e f perm c (xs ∷ rows) (Rings-append_right f copies (xs ∷ rows) last.rings)
        (Below-from (2 * e) (flat (xs ∷ rows))
        (λ d h. below_item (2 * e) d (flat (copies ++ xs ∷ rows)) last.below
        (subst (Has d) (sym (flat-append copies (xs ∷ rows))) (Has-append_right d (flat copies) (flat (xs ∷ rows)) h))))

-- an item of a copy is one of the list that is made of them
pub item_assembled : (row : List ℕ) (copies : List (List ℕ)) (d : ℕ) → IsAssembled row copies → Has d (flat copies)
    → Has d row
item_assembled row [] d is h = absurd h
item_assembled row (xs ∷ copies) d is h = turn-Has (xs ++ is.0) row d is.1 (⊎_elim
    (λ k. Has-append_left d xs is.0 k)
    (λ k. Has-append_right d xs is.0 (item_assembled is.0 copies d is.2 k))
    (Has-append_cases d xs (flat copies) h))

-- copies that make a distinct list are distinct
pub assembled-Distinct : (row : List ℕ) (copies : List (List ℕ)) → IsAssembled row copies → Distinct row
    → Distinct (flat copies)
assembled-Distinct row [] is dis = tt
assembled-Distinct row (xs ∷ copies) is dis =
    let back : Distinct (xs ++ is.0) = turn-Distinct row (xs ++ is.0) (turn-sym (xs ++ is.0) row is.1) dis in
    Distinct-append xs (flat copies) (Distinct-append_left xs is.0 back)
    (assembled-Distinct is.0 copies is.2 (Distinct-append_right xs is.0 back))
    (λ d h. Lacks-from d (flat copies)
    (λ k. has_lacks d is.0 (item_assembled is.0 copies d is.2 k) (Distinct-apart d xs is.0 back h)))

-- the darts of a list, in a map in which each leads to the next one of its component
module _ (e : ℕ) (g : ℕ → ℕ) (perm : Permutes (2 * e) g) (row : List ℕ)
    (split : (d : ℕ) → Has d row → g d ≡ follow (filter (in_part e g (labels (linked g (2 * e) e) d)) row) d) where
  -- the label of a dart
  abbrev part : ℕ → ℕ
  part = labels (linked g (2 * e) e)

  -- the components in the list are rings
  classes-Rings : (copies : List (List ℕ)) → Distinct (flat copies) → EachClassOf part row copies → Rings g copies
  classes-Rings [] dis each = tt
  classes-Rings (ys ∷ copies) dis each = (
    record {
      distinct = Distinct-append_left ys (flat copies) dis;
      along = λ d h.
          let w = (each.0.items d).0 h in
          split d w.0 ∙ ap (λ c. follow (filter (in_part e g c) row) d) w.1 ∙ sym (each.0.order d h);
    },
    classes-Rings copies (Distinct-append_right ys (flat copies) dis) each.1,
  )

  -- an item of several is in the list
  classes-item : (copies : List (List ℕ)) (d : ℕ) → EachClassOf part row copies → Has d (flat copies) → Has d row
  classes-item [] d each h = absurd h
  classes-item (ys ∷ copies) d each h =
      ⊎_elim (λ k. ((each.0.items d).0 k).0) (λ k. classes-item copies d each.1 k)
      (Has-append_cases d ys (flat copies) h)

  -- they are in different components
  classes-AllApart : (copies : List (List ℕ)) → Distinct (flat copies) → EachClassOf part row copies
      → AllApart e g copies
  classes-AllApart [] dis each = tt
  classes-AllApart (ys ∷ copies) dis each = (
    λ c d hc hd one. has_lacks d (flat copies) hd
        (Distinct-apart d ys (flat copies) dis
        ((each.0.items d).1 (classes-item copies d each.1 hd, sym one ∙ ((each.0.items c).0 hc).1))),
    classes-AllApart copies (Distinct-append_right ys (flat copies) dis) each.1,
  )

-- copies of a vertex in different components that do not cross in its list, made one: the genus stays
pub uncrossed_copies-SameGenus : (e : ℕ) (f g : ℕ → ℕ) (row : List ℕ) (copies rows : List (List ℕ))
    → IsMapOf (2 * e) f (row ∷ rows) → IsMapOf (2 * e) g (copies ++ rows) → AreCopiesOf row copies
    → AllApart e g copies → NoCross (labels (linked g (2 * e) e)) row → SameGenus e g f
uncrossed_copies-SameGenus e f g row copies rows is_f is_g are apart uncrossed =
    let perm : Permutes (2 * e) g = IsMapOf-Permutes (2 * e) g (copies ++ rows) is_g in
    let dis_row : Distinct row = is_f.rings.0.distinct in
    let items : (d : ℕ) → Has d (flat (copies ++ rows))
    → Has d (flat copies) ⊎ Has d (flat rows) =
    λ d h. Has-append_cases d (flat copies) (flat rows) (subst (Has d) (flat-append copies rows) h) in
    let split : (d : ℕ) → Has d row → g d ≡ follow (filter (in_part e g (labels (linked g (2 * e) e) d)) row) d = λ d h.
    copies-split e g perm row copies d dis_row are apart (Rings-append_left g copies rows is_g.rings)
    (λ y k. below_item (2 * e) y (flat (copies ++ rows)) is_g.below
    (subst (Has y) (sym (flat-append copies rows)) (Has-append_left y (flat copies) (flat rows) k))) h in
    let a =
    uncrossed-IsAssembled (suc (length row)) (labels (linked g (2 * e) e)) row
    (lt-suc_self (length row)) dis_row uncrossed in
    let dis : Distinct (flat a.0) = assembled-Distinct row a.0 a.1 dis_row in
    let is : IsMapOf (2 * e) g (a.0 ++ rows) = IsMapOf-other (2 * e) g (copies ++ rows) is_g (a.0 ++ rows)
    (λ d h. subst (Has d) (sym (flat-append copies rows)) (⊎_elim
    (λ k. Has-append_left d (flat copies) (flat rows) (are.all d (item_assembled row a.0 d a.1 k)))
    (λ k. Has-append_right d (flat copies) (flat rows) k)
    (Has-append_cases d (flat a.0) (flat rows) (subst (Has d) (flat-append a.0 rows) h))))
    (λ d h. subst (Has d) (sym (flat-append a.0 rows)) (⊎_elim
    (λ k. Has-append_left d (flat a.0) (flat rows)
    (assembled_item row a.0 d a.1 (copies-Has row copies d are.turned k)))
    (λ k. Has-append_right d (flat a.0) (flat rows) k)
    (items d h)))
    (subst Distinct (sym (flat-append a.0 rows))
    (Distinct-append (flat a.0) (flat rows) dis (Distinct-append_right row (flat rows) is_f.once)
    (λ d h. Distinct-apart d row (flat rows) is_f.once (item_assembled row a.0 d a.1 h))))
    (Rings-append g a.0 rows (classes-Rings e g perm row split a.0 dis a.2)
    (Rings-append_right g copies rows is_g.rings)) in
    let h : Becomes e g (row ∷ rows) =
    assembled-Becomes e g row a.0 rows is (classes-AllApart e g perm row split a.0 dis a.2) a.1 in
    SameGenus-trans e g h.0 f h.2 (same_lists-SameGenus e h.0 f (row ∷ rows) h.1 is_f)
