-- A flat map whose lists are divided into copies that are in different components stays flat.
use Rattle.std.proofs.Common.{◌≡◌, ℕ, ◌<◌, true, eqb, List, [], ◌∷◌, sym, ap, ◌∙◌, subst, ⊎_elim, ◌*◌, Bool, arith, map}
use Rattle.std.proofs.lemmas.Bool.{eq-eqb, ne_eqb, false≢true, cond-true, cond-false, eqb-true, cases_Bool}
use Rattle.std.specs.List.{filter}
use Rattle.cp_lists.specs.CyclicLists.{Distinct, Has, Lacks, follow}
use Rattle.cp_lists.specs.Rows.{flat}
use Rattle.cp_lists.specs.Turns.{IsTurn}
use Rattle.cp_lists.proofs.DistinctLists.{Distinct-append_left, Distinct-append_right, Has-append_cases, Has-append_left, Has-append_right, Lacks-from, has_cases, has_lacks}
use Rattle.cp_lists.proofs.FilteredLists.{Has-filter, filter-Distinct, filter-Has, filter_agree}
use Rattle.cp_lists.proofs.FlatLists.{flat-append, flat-filter}
use Rattle.cp_lists.proofs.TurnedLists.{Has-of_turn, turn-follow}
use Rattle.cp_orbits.specs.Classes.{labels}
use Rattle.cp_orbits.specs.Orbits.{Permutes}
use Rattle.cp_orbits.proofs.ClassLabels.{labels-le, labels-respects}
use Rattle.cp_orbits.proofs.OrbitLaws.{graph-respects}
use Rattle.cp_faces.specs.Twins.{twin}
use Rattle.cp_maps.specs.Genus.{AllApart, CanBeFlat, IsFlat, OnePart, in_part, linked}
use Rattle.cp_maps.specs.Gluings.{AreCopiesOf, AreDivided, AreSplitBy, EachTurnOf, all_copies}
use Rattle.cp_maps.specs.Maps.{IsMapOf, Ring, Rings, has, only}
use Rattle.cp_maps.proofs.DividedMaps.{classes-IsFlat}
use Rattle.cp_maps.proofs.Edges.{twin-OnePart}
use Rattle.cp_maps.proofs.FlatMaps.{IsFlat-agree, linked-graph}
use Rattle.cp_maps.proofs.KeptDarts.{kept_darts-CanBeFlat}
use Rattle.cp_maps.proofs.ListFacts.{below_item, has_no, has_yes}
use Rattle.cp_maps.proofs.MapLists.{IsMapOf-Permutes}
use Rattle.cp_maps.proofs.Parts.{Ring-OnePart}
use Rattle.cp_maps.proofs.Rings.{Rings-append_left, Rings-append_right}

-- an item of filtered lists is one of the lists that passes
flat_filter-Has : (p : ℕ → Bool) (rows : List (List ℕ)) (d : ℕ) → Has d (flat (map (filter p) rows))
    → Has d (flat rows) × (p d ≡ true)
flat_filter-Has p rows d h = filter-Has p d (flat rows) (subst (Has d) (flat-filter p rows) h)

-- the darts of one class have the same dart behind them in the lists restricted to it
class_alone : (class g h : ℕ → ℕ) (c : ℕ) (rows : List (List ℕ)) (d : ℕ) → AreSplitBy class g rows
    → Rings h (map (filter (λ y. eqb (class y) c)) rows) → Has d (flat rows) → eqb (class d) c ≡ true → h d ≡ g d
class_alone class g h c [] d split rings inside t = absurd inside
class_alone class g h c (xs ∷ rows) d split rings inside t = ⊎_elim
    (λ k. rings.0.along d (Has-filter (λ y. eqb (class y) c) d xs k t)
    ∙ ap (λ b. follow (filter (λ y. eqb (class y) b) xs) d) (sym (eqb-true (class d) c t)) ∙ sym (split.0 d k))
    (λ k. class_alone class g h c rows d split.1 rings.1 k t)
    (Has-append_cases d xs (flat rows) inside)

-- a map whose darts lead to the next of their class in lists, where each class of these can be flat, is flat
pub split_classes-IsFlat : (e : ℕ) (g class : ℕ → ℕ) (rows : List (List ℕ)) → Permutes (2 * e) g
    → ((d : ℕ) → d < 2 * e → class d < 2 * e) → ((d : ℕ) → d < 2 * e → class (twin d) ≡ class d)
    → ((d : ℕ) → d < 2 * e → class (g d) ≡ class d) → AreSplitBy class g rows
    → ((d : ℕ) → d < 2 * e → Lacks d (flat rows) → g d ≡ d)
    → ((c : ℕ) → c < 2 * e → CanBeFlat e (map (filter (λ y. eqb (class y) c)) rows)) → IsFlat e g
split_classes-IsFlat e g class rows perm bound twins kept split loose each =
    classes-IsFlat e g class perm bound twins kept (λ c lt.
    let h : CanBeFlat e (map (filter (λ y. eqb (class y) c)) rows) = each c lt in
    let none : (d : ℕ) → d < 2 * e → (Has d (flat rows) → eqb (class d) c ≡ true → ⊥)
    → h.0 d ≡ d =
    λ d ltd no. h.1.loose d ltd (Lacks-from d (flat (map (filter (λ y. eqb (class y) c)) rows))
    (λ k. let w = flat_filter-Has (λ y. eqb (class y) c) rows d k in no w.0 w.1)) in
    IsFlat-agree e h.0 (only (λ d. eqb (class d) c) g)
    (IsMapOf-Permutes (2 * e) h.0 (map (filter (λ y. eqb (class y) c)) rows) h.1)
    (λ d ltd. ⊎_elim
    (λ t. ⊎_elim
    (λ k. class_alone class g h.0 c rows d split h.1.rings k t)
    (λ l. none d ltd (λ k s. has_lacks d (flat rows) k l) ∙ sym (loose d ltd l))
    (has_cases d (flat rows)) ∙ sym (cond-true (eqb (class d) c) (g d) d t))
    (λ u. none d ltd (λ k s. false≢true (sym u ∙ s)) ∙ sym (cond-false (eqb (class d) c) (g d) d u))
    (cases_Bool (eqb (class d) c))) h.2)

-- where each dart of a flat map leads to the next of its component, the map is flat
pub split_parts-IsFlat : (e : ℕ) (f g : ℕ → ℕ) (rows : List (List ℕ)) → IsMapOf (2 * e) f rows → IsFlat e f
    → Permutes (2 * e) g → AreSplitBy (labels (linked g (2 * e) e)) g rows
    → ((d : ℕ) → d < 2 * e → Lacks d (flat rows) → g d ≡ d) → IsFlat e g
split_parts-IsFlat e f g rows is z perm split loose = split_classes-IsFlat e g (labels (linked g (2 * e) e)) rows perm
    (λ d lt. omega (arith, labels-le (linked g (2 * e) e) d))
    (λ d lt. twin-OnePart e g perm d lt)
    (λ d lt. sym (graph-respects (labels (linked g (2 * e) e)) g (2 * e) d
    (linked-graph (labels (linked g (2 * e) e)) g (2 * e) e (labels-respects (linked g (2 * e) e))) lt))
    split loose
    (λ c lt. kept_darts-CanBeFlat e f rows is z (in_part e g c))

-- the copy that has a dart, among copies of one list that are in different components
pub own_copy : (e : ℕ) (g : ℕ → ℕ) (xs : List ℕ) (copies : List (List ℕ)) (d : ℕ) → EachTurnOf xs copies
    → AllApart e g copies → Rings g copies → Has d (flat copies)
    → (ys : List ℕ) × Has d ys × IsTurn (filter (λ y. has y ys) xs) ys × Ring g ys
    × ((y : ℕ) → Has y (flat copies) → OnePart e g y d → Has y ys) × ((y : ℕ) → Has y ys → Has y (flat copies))
own_copy e g xs [] d turned apart rings h = absurd h
own_copy e g xs (zs ∷ copies) d turned apart rings h = ⊎_elim
    (λ k. (
      zs,
      k,
      turned.0,
      rings.0,
      (λ y hy one. ⊎_elim (λ l. l) (λ l. absurd (apart.0 d y k l (sym one))) (Has-append_cases y zs (flat copies) hy)),
      (λ y l. Has-append_left y zs (flat copies) l),
    ))
    (λ k. let w = own_copy e g xs copies d turned.1 apart.1 rings.1 k in (
      w.0,
      w.1,
      w.2,
      w.3,
      (λ y hy one. ⊎_elim (λ l. absurd (apart.0 y d l k one)) (λ l. w.4 y l one)
          (Has-append_cases y zs (flat copies) hy)),
      (λ y l. Has-append_right y zs (flat copies) (w.5 y l)),
    ))
    (Has-append_cases d zs (flat copies) h)

-- each item of a copy is one of the list
pub copies-Has : (xs : List ℕ) (copies : List (List ℕ)) (d : ℕ) → EachTurnOf xs copies → Has d (flat copies) → Has d xs
copies-Has xs [] d turned h = absurd h
copies-Has xs (ys ∷ copies) d turned h = ⊎_elim
    (λ k. (filter-Has (λ y. has y ys) d xs (Has-of_turn (filter (λ y. has y ys) xs) ys d turned.0 k)).0)
    (λ k. copies-Has xs copies d turned.1 k)
    (Has-append_cases d ys (flat copies) h)

-- and of all lists
all_copies-Has : (e : ℕ) (g : ℕ → ℕ) (groups : List (List ℕ × List (List ℕ))) (d : ℕ) → AreDivided e g groups
    → Has d (flat (all_copies groups)) → Has d (flat (map (λ x. x.0) groups))
all_copies-Has e g [] d divided h = absurd h
all_copies-Has e g (x ∷ groups) d divided h = ⊎_elim
    (λ k. Has-append_left d x.0 (flat (map (λ y. y.0) groups)) (copies-Has x.0 x.1 d divided.0.0.turned k))
    (λ k. Has-append_right d x.0 (flat (map (λ y. y.0) groups)) (all_copies-Has e g groups d divided.1 k))
    (Has-append_cases d (flat x.1) (flat (all_copies groups)) (subst (Has d) (flat-append x.1 (all_copies groups)) h))

-- a map whose lists are copies
module _ (e : ℕ) (g : ℕ → ℕ) (perm : Permutes (2 * e) g) where
  -- in copies of one list each dart leads to the next one of its component
  pub copies-split : (xs : List ℕ) (copies : List (List ℕ)) (d : ℕ) → Distinct xs → AreCopiesOf xs copies
      → AllApart e g copies → Rings g copies → ((y : ℕ) → Has y (flat copies) → y < 2 * e) → Has d xs
      → g d ≡ follow (filter (in_part e g (labels (linked g (2 * e) e) d)) xs) d
  copies-split xs copies d dis are apart rings below h =
      let w = own_copy e g xs copies d are.turned apart rings (are.all d h) in
      let kept : Has d (filter (λ y. has y w.0) xs) = Has-filter (λ y. has y w.0) d xs h (has_yes d w.0 w.1) in
      w.3.along d w.1 ∙ turn-follow (filter (λ y. has y w.0) xs) w.0 d
      (filter-Distinct (λ y. has y w.0) xs dis) w.2 kept
      ∙ ap (λ zs. follow zs d) (filter_agree (λ y. has y w.0) (in_part e g (labels (linked g (2 * e) e) d)) xs
      (λ y hy. ⊎_elim
      (λ k. has_yes y w.0 k ∙ sym (eq-eqb (labels (linked g (2 * e) e) y) (labels (linked g (2 * e) e) d)
      (Ring-OnePart e g perm w.0 w.3 (λ z l. below z (w.5 z l)) y d k w.1)))
      (λ l. has_no y w.0 l ∙ sym (ne_eqb (labels (linked g (2 * e) e) y) (labels (linked g (2 * e) e) d)
      (λ one. has_lacks y w.0 (w.4 y (are.all y hy) one) l)))
      (has_cases y w.0)))

  -- in copies of several lists
  all_copies-split : (groups : List (List ℕ × List (List ℕ))) → Distinct (flat (map (λ x. x.0) groups))
      → AreDivided e g groups → Rings g (all_copies groups) → ((y : ℕ) → Has y (flat (all_copies groups)) → y < 2 * e)
      → AreSplitBy (labels (linked g (2 * e) e)) g (map (λ x. x.0) groups)
  all_copies-split [] dis divided rings below = tt
  all_copies-split (x ∷ groups) dis divided rings below = (
    λ d h. copies-split x.0 x.1 d
        (Distinct-append_left x.0 (flat (map (λ y. y.0) groups)) dis) divided.0.0 divided.0.1
        (Rings-append_left g x.1 (all_copies groups) rings)
        (λ y k. below y (subst (Has y) (sym (flat-append x.1 (all_copies groups)))
        (Has-append_left y (flat x.1) (flat (all_copies groups)) k))) h,
    all_copies-split groups (Distinct-append_right x.0 (flat (map (λ y. y.0) groups)) dis) divided.1
        (Rings-append_right g x.1 (all_copies groups) rings)
        (λ y k. below y (subst (Has y) (sym (flat-append x.1 (all_copies groups)))
        (Has-append_right y (flat x.1) (flat (all_copies groups)) k))),
  )

-- a flat map whose lists are divided into copies, those of one list all in different components, stays flat
pub copies-IsFlat : (e : ℕ) (f g : ℕ → ℕ) (groups : List (List ℕ × List (List ℕ)))
    → IsMapOf (2 * e) f (map (λ x. x.0) groups) → IsFlat e f → IsMapOf (2 * e) g (all_copies groups)
    → AreDivided e g groups → IsFlat e g
copies-IsFlat e f g groups is z is_g divided =
    split_parts-IsFlat e f g (map (λ x. x.0) groups) is z (IsMapOf-Permutes (2 * e) g (all_copies groups) is_g)
    (all_copies-split e g (IsMapOf-Permutes (2 * e) g (all_copies groups) is_g) groups is.once divided is_g.rings
    (λ y k. below_item (2 * e) y (flat (all_copies groups)) is_g.below k))
    (λ d lt l. is_g.loose d lt (Lacks-from d (flat (all_copies groups))
    (λ h. has_lacks d (flat (map (λ x. x.0) groups)) (all_copies-Has e g groups d divided h) l)))
