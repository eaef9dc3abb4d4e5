-- Two rotation systems side by side, as one map of darts.
use Rattle.std.proofs.Common.{◌≡◌, ℕ, ◌+◌, ◌-◌, ◌*◌, ◌<◌, ◌≢◌, cond, ltb, List, [], ◌∷◌, ◌++◌, map, sym, ap, ◌∙◌, subst, ⊎_elim, arith}
use Rattle.std.proofs.lemmas.Bool.{cases_lt, cond-true, cond-false, lt-ltb, le-ltb, false≢true}
use Rattle.cp_lists.specs.CyclicLists.{Distinct, Has, Lacks, follow}
use Rattle.cp_lists.specs.Rows.{flat}
use Rattle.cp_lists.proofs.DistinctLists.{Distinct-append, Has-append_cases, Has-append_left, Lacks-append_left, Lacks-append_right, Lacks-from, Has-append_right, has_lacks}
use Rattle.cp_lists.proofs.FlatLists.{flat-append, flat-map}
use Rattle.cp_lists.proofs.MappedLists.{Distinct-map_on, Has-map_on, follow-map_on, map_on-Has}
use Rattle.cp_orbits.specs.Classes.{labels}
use Rattle.cp_orbits.proofs.ClassLabels.{same_labels}
use Rattle.cp_orbits.proofs.OrbitLaws.{Respects-graph}
use Rattle.cp_maps.specs.Genus.{IsFlat, linked}
use Rattle.cp_maps.specs.Maps.{IsMapOf, Rings}
use Rattle.cp_maps.proofs.FlatMaps.{linked-from}
use Rattle.cp_maps.proofs.FlatUnions.{IsFlat-union}
use Rattle.cp_maps.proofs.ListFacts.{Below-from, below_item}
use Rattle.cp_maps.proofs.Rings.{Rings-agree, Rings-append}
use Rattle.cp_rot.specs.Genus.{HasGenusZero}
use Rattle.cp_rot.specs.Systems.{IsRotation, System, edges, next}
use Rattle.cp_rot.proofs.Functions.{Turns-system}
use Rattle.cp_rot.proofs.Rotations.{next_stands}
use Rattle.cp_maplaw.specs.Systems.{rows_of}
use Rattle.cp_maplaw.proofs.Systems.{IsMapOf-system, system_flat}

-- rings are rings under different names
rings_named : (f g j : ℕ → ℕ) (rows : List (List ℕ)) → ((c d : ℕ) → j c ≡ j d → c ≡ d)
    → ((d : ℕ) → Has d (flat rows) → g (j d) ≡ j (f d)) → Rings f rows → Rings g (map (map j) rows)
rings_named f g j [] apart same rings = tt
rings_named f g j (xs ∷ rows) apart same rings = (
  record {
    distinct = Distinct-map_on j xs (λ x y hx hy e. apart x y e) rings.0.distinct;
    along = λ d h. let w = map_on-Has j d xs h in
        ap g (sym w.2) ∙ same w.0 (Has-append_left w.0 xs (flat rows) w.1) ∙ ap j (rings.0.along w.0 w.1)
        ∙ sym (follow-map_on j w.0 xs (λ x hx e. apart x w.0 e) w.1) ∙ ap (follow (map j xs)) w.2;
  },
  rings_named f g j rows apart (λ d h. same d (Has-append_right d xs (flat rows) h)) rings.1,
)

module _ (a b : System) (is_a : IsRotation a) (is_b : IsRotation b) where
  -- the darts of b come behind those of a
  abbrev pub n : ℕ
  n = 2 * edges a

  -- all edges
  abbrev pub all : ℕ
  all = edges a + edges b

  -- the name of a dart of b
  abbrev pub name : ℕ → ℕ
  name d = n + d

  -- a dart of both is one of a or one of b
  either : (P : ℕ → Type 0) → ((d : ℕ) → d < n → P d) → ((d : ℕ) → d < 2 * edges b → P (n + d)) → (d : ℕ)
      → d < 2 * all → P d
  either P one two d lt =
      ⊎_elim (one d)
      (λ q. let whole : n + (d - n) ≡ d = omega arith in subst P whole (two (d - n) (omega arith))) (cases_lt d n)

  -- the dart behind a dart, side by side
  pub side : ℕ → ℕ
  side d = cond (ltb d n) (next a d) (n + next b (d - n))

  -- of a
  side_low : (d : ℕ) → d < n → side d ≡ next a d
  unfolding side
  side_low d lt = cond-true (ltb d n) (next a d) (n + next b (d - n)) (lt-ltb d n lt)

  -- of b
  side_high : (d : ℕ) → side (n + d) ≡ n + next b d
  unfolding side
  side_high d =
      let off : n + d - n ≡ d = omega arith in
      cond-false (ltb (n + d) n) (next a (n + d)) (n + next b (n + d - n)) (le-ltb (n + d) n (omega arith))
      ∙ ap (λ (y : ℕ). n + next b y) off

  -- side by side they are flat
  pub side-IsFlat : HasGenusZero a → HasGenusZero b → IsFlat all side
  side-IsFlat zero_a zero_b =
      IsFlat-union (edges a) (edges b) (next a) (next b) side (Turns-system a is_a).permutes
      (Turns-system b is_b).permutes side_low (λ d lt. side_high d) ((system_flat a is_a).0 zero_a)
      ((system_flat b is_b).0 zero_b)

  -- a dart of a and one of b lie in different parts
  pub apart_sides : (x y : ℕ) → x < n
      → labels (linked side (2 * all) all) x ≢ labels (linked side (2 * all) all) (n + y)
  apart_sides x y lt same =
      let keeps : ltb x n ≡ ltb (n + y) n = same_labels (λ d. ltb d n) (linked side (2 * all) all) x (n + y)
      (linked-from (λ d. ltb d n) side (2 * all) all
      (Respects-graph (λ d. ltb d n) side (2 * all) (either (λ d. ltb d n ≡ ltb (side d) n)
      (λ d l. lt-ltb d n l ∙ sym (ap (λ z. ltb z n) (side_low d l)
      ∙ lt-ltb (next a d) n (omega (arith, (next_stands a is_a d (omega (arith, is_a.paired))).0, is_a.paired))))
      (λ d l. le-ltb (n + d) n (omega arith)
      ∙ sym (ap (λ z. ltb z n) (side_high d) ∙ le-ltb (n + next b d) n (omega arith)))))
      (λ i l. ⊎_elim
      (λ below. lt-ltb (2 * i) n (omega arith) ∙ sym (lt-ltb (2 * i + 1) n (omega arith)))
      (λ above. le-ltb (2 * i) n (omega arith) ∙ sym (le-ltb (2 * i + 1) n (omega arith)))
      (cases_lt i (edges a)))) same in
      false≢true (sym (le-ltb (n + y) n (omega arith)) ∙ sym keeps ∙ lt-ltb x n lt)

  -- the lists of b under their names
  abbrev pub lists_b : List (List ℕ)
  lists_b = map (map name) (rows_of b)

  -- side by side they have the lists of both
  pub side-IsMapOf : IsMapOf (2 * all) side (lists_b ++ rows_of a)
  side-IsMapOf = record {
    once = subst Distinct (sym (flat-append lists_b (rows_of a)))
        (Distinct-append (flat lists_b) (flat (rows_of a))
        (subst Distinct (sym (flat-map name (rows_of b)))
        (Distinct-map_on name (flat (rows_of b)) (λ x y hx hy e. omega (arith, e)) map_b.once)) map_a.once
        (λ d h. Lacks-from d (flat (rows_of a)) (λ k. omega (arith, (high d h).2, low d k))));
    below = Below-from (2 * all) (flat (lists_b ++ rows_of a)) (λ d h. ⊎_elim
        (λ k. omega (arith, (high d k).1, (high d k).2))
        (λ k. omega (arith, low d k))
        (Has-append_cases d (flat lists_b) (flat (rows_of a)) (subst (Has d) (flat-append lists_b (rows_of a)) h)));
    rings = Rings-append side lists_b (rows_of a)
        (rings_named (next b) side name (rows_of b) (λ c d e. omega (arith, e)) (λ d h. side_high d) map_b.rings)
        (Rings-agree (next a) side (rows_of a) (λ d h. sym (side_low d (low d h))) map_a.rings);
    loose = λ d lt l. either (λ y. Lacks y (flat lists_b ++ flat (rows_of a)) → side y ≡ y)
        (λ y ly k. side_low y ly ∙ map_a.loose y ly (Lacks-append_right y (flat lists_b) (flat (rows_of a)) k))
        (λ y ly k. side_high y ∙ ap name (map_b.loose y ly (Lacks-from y (flat (rows_of b))
        (λ h. has_lacks (name y) (flat lists_b)
        (subst (Has (name y)) (sym (flat-map name (rows_of b))) (Has-map_on name y (flat (rows_of b)) h))
        (Lacks-append_left (name y) (flat lists_b) (flat (rows_of a)) k)))))
        d lt (subst (Lacks d) (flat-append lists_b (rows_of a)) l);
  }
    where
      map_a : IsMapOf n (next a) (rows_of a)
      map_a = IsMapOf-system a is_a

      map_b : IsMapOf (2 * edges b) (next b) (rows_of b)
      map_b = IsMapOf-system b is_b

      low : (d : ℕ) → Has d (flat (rows_of a)) → d < n
      low d h = below_item n d (flat (rows_of a)) map_a.below h

      high : (d : ℕ) → Has d (flat lists_b) → (y : ℕ) × (y < 2 * edges b) × (n + y ≡ d)
      high d h =
          let m = map_on-Has name d (flat (rows_of b)) (subst (Has d) (flat-map name (rows_of b)) h) in
          (m.0, below_item (2 * edges b) m.0 (flat (rows_of b)) map_b.below m.1, m.2)
