-- The map of a rotation system with two poles in front, and the parts between them as branches.
use Rattle.std.proofs.Common.{◌≡◌, ◌≢◌, ℕ, ◌*◌, ◌%◌, ◌<◌, ◌⊎◌, Bool, true, false, not, eqb, List, ◌∷◌, ◌++◌, map, sym, refl, ap, ◌∙◌, subst, inl, inr, ⊎_elim, arith}
use Rattle.std.proofs.lemmas.Bool.{and_parts, cases_Bool, cases_eq, false≢true, ne_eqb, not-true, not_from_false}
use Rattle.std.proofs.lemmas.List.{map-append}
use Rattle.std.specs.List.{Contains, filter}
use Rattle.cp_lists.specs.CyclicLists.{Distinct, Has, but, follow}
use Rattle.cp_lists.specs.Rows.{flat}
use Rattle.cp_lists.proofs.DistinctLists.{Distinct-append, Has-append_cases, Has-append_left, Has-append_right, Has-but, Lacks-from, but-Distinct, but-Has, but-Lacks, but-Lacks_other, has_lacks, has_other}
use Rattle.cp_lists.proofs.FilteredLists.{Has-filter, filter-Distinct, filter-Has}
use Rattle.cp_orbits.specs.Connected.{Connected, here, step}
use Rattle.cp_faces.specs.Twins.{twin}
use Rattle.cp_faces.proofs.Twins.{twin_even}
use Rattle.cp_conn.specs.CutVertex.{avoids, without_vertex}
use Rattle.cp_conn.proofs.CutVertices.{kept_of, kept_pair}
use Rattle.cp_maps.specs.Genus.{OnePart}
use Rattle.cp_maps.specs.Maps.{IsMapOf, SameRings, next_by}
use Rattle.cp_maps.proofs.ListFacts.{Below-from}
use Rattle.cp_maps.proofs.MapLists.{IsMapOf-by}
use Rattle.cp_maps.proofs.NamedLists.{named_item}
use Rattle.cp_maps.proofs.NamedParts.{Connected-OnePart}
use Rattle.cp_maplaw.proofs.NamedRests.{named_some, not_equal}
use Rattle.cp_mergelaw.specs.Branches.{AreLinked, AreOfOneEdge, Branch}
use Rattle.cp_mergelaw.proofs.LinkedPoles.{OnePart-AreLinked}
use Rattle.cp_rot.specs.Genus.{end_pairs}
use Rattle.cp_rot.specs.Rewrites.{values}
use Rattle.cp_rot.specs.Systems.{IsRotation, System, darts, edges, list_of, next, vertex_of}
use Rattle.cp_rot.proofs.Functions.{next-follow}
use Rattle.cp_rot.proofs.ListSystems.{Listed, Listed-system}
use Rattle.cp_rot.proofs.Searches.{end_pair_at}
use Rattle.cp_rotlaw.specs.PoleClasses.{ArePoleParts, LeadsBetween, pairs_between}
use Rattle.cp_rotlaw.specs.StarParts.{star_row}
use Rattle.cp_rotlaw.specs.Stars.{IsDartOf}
use Rattle.cp_rotlaw.proofs.NamedMaps.{Has-numbers, named_lists-Distinct, numbers-Distinct, numbers-below, renamed-SameRings, rings_of_names}
use Rattle.cp_rotlaw.proofs.StarCode.{far_within}

-- the vertices but two
abbrev pub vertices_but : System → ℕ → ℕ → List ℕ
vertices_but r u v = but u (but v (values r.vertices (λ w. w)))

-- the vertices of one part, and those of the others
abbrev pub of_part : (ℕ → ℕ) → ℕ → List ℕ → List ℕ
of_part number c ws = filter (λ w. eqb (number w) c) ws

-- the vertices of the other parts
abbrev pub beside_part : (ℕ → ℕ) → ℕ → List ℕ → List ℕ
beside_part number c ws = filter (λ w. not (eqb (number w) c)) ws

-- the part of dart x of the one pole as a branch, with its darts at the other in the order that they have in ws
abbrev pub branch_of : System → ℕ → ℕ → (ℕ → ℕ) → (ℕ → ℕ) → List ℕ → ℕ → Branch
branch_of r u v number part ws x = record {
  head = x;
  tail = star_row part ws (part x);
  inner = map (list_of r) (of_part number (part x) (vertices_but r u v));
}

-- the map of a system with its lists in any order
pub IsMapOf-vertices : (r : System) → IsRotation r → (names : List ℕ) → Distinct names
    → ((w : ℕ) → Has w names → w < r.vertices) → ((w : ℕ) → w < r.vertices → Has w names)
    → IsMapOf (2 * edges r) (next r) (map (list_of r) names)
IsMapOf-vertices r is names once below all = record {
  once = named_lists-Distinct (vertex_of r) (list_of r) names once (λ w h. l.distinct w (below w h))
      (λ w d h k. (l.item w d (below w h) k).1);
  below = Below-from (2 * edges r) (flat (map (list_of r) names)) (λ d h.
      let o : (w : ℕ) × Has w names × Has d (list_of r w) = named_some (list_of r) names d h in
      subst (λ n. d < n) is.paired (l.item o.0 d (below o.0 o.1) o.2).0);
  rings = rings_of_names (vertex_of r) (list_of r) (next r) names (λ w h. record {
    distinct = l.distinct w (below w h);
    along = λ d k. let i = l.item w d (below w h) k in
        next-follow r is d i.0 ∙ ap (λ x. follow (list_of r x) d) i.1;
  });
  loose = λ d lt lacks.
      let ltd : d < darts r = subst (λ n. d < n) (sym is.paired) lt in
      absurd (has_lacks d (flat (map (list_of r) names))
      (named_item (list_of r) names (vertex_of r d) d (all (vertex_of r d) (is.placed d ltd)) (l.own d ltd)) lacks);
}
  where
    l : Listed r.vertices (darts r) (vertex_of r) (list_of r)
    l = Listed-system r is

-- a pair of the edges that touch neither pole
record Between (r : System) (u v : ℕ) (p : ℕ × ℕ) : Type 0 where
  pub dart : ℕ
  pub within : dart < darts r
  pub first : vertex_of r dart ≡ p.0
  pub second : vertex_of r (twin dart) ≡ p.1
  pub first_off : (p.0 ≢ u) × (p.0 ≢ v)
  pub second_off : (p.1 ≢ u) × (p.1 ≢ v)

-- what is not touched
avoids-parts : (v : ℕ) (p : ℕ × ℕ) → avoids v p ≡ true → (p.0 ≢ v) × (p.1 ≢ v)
avoids-parts v p t =
    let both = and_parts (not (eqb p.0 v)) (not (eqb p.1 v)) t in (not_equal p.0 v both.0, not_equal p.1 v both.1)

-- each pair between is that of the darts of an edge
between_pair : (r : System) (u v : ℕ) (p : ℕ × ℕ) → Contains (pairs_between r u v) p → Between r u v p
between_pair r u v p c =
    let a = kept_pair (avoids u) (without_vertex v (end_pairs r.at)) p c in
    let b = kept_pair (avoids v) (end_pairs r.at) p a.0 in
    let of_u = avoids-parts u p a.1 in
    let of_v = avoids-parts v p b.1 in
    let k : ℕ = b.0.0 in
    let e = end_pair_at r.at p k b.0.1 b.0.2 in
    let even : 2 * k % 2 ≡ 0 = omega arith in record {
      dart = 2 * k;
      within = omega (arith, e.0);
      first = e.1;
      second = ap (vertex_of r) (twin_even (2 * k) even) ∙ e.2;
      first_off = (of_u.0, of_v.0);
      second_off = (of_u.1, of_v.1);
    }

-- a rotation system with two poles and its parts
module _ (r : System) (is : IsRotation r) (u v : ℕ) (ltu : u < r.vertices) (ltv : v < r.vertices) (differ : u ≢ v)
    (number part : ℕ → ℕ) (parts : ArePoleParts r u v number part) where
  -- how many edges there are
  abbrev n : ℕ
  n = edges r

  -- the lists
  abbrev lists : ℕ → List ℕ
  lists = list_of r

  -- the vertices between
  abbrev others : List ℕ
  others = vertices_but r u v

  -- what the lists hold
  l : Listed r.vertices (darts r) (vertex_of r) (list_of r)
  l = Listed-system r is

  -- none stands twice
  pub others-Distinct : Distinct others
  others-Distinct =
      but-Distinct u (but v (values r.vertices (λ w. w)))
      (but-Distinct v (values r.vertices (λ w. w)) (numbers-Distinct r.vertices))

  -- a vertex that is neither pole is one of them
  pub others_have : (w : ℕ) → w < r.vertices → w ≢ u → w ≢ v → Has w others
  others_have w lt nu nv =
      but-Has u w (but v (values r.vertices (λ x. x))) nu
      (but-Has v w (values r.vertices (λ x. x)) nv (Has-numbers r.vertices w lt))

  -- and they are such
  pub others_are : (w : ℕ) → Has w others → (w < r.vertices) × (w ≢ u) × (w ≢ v)
  others_are w h =
      let k : Has w (but v (values r.vertices (λ x. x))) = Has-but u w (but v (values r.vertices (λ x. x))) h in (
        numbers-below r.vertices w (Has-but v w (values r.vertices (λ x. x)) k),
        has_other w u others h (but-Lacks u (but v (values r.vertices (λ x. x)))),
        has_other w v (but v (values r.vertices (λ x. x))) k (but-Lacks v (values r.vertices (λ x. x))),
      )

  -- a dart of such a vertex is of its part
  pub part_of_other : (w d : ℕ) → Has w others → Has d (lists w) → (d < darts r) × (vertex_of r d ≡ w)
      × (part d ≡ number w)
  part_of_other w d h k =
      let o = others_are w h in
      let i = l.item w d o.0 k in
      (i.0, i.1, parts.inner d i.0 (λ e. o.1 (sym i.1 ∙ e)) (λ e. o.2 (sym i.1 ∙ e)) ∙ ap number i.1)

  -- all vertices, the poles first
  abbrev poles_first : List ℕ
  poles_first = u ∷ v ∷ others

  -- none stands twice
  poles_first-Distinct : Distinct poles_first
  poles_first-Distinct = (
    (
      (λ e. differ (sym e)),
      but-Lacks u (but v (values r.vertices (λ w. w))),
    ),
    (
      but-Lacks_other u v (but v (values r.vertices (λ w. w))) (but-Lacks v (values r.vertices (λ w. w))),
      others-Distinct,
    ),
  )

  -- each is a vertex
  poles_first-below : (w : ℕ) → Has w poles_first → w < r.vertices
  poles_first-below w h = ⊎_elim
      (λ e. subst (λ x. x < r.vertices) e ltu)
      (λ k. ⊎_elim (λ e. subst (λ x. x < r.vertices) e ltv) (λ m. (others_are w m).0) k)
      h

  -- the map with the poles in front
  pub poles-IsMapOf : IsMapOf (2 * n) (next r) (lists u ∷ lists v ∷ map lists others)
  poles-IsMapOf = IsMapOf-vertices r is poles_first poles_first-Distinct poles_first-below
      (λ w lt. ⊎_elim (λ e. inl (sym e)) (λ nu. ⊎_elim (λ e. inr (inl (sym e)))
      (λ nv. inr (inr (others_have w lt nu nv))) (cases_eq w v)) (cases_eq w u))

  -- the vertices between, those that pass a test first
  module _ (p : ℕ → Bool) where
    -- those that pass
    abbrev passing : List ℕ
    passing = filter p others

    -- those that fail
    abbrev failing : List ℕ
    failing = filter (λ w. not (p w)) others

    -- a vertex between passes or fails
    divided : (w : ℕ) → Has w others → Has w (passing ++ failing)
    divided w h = ⊎_elim
        (λ t. Has-append_left w passing failing (Has-filter p w others h t))
        (λ f. Has-append_right w passing failing (Has-filter (λ x. not (p x)) w others h (not_from_false (p w) f)))
        (cases_Bool (p w))

    -- and the other way round
    undivided : (w : ℕ) → Has w (passing ++ failing) → Has w others
    undivided w h = ⊎_elim
        (λ k. (filter-Has p w others k).0)
        (λ k. (filter-Has (λ x. not (p x)) w others k).0)
        (Has-append_cases w passing failing h)

    -- none stands twice
    divided-Distinct : Distinct (passing ++ failing)
    divided-Distinct =
        Distinct-append passing failing (filter-Distinct p others others-Distinct)
        (filter-Distinct (λ x. not (p x)) others others-Distinct)
        (λ w h. Lacks-from w failing (λ k. false≢true
        (sym (not-true (p w) (filter-Has (λ x. not (p x)) w others k).1) ∙ (filter-Has p w others h).1)))

    -- the lists in this order
    pub tested-SameRings : SameRings (2 * n) (lists u ∷ lists v ∷ map lists others)
        (lists u ∷ lists v ∷ (map lists passing ++ map lists failing))
    tested-SameRings =
        subst (λ rows. SameRings (2 * n) (lists u ∷ lists v ∷ map lists others) (lists u ∷ lists v ∷ rows))
        (map-append lists passing failing)
        (renamed-SameRings (vertex_of r) lists (2 * n) poles_first (u ∷ v ∷ (passing ++ failing)) (
          (
            poles_first-Distinct.0.0,
            Lacks-from u (passing ++ failing)
                (λ h. (others_are u (undivided u h)).1 refl),
          ),
          (Lacks-from v (passing ++ failing) (λ h. (others_are v (undivided v h)).2 refl), divided-Distinct),
        )
        (λ w h. ⊎_elim inl (λ k. ⊎_elim (λ e. inr (inl e)) (λ m. inr (inr (divided w m))) k) h)
        (λ w h. ⊎_elim inl (λ k. ⊎_elim (λ e. inr (inl e)) (λ m. inr (inr (undivided w m))) k) h)
        (λ w d h k. (l.item w d (poles_first-below w h) k).1))

  -- the vertices of one part, and those beside it
  module _ (c : ℕ) where
    -- those of the part
    abbrev inside : List ℕ
    inside = of_part number c others

    -- the others
    abbrev outside : List ℕ
    outside = beside_part number c others

    -- a vertex that is not of the part
    outside_are : (w : ℕ) → Has w outside → Has w others × (number w ≢ c)
    outside_are w h =
        let k = filter-Has (λ x. not (eqb (number x) c)) w others h in (k.0, not_equal (number w) c k.1)

    -- is outside
    outside_have : (w : ℕ) → Has w others → number w ≢ c → Has w outside
    outside_have w h ne =
        Has-filter (λ x. not (eqb (number x) c)) w others h (not_from_false (eqb (number w) c) (ne_eqb (number w) c ne))

    -- the lists in this order
    divided-SameRings : SameRings (2 * n) (lists u ∷ lists v ∷ map lists others)
        (lists u ∷ lists v ∷ (map lists inside ++ map lists outside))
    divided-SameRings = tested-SameRings (λ w. eqb (number w) c)

    -- the map of the lists beside the part
    pub beside-IsMapOf : IsMapOf (2 * n) (next_by (map lists outside)) (map lists outside)
    beside-IsMapOf = IsMapOf-by (2 * n) (map lists outside)
        (named_lists-Distinct (vertex_of r) lists outside
        (filter-Distinct (λ x. not (eqb (number x) c)) others others-Distinct)
        (λ w h. l.distinct w (others_are w (outside_are w h).0).0)
        (λ w d h k. (l.item w d (others_are w (outside_are w h).0).0 k).1))
        (Below-from (2 * n) (flat (map lists outside)) (λ d h.
        let o : (w : ℕ) × Has w outside × Has d (lists w) = named_some lists outside d h in
        subst (λ m. d < m) is.paired (l.item o.0 d (others_are o.0 (outside_are o.0 o.1).0).0 o.2).0))

    -- the pairs of the other parts
    abbrev es : List (ℕ × ℕ)
    es = filter (λ p. not (eqb (number p.0) c)) (pairs_between r u v)

    -- both ends of a pair are of one part
    pair_part : (p : ℕ × ℕ) → Between r u v p → number p.0 ≡ number p.1
    pair_part p b =
        let far = far_within r is b.dart b.within in
        let one : part b.dart ≡ number p.0 =
        parts.inner b.dart b.within (λ e. b.first_off.0 (sym b.first ∙ e)) (λ e. b.first_off.1 (sym b.first ∙ e))
        ∙ ap number b.first in
        let two : part (twin b.dart) ≡ number p.1 =
        parts.inner (twin b.dart) far.0 (λ e. b.second_off.0 (sym b.second ∙ e))
        (λ e. b.second_off.1 (sym b.second ∙ e)) ∙ ap number b.second in
        sym one ∙ sym (parts.twins b.dart b.within) ∙ two

    -- a walk from a vertex of another part stays beside the part
    walk_beside : (x y : ℕ) → Connected (pairs_between r u v) x y → number x ≢ c
        → Connected es x y × (number y ≡ number x)
    walk_beside x y here ne = (here, refl)
    walk_beside x y (step {y = z} walk p cont joins) ne =
        let before : Connected es x z × (number z ≡ number x) = walk_beside x z walk ne in
        let same : number p.0 ≡ number p.1 = pair_part p (between_pair r u v p cont) in
        let first : number p.0 ≡ number x =
        ⊎_elim (λ j. ap number j.0 ∙ before.1) (λ j. same ∙ ap number j.1 ∙ before.1) joins in
        let last : number y ≡ number x =
        ⊎_elim (λ j. ap number (sym j.1) ∙ sym same ∙ first) (λ j. ap number (sym j.0) ∙ first) joins in
        let kept : not (eqb (number p.0) c) ≡ true =
        not_from_false (eqb (number p.0) c) (ne_eqb (number p.0) c (λ e. ne (sym first ∙ e))) in
        (step before.0 p (kept_of (λ q. not (eqb (number q.0) c)) (pairs_between r u v) p cont kept) joins, last)

    -- each pair of them is an edge between two vertices beside the part
    beside_edge : (p : ℕ × ℕ) → Contains es p
        → (x : ℕ) × Has p.0 outside × Has p.1 outside × Has x (lists p.0) × Has (twin x) (lists p.1)
    beside_edge p cont =
        let k = kept_pair (λ q. not (eqb (number q.0) c)) (pairs_between r u v) p cont in
        let b : Between r u v p = between_pair r u v p k.0 in
        let far = far_within r is b.dart b.within in
        let ne : number p.0 ≢ c = not_equal (number p.0) c k.1 in
        let lt0 : p.0 < r.vertices = subst (λ w. w < r.vertices) b.first (is.placed b.dart b.within) in
        let lt1 : p.1 < r.vertices = subst (λ w. w < r.vertices) b.second far.1 in (
          b.dart,
          outside_have p.0 (others_have p.0 lt0 b.first_off.0 b.first_off.1) ne,
          outside_have p.1 (others_have p.1 lt1 b.second_off.0 b.second_off.1) (λ e. ne (pair_part p b ∙ e)),
          subst (λ w. Has b.dart (lists w)) b.first (l.own b.dart b.within),
          subst (λ w. Has (twin b.dart) (lists w)) b.second (l.own (twin b.dart) far.0),
        )

    -- a dart that leads between the poles to another part leads to a vertex beside the part
    leads_beside : (d : ℕ) → d < darts r → LeadsBetween r u v d → part d ≢ c
        → Has (vertex_of r (twin d)) outside × Has (twin d) (lists (vertex_of r (twin d)))
        × (part d ≡ number (vertex_of r (twin d)))
    leads_beside d lt off ne =
        let far = far_within r is d lt in
        let same : part d ≡ number (vertex_of r (twin d)) = sym (parts.twins d lt)
        ∙ parts.inner (twin d) far.0 off.0 off.1 in (
          outside_have (vertex_of r (twin d)) (others_have (vertex_of r (twin d)) far.1 off.0 off.1)
              (λ e. ne (same ∙ e)),
          l.own (twin d) far.0,
          same,
        )

    -- two darts of another part at the poles link them beside the part
    pub poles_linked : (y q : ℕ) → IsDartOf r u y → IsDartOf r v q → part q ≡ part y → part y ≢ c
        → AreLinked n (lists u) (lists v) (map lists others) (map lists inside) y q
        ⊎ AreOfOneEdge n (lists u) (lists v) (map lists others) (map lists inside) y q
    poles_linked y q at_u at_v same ne = ⊎_elim
        (λ e. inr (record { others = map lists outside; beside = divided-SameRings; twins = e }))
        (λ k.
        let one = leads_beside y at_u.within k.0 ne in
        let two = leads_beside q at_v.within k.1 (λ e. ne (sym same ∙ e)) in
        let walk : Connected es (vertex_of r (twin y)) (vertex_of r (twin q)) =
        (walk_beside (vertex_of r (twin y)) (vertex_of r (twin q)) k.2 (λ e. ne (one.2 ∙ e))).0 in
        let linked : OnePart n (next_by (map lists outside)) (twin y) (twin q) =
        Connected-OnePart n (next_by (map lists outside)) lists outside es beside-IsMapOf
        (filter-Distinct (λ x. not (eqb (number x) c)) others others-Distinct) beside_edge (vertex_of r (twin y))
        (vertex_of r (twin q)) walk (twin y) (twin q) one.0 one.1 two.1 in
        inl (OnePart-AreLinked n (next_by (map lists outside)) (lists u) (lists v) (map lists others)
        (map lists inside) (map lists outside) y q divided-SameRings beside-IsMapOf
        (named_item lists outside (vertex_of r (twin y)) (twin y) one.0 one.1)
        (named_item lists outside (vertex_of r (twin q)) (twin q) two.0 two.1) linked))
        (parts.linked y q at_u at_v same)
