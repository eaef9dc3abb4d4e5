-- One more vertex of a side merged: at a corner of a vertex of the other side, or of another component.
use Rattle.std.proofs.Common.{◌≡◌, ℕ, zero, suc, ◌*◌, ◌<◌, Bool, true, false, not, cond, List, [], ◌∷◌, ◌++◌, length, map, set, slice_index, slice_index_or, sym, refl, ap, ◌∙◌, subst, inl, inr, ⊎_elim}
use Rattle.std.proofs.lemmas.Bool.{cases_Bool, cond-false, cond-true, false≢true, not-true, not_from_false}
use Rattle.std.proofs.lemmas.List.{map-append}
use Rattle.std.specs.Fn.{iterate}
use Rattle.std.specs.List.{filter}
use Rattle.cp_lists.specs.CyclicLists.{Distinct, Has, Lacks, but, follow}
use Rattle.cp_lists.proofs.CyclicLists.{follow-Has}
use Rattle.cp_lists.proofs.DistinctLists.{Distinct-append, Has-append_left, Has-append_right, Has-but, Has-split, Lacks-from, but-Distinct, but-Has, but-append, but_lacks, but_middle}
use Rattle.cp_lists.proofs.FilteredLists.{Has-filter, filter-Distinct, filter-Has}
use Rattle.cp_lists.proofs.TurnedLists.{turn-refl}
use Rattle.cp_orbits.proofs.ListOrbits.{follow-reaches}
use Rattle.cp_faces.specs.Twins.{twin}
use Rattle.cp_faces.proofs.Twins.{twin-twin}
use Rattle.cp_maps.specs.Genus.{Apart, Becomes, Evenly}
use Rattle.cp_maps.specs.Maps.{IsMapOf}
use Rattle.cp_maps.proofs.GluedVertices.{concatenated-Becomes}
use Rattle.cp_maps.proofs.Growth.{Evenly-append}
use Rattle.cp_maps.proofs.MapLists.{IsMapOf-among, IsMapOf-front, IsMapOf-swap, IsMapOf-third}
use Rattle.cp_maps.proofs.NamedLists.{second_named_front}
use Rattle.cp_maps.proofs.Parts.{Evenly-two_parts}
use Rattle.cp_rot.specs.Rewrites.{values}
use Rattle.cp_rot.specs.Systems.{IsRotation, System, darts, edges, list_of, next, vertex_of}
use Rattle.cp_rot.specs.Tables.{IsMarked}
use Rattle.cp_rot.proofs.Functions.{next-follow}
use Rattle.cp_rot.proofs.ListSystems.{Listed, Listed-system}
use Rattle.cp_rot.proofs.Rotations.{next_stands}
use Rattle.cp_rotlaw.specs.SideOrders.{IsSideOf, in_side}
use Rattle.cp_rotlaw.specs.SideStates.{IsMerging, other_rows, turned_at, vertices_left}
use Rattle.cp_rotlaw.proofs.NamedMaps.{Has-numbers, numbers-Distinct, numbers-below}
use Rattle.cp_rotlaw.proofs.SideMerging.{IsMerging-more, left-Distinct, left_are, left_have}
use Rattle.cp_rotlaw.proofs.SideSteps.{corner-Becomes, turned_at-IsTurn}
use Rattle.cp_rotlaw.proofs.StarCode.{far_within}

-- the list of a name taken in front of two others
third_named_front : (n : ℕ) (f : ℕ → ℕ) (lists : ℕ → List ℕ) (u : ℕ) (ys zs : List ℕ) (names : List ℕ)
    → Distinct names → Has u names → IsMapOf n f (ys ∷ zs ∷ map lists names)
    → IsMapOf n f (lists u ∷ ys ∷ zs ∷ map lists (but u names))
third_named_front n f lists u ys zs names dis h is =
    let s : (us : List ℕ) × (vs : List ℕ) × (names ≡ us ++ u ∷ vs) × Lacks u us = Has-split u names h in
    let rest : but u names ≡ s.0 ++ s.1 = ap (but u) s.2 ∙ but_middle u s.0 s.1 (subst Distinct s.2 dis) in
    subst (λ ns. IsMapOf n f (lists u ∷ ys ∷ zs ∷ map lists ns)) (sym rest)
    (subst (λ rows. IsMapOf n f (lists u ∷ ys ∷ zs ∷ rows)) (sym (map-append lists s.0 s.1))
    (IsMapOf-front n f (lists u) (ys ∷ zs ∷ map lists s.0) (map lists s.1)
    (subst (λ rows. IsMapOf n f (ys ∷ zs ∷ rows)) (ap (map lists) s.2 ∙ map-append lists s.0 (u ∷ s.1)) is)))

-- the list of a name put back behind another
second_named_back : (n : ℕ) (f : ℕ → ℕ) (lists : ℕ → List ℕ) (u : ℕ) (ys : List ℕ) (names : List ℕ)
    → Distinct names → Has u names → IsMapOf n f (ys ∷ lists u ∷ map lists (but u names))
    → IsMapOf n f (ys ∷ map lists names)
second_named_back n f lists u ys names dis h is =
    let s : (us : List ℕ) × (vs : List ℕ) × (names ≡ us ++ u ∷ vs) × Lacks u us = Has-split u names h in
    let rest : but u names ≡ s.0 ++ s.1 = ap (but u) s.2 ∙ but_middle u s.0 s.1 (subst Distinct s.2 dis) in
    subst (λ rows. IsMapOf n f (ys ∷ rows)) (sym (ap (map lists) s.2 ∙ map-append lists s.0 (u ∷ s.1)))
    (IsMapOf-among n f (lists u) (ys ∷ map lists s.0) (map lists s.1)
    (subst (λ rows. IsMapOf n f (lists u ∷ ys ∷ rows)) (map-append lists s.0 s.1)
    (subst (λ ns. IsMapOf n f (lists u ∷ ys ∷ map lists ns)) rest
    (IsMapOf-swap n f ys (lists u) (map lists (but u names)) is))))

-- a test with one value on each list of a name
named-Evenly : (p : ℕ → Bool) (lists : ℕ → List ℕ) (names : List ℕ)
    → ((w : ℕ) → Has w names → (c d : ℕ) → Has c (lists w) → Has d (lists w) → p c ≡ p d) → Evenly p (map lists names)
named-Evenly p lists [] each = tt
named-Evenly p lists (w ∷ names) each = (each w (inl refl), named-Evenly p lists names (λ x h. each x (inr h)))

-- what holds on from each item to the next holds of all where it holds of one
spreads : (p : ℕ → Bool) (xs : List ℕ) → Distinct xs
    → ((x : ℕ) → Has x xs → p x ≡ true → p (follow xs x) ≡ true) → (c d : ℕ) → Has c xs → Has d xs → p c ≡ p d
spreads p xs dis on c d hc hd = ⊎_elim
    (λ t. t ∙ sym (reach c d hc hd t))
    (λ f. ⊎_elim (λ t. absurd (false≢true (sym f ∙ reach d c hd hc t))) (λ g. f ∙ sym g) (cases_Bool (p d)))
    (cases_Bool (p c))
  where
    along : (k : ℕ) (x : ℕ) → Has x xs → p x ≡ true
        → Has (iterate (follow xs) k x) xs × (p (iterate (follow xs) k x) ≡ true)
    along zero x h t = (h, t)
    along (suc k) x h t = along k (follow xs x) (follow-Has x xs h) (on x h t)

    reach : (x y : ℕ) → Has x xs → Has y xs → p x ≡ true → p y ≡ true
    reach x y hx hy t =
        let k = follow-reaches xs x y dis hx hy in subst (λ z. p z ≡ true) k.1 (along k.0 x hx t).1

-- a side of which some vertices are merged
module _ (r : System) (is : IsRotation r) (side : List Bool) (sides : IsSideOf r side) (merged : List Bool)
    (first : List ℕ) (m : IsMerging r side merged first) where
  -- the lists
  abbrev lists : ℕ → List ℕ
  lists = list_of r

  -- the vertices that are left
  abbrev left : List ℕ
  left = vertices_left r side merged

  -- those of the other side
  abbrev other_names : List ℕ
  other_names = filter (λ v. not (in_side side v)) (values r.vertices (λ v. v))

  -- the map
  abbrev g : ℕ → ℕ
  g = m.becomes.0

  -- the number of darts
  abbrev n : ℕ
  n = 2 * edges r

  -- the lists of the system have the darts of their vertices
  l : Listed r.vertices (darts r) (vertex_of r) (list_of r)
  l = Listed-system r is

  -- a vertex of the other side
  other_are : (v : ℕ) → Has v other_names → (v < r.vertices) × (in_side side v ≡ false)
  other_are v h =
      let k = filter-Has (λ x. not (in_side side x)) v (values r.vertices (λ x. x)) h in
      (numbers-below r.vertices v k.0, not-true (in_side side v) k.1)

  -- a vertex that is left is none of these
  apart_names : (w : ℕ) → Has w left → Lacks w other_names
  apart_names w h = Lacks-from w other_names (λ k.
      false≢true (sym (other_are w k).1 ∙ (left_are r is side sides merged w h).1))

  -- all of them, none twice
  names-Distinct : Distinct (left ++ other_names)
  names-Distinct = Distinct-append left other_names (left-Distinct r is side sides merged)
      (filter-Distinct (λ v. not (in_side side v)) (values r.vertices (λ v. v)) (numbers-Distinct r.vertices))
      apart_names

  -- the map with the lists of these
  names-IsMapOf : IsMapOf n g (first ∷ map lists (left ++ other_names))
  names-IsMapOf =
      subst (λ rows. IsMapOf n g (first ∷ rows)) (sym (map-append lists left other_names)) m.becomes.1

  -- a vertex that is left taken away
  less_names : (w : ℕ) → Has w left → but w (left ++ other_names) ≡ but w left ++ other_names
  less_names w h = but-append w left other_names
      ∙ ap (λ xs. but w left ++ xs) (but_lacks w other_names (apart_names w h))

  -- with its list behind the first
  second-IsMapOf : (w : ℕ) → Has w left → IsMapOf n g (first ∷ lists w ∷ map lists (but w (left ++ other_names)))
  second-IsMapOf w h =
      IsMapOf-swap n g (lists w) first (map lists (but w (left ++ other_names)))
      (second_named_front n g lists w first (left ++ other_names) names-Distinct
      (Has-append_left w left other_names h) names-IsMapOf)

  -- the side end of a dart is merged
  abbrev is_merged : ℕ → Bool
  is_merged d = slice_index_or merged (cond (in_side side (vertex_of r d)) (vertex_of r d) (vertex_of r (twin d))) false

  -- of a dart of the side
  merged_side : (d : ℕ) → in_side side (vertex_of r d) ≡ true
      → is_merged d ≡ slice_index_or merged (vertex_of r d) false
  merged_side d t = ap (λ w. slice_index_or merged w false)
      (cond-true (in_side side (vertex_of r d)) (vertex_of r d) (vertex_of r (twin d)) t)

  -- of another dart
  merged_other : (d : ℕ) → in_side side (vertex_of r d) ≡ false
      → is_merged d ≡ slice_index_or merged (vertex_of r (twin d)) false
  merged_other d f = ap (λ w. slice_index_or merged w false)
      (cond-false (in_side side (vertex_of r d)) (vertex_of r d) (vertex_of r (twin d)) f)

  -- where two darts follow each other in a list of the other side, and the first alone leads to a merged vertex, the
  -- vertex to which the second leads can be merged
  pub corner-IsMerging : (x i j : ℕ) → x < darts r → in_side side (vertex_of r x) ≡ false
      → IsMarked merged (vertex_of r (twin x))
      → slice_index_or merged (vertex_of r (twin (next r x))) false ≡ false
      → i < length first → slice_index first i ≡ twin x
      → j < length (list_of r (vertex_of r (twin (next r x))))
      → slice_index (list_of r (vertex_of r (twin (next r x)))) j ≡ twin (next r x)
      → IsMerging r side (set merged (vertex_of r (twin (next r x))) true)
      (turned_at i first ++ turned_at (suc j) (list_of r (vertex_of r (twin (next r x)))))
  corner-IsMerging x i j ltx out one two lti at_i ltj at_j =
      IsMerging-more r is side sides merged first m w w_left (turned_at i first) (turned_at (suc j) (lists w))
      (turned_at-IsTurn i first) (turned_at-IsTurn (suc j) (lists w)) (b.0, put_back, b.2)
    where
      y : ℕ
      y = next r x

      v : ℕ
      v = vertex_of r x

      w : ℕ
      w = vertex_of r (twin y)

      at_y : (y < darts r) × (vertex_of r y ≡ v)
      at_y = next_stands r is x ltx

      far : (twin y < darts r) × (w < r.vertices)
      far = far_within r is y at_y.0

      w_left : Has w left
      w_left = left_have r is side sides merged w far.1
          (sides.across y at_y.0 ∙ ap not (ap (in_side side) at_y.1 ∙ out)) two

      v_other : Has v other_names
      v_other = Has-filter (λ z. not (in_side side z)) v (values r.vertices (λ z. z))
          (Has-numbers r.vertices v (is.placed x ltx)) (not_from_false (in_side side v) out)

      rest : List ℕ
      rest = but w (left ++ other_names)

      rest-Distinct : Distinct rest
      rest-Distinct = but-Distinct w (left ++ other_names) names-Distinct

      v_rest : Has v rest
      v_rest = but-Has w v (left ++ other_names)
          (λ e. false≢true (sym (ap (in_side side) (sym e) ∙ out) ∙ (left_are r is side sides merged w w_left).1))
          (Has-append_right v left other_names v_other)

      three : IsMapOf n g (first ∷ lists w ∷ lists v ∷ map lists (but v rest))
      three = IsMapOf-third n g (lists w) (lists v) first (map lists (but v rest))
          (IsMapOf-swap n g (lists v) (lists w) (first ∷ map lists (but v rest))
          (third_named_front n g lists v (lists w) first rest rest-Distinct v_rest
          (IsMapOf-swap n g first (lists w) (map lists rest) (second-IsMapOf w w_left))))

      merge : List ℕ
      merge = turned_at i first ++ turned_at (suc j) (lists w)

      b : Becomes (edges r) g (merge ∷ lists v ∷ map lists (but v rest))
      b = corner-Becomes (edges r) g x y first (lists w) (lists v) (map lists (but v rest)) i j three lti at_i ltj at_j
          (l.own x ltx) (sym (next-follow r is x ltx))

      put_back : IsMapOf n b.0 (merge ∷ (map lists (but w left) ++ other_rows r side))
      put_back = subst (λ rows. IsMapOf n b.0 (merge ∷ rows)) (map-append lists (but w left) other_names)
          (subst (λ ws. IsMapOf n b.0 (merge ∷ map lists ws)) (less_names w w_left)
          (second_named_back n b.0 lists v merge rest rest-Distinct v_rest b.1))

  -- where there is no such corner, the merged vertices are apart from those that are left
  left-Apart : ((x : ℕ) → x < darts r → in_side side (vertex_of r x) ≡ false → IsMarked merged (vertex_of r (twin x))
      → IsMarked merged (vertex_of r (twin (next r x)))) → (w : ℕ) → Has w left → Apart (edges r) g first (lists w)
  left-Apart closed w h c d hc hd =
      Evenly-two_parts (edges r) g (first ∷ lists w ∷ map lists (but w (left ++ other_names))) is_merged c d
      (second-IsMapOf w h) even twins
      (λ same. false≢true (sym (out_w d hd) ∙ sym same ∙ in_first c hc))
    where
      at_w : (w < r.vertices) × (in_side side w ≡ true) × (slice_index_or merged w false ≡ false)
      at_w = left_are r is side sides merged w h

      in_first : (z : ℕ) → Has z first → is_merged z ≡ true
      in_first z k = let i = m.items z k in merged_side z (m.within (vertex_of r z) i.1) ∙ i.1

      of_side : (u z : ℕ) → u < r.vertices → in_side side u ≡ true → Has z (lists u)
          → is_merged z ≡ slice_index_or merged u false
      of_side u z lt t k =
          let i = l.item u z lt k in
          merged_side z (ap (in_side side) i.1 ∙ t) ∙ ap (λ y. slice_index_or merged y false) i.1

      out_w : (z : ℕ) → Has z (lists w) → is_merged z ≡ false
      out_w z k = of_side w z at_w.0 at_w.1 k ∙ at_w.2

      of_other : (u : ℕ) → u < r.vertices → in_side side u ≡ false → (y z : ℕ) → Has y (lists u) → Has z (lists u)
          → is_merged y ≡ is_merged z
      of_other u lt f = spreads is_merged (lists u) (l.distinct u lt) (λ x k t.
          let i = l.item u x lt k in
          let out : in_side side (vertex_of r x) ≡ false = ap (in_side side) i.1 ∙ f in
          let s = next_stands r is x i.0 in
          let on : next r x ≡ follow (lists u) x = next-follow r is x i.0 ∙ ap (λ y. follow (lists y) x) i.1 in
          subst (λ y. is_merged y ≡ true) on
          (merged_other (next r x) (ap (in_side side) s.1 ∙ out)
          ∙ closed x i.0 out (sym (merged_other x out) ∙ t)))

      even : Evenly is_merged (first ∷ lists w ∷ map lists (but w (left ++ other_names)))
      even = (
        (λ y z hy hz. in_first y hy ∙ sym (in_first z hz)),
        (
          (λ y z hy hz. out_w y hy ∙ sym (out_w z hz)),
          subst (λ ws. Evenly is_merged (map lists ws)) (sym (less_names w h))
              (subst (Evenly is_merged) (sym (map-append lists (but w left) other_names))
              (Evenly-append is_merged (map lists (but w left)) (map lists other_names)
              (named-Evenly is_merged lists (but w left) (λ u k y z hy hz.
              let at_u = left_are r is side sides merged u (Has-but w u left k) in
              of_side u y at_u.0 at_u.1 hy ∙ sym (of_side u z at_u.0 at_u.1 hz)))
              (named-Evenly is_merged lists other_names (λ u k.
              let o = other_are u k in of_other u o.0 o.1)))),
        ),
      )

      twins : (z : ℕ) → z < n → is_merged z ≡ is_merged (twin z)
      twins z lt =
          let ltz : z < darts r = subst (λ k. z < k) (sym is.paired) lt in
          let there = sides.across z ltz in
          ⊎_elim
          (λ t. merged_side z t ∙ sym (merged_other (twin z) (there ∙ ap not t)
          ∙ ap (λ k. slice_index_or merged (vertex_of r k) false) (twin-twin z)))
          (λ f. merged_other z f ∙ sym (merged_side (twin z) (there ∙ ap not f)))
          (cases_Bool (in_side side (vertex_of r z)))

  -- so one of these can be merged
  pub apart-IsMerging : ((x : ℕ) → x < darts r → in_side side (vertex_of r x) ≡ false
      → IsMarked merged (vertex_of r (twin x)) → IsMarked merged (vertex_of r (twin (next r x))))
      → (w : ℕ) → Has w left → IsMerging r side (set merged w true) (first ++ list_of r w)
  apart-IsMerging closed w h =
      IsMerging-more r is side sides merged first m w h first (lists w) (turn-refl first) (turn-refl (lists w))
      (subst (λ rows. Becomes (edges r) g ((first ++ lists w) ∷ rows))
      (ap (map lists) (less_names w h) ∙ map-append lists (but w left) other_names)
      (concatenated-Becomes (edges r) g first (lists w) (map lists (but w (left ++ other_names)))
      (second-IsMapOf w h) (left-Apart closed w h)))
