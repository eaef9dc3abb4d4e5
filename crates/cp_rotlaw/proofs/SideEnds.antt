-- A side that is merged into one list: the order of its edges.
use Rattle.std.proofs.Common.{◌≡◌, ℕ, ◌+◌, ◌*◌, ◌/◌, ◌%◌, ◌<◌, Bool, true, false, not, List, [], ◌∷◌, ◌++◌, map, slice_index_or, sym, refl, ap, ◌∙◌, subst, inl, ⊎_elim, arith}
use Rattle.std.proofs.lemmas.Bool.{cases_Bool, cases_eq, cond-false, cond-true, false≢true, not-true}
use Rattle.std.specs.List.{filter}
use Rattle.cp_lists.specs.CyclicLists.{Distinct, Has}
use Rattle.cp_lists.specs.Rows.{flat}
use Rattle.cp_lists.proofs.DistinctLists.{Exactly-from}
use Rattle.cp_lists.proofs.FilteredLists.{filter-Has}
use Rattle.cp_lists.proofs.MappedLists.{Distinct-map_on, Has-map_on, map_on-Has, map_undone}
use Rattle.cp_faces.specs.Twins.{twin}
use Rattle.cp_faces.proofs.Twins.{twin_even, twin_odd}
use Rattle.cp_maps.specs.Genus.{CanBeFlat}
use Rattle.cp_maps.specs.Maps.{IsMapOf}
use Rattle.cp_maps.proofs.Genus.{SameGenus-IsFlat}
use Rattle.cp_maplaw.proofs.NamedRests.{named_some}
use Rattle.cp_maplaw.proofs.Systems.{system_flat}
use Rattle.cp_mergelaw.specs.Sides.{IsMergeOf, IsMergedSide}
use Rattle.cp_mergelaw.proofs.MergedLists.{IsMergeOf-one}
use Rattle.cp_mergelaw.proofs.MergedSides.{IsMergeOf-IsMergedSide}
use Rattle.cp_rot.specs.Genus.{HasGenusZero}
use Rattle.cp_rot.specs.Rewrites.{values}
use Rattle.cp_rot.specs.Systems.{IsRotation, System, darts, edges, list_of, next, vertex_of}
use Rattle.cp_rot.proofs.ListSystems.{Listed-system}
use Rattle.cp_rotlaw.specs.SideOrders.{IsSideOf, IsSideOrder, in_side, rows_where, side_dart}
use Rattle.cp_rotlaw.specs.SideStates.{IsMerging, other_rows, vertices_left}
use Rattle.cp_rotlaw.proofs.NamedMaps.{numbers-below}
use Rattle.cp_rotlaw.proofs.PoleParts.{half_cases}
use Rattle.cp_rotlaw.proofs.SideMerging.{left_have}
use Rattle.cp_rotlaw.proofs.StarCode.{far_within}

-- a list without items
empty_list : (xs : List ℕ) → ((x : ℕ) → Has x xs → ⊥) → xs ≡ []
empty_list [] none = refl
empty_list (x ∷ xs) none = absurd (none x (inl refl))

-- a side of a system of genus zero that is merged
module _ (r : System) (is : IsRotation r) (side : List Bool) (sides : IsSideOf r side) (merged : List Bool)
    (first : List ℕ) (m : IsMerging r side merged first)
    (none : (w : ℕ) → Has w (vertices_left r side merged) → ⊥) (zero_genus : HasGenusZero r) where
  -- the lists
  abbrev lists : ℕ → List ℕ
  lists = list_of r

  -- those of the other side
  abbrev others : List (List ℕ)
  others = other_rows r side

  -- the edges
  abbrev order : List ℕ
  order = map (λ d. d / 2) first

  -- no vertex is left
  empty : vertices_left r side merged ≡ []
  empty = empty_list (vertices_left r side merged) none

  -- the lists can be flat
  can : CanBeFlat (edges r) (first ∷ others)
  can = (
    m.becomes.0,
    subst (λ ws. IsMapOf (2 * edges r) m.becomes.0 (first ∷ (map lists ws ++ others))) empty m.becomes.1,
    SameGenus-IsFlat (edges r) (next r) m.becomes.0 m.becomes.2 ((system_flat r is).0 zero_genus),
  )

  -- the list is put together of those of the side
  merge : IsMergeOf first (rows_where r (in_side side))
  merge = m.refines first (subst (λ ws. IsMergeOf first (first ∷ map lists ws)) (sym empty) (IsMergeOf-one first))

  -- a dart of the side is in the list
  side_has : (d : ℕ) → d < darts r → in_side side (vertex_of r d) ≡ true → Has d first
  side_has d lt inside = ⊎_elim
      (λ t. m.all d lt t)
      (λ f. absurd (none (vertex_of r d)
      (left_have r is side sides merged (vertex_of r d) (is.placed d lt) inside f)))
      (cases_Bool (slice_index_or merged (vertex_of r d) false))

  -- and the list has no others
  side_of : (d : ℕ) → Has d first → (d < darts r) × (in_side side (vertex_of r d) ≡ true)
  side_of d h = let i = m.items d h in (i.0, m.within (vertex_of r d) i.1)

  -- the twin of a dart of the other side is of the side
  other_twin : (d : ℕ) → d < darts r → in_side side (vertex_of r d) ≡ false
      → in_side side (vertex_of r (twin d)) ≡ true
  other_twin d lt out = sides.across d lt ∙ ap not out

  -- so it is in the list
  back : (d : ℕ) → Has d (flat others) → Has (twin d) first
  back d h =
      let names : List ℕ = filter (λ v. not (in_side side v)) (values r.vertices (λ v. v)) in
      let o : (w : ℕ) × Has w names × Has d (lists w) = named_some lists names d h in
      let k = filter-Has (λ v. not (in_side side v)) o.0 (values r.vertices (λ v. v)) o.1 in
      let i = (Listed-system r is).item o.0 d (numbers-below r.vertices o.0 k.0) o.2 in
      side_has (twin d) (far_within r is d i.0).0
      (other_twin d i.0 (ap (in_side side) i.1 ∙ not-true (in_side side o.0) k.1))

  -- the side is merged
  is_merged : IsMergedSide (edges r) (rows_where r (in_side side)) others first
  is_merged = IsMergeOf-IsMergedSide (edges r) (rows_where r (in_side side)) others first can merge back

  -- the dart of an edge at the side
  side_dart-is : (d : ℕ) → d < darts r → in_side side (vertex_of r d) ≡ true → side_dart r side (d / 2) ≡ d
  side_dart-is d lt inside = ⊎_elim
      (λ even. let same : 2 * (d / 2) ≡ d = omega (arith, even) in
      cond-true (in_side side (vertex_of r (2 * (d / 2)))) (2 * (d / 2)) (2 * (d / 2) + 1)
      (ap (λ c. in_side side (vertex_of r c)) same ∙ inside) ∙ same)
      (λ odd. let same : 2 * (d / 2) ≡ twin d = omega (arith, odd, twin_odd d odd) in
      let next : 2 * (d / 2) + 1 ≡ d = omega (arith, odd) in
      cond-false (in_side side (vertex_of r (2 * (d / 2)))) (2 * (d / 2)) (2 * (d / 2) + 1)
      (ap (λ c. in_side side (vertex_of r c)) same ∙ sides.across d lt ∙ ap not inside) ∙ next)
      (cases_eq (d % 2) 0)

  -- the edges tell the list
  darts_of_order : map (side_dart r side) order ≡ first
  darts_of_order = map_undone (λ d. d / 2) (side_dart r side) first
      (λ d h. let s = side_of d h in side_dart-is d s.0 s.1)

  -- no edge stands twice
  order-Distinct : Distinct order
  order-Distinct = Distinct-map_on (λ d. d / 2) first
      (λ c d hc hd same. ⊎_elim
      (λ e. sym e)
      (λ e. let s = side_of c hc in absurd (false≢true (sym (sides.across c s.0 ∙ ap not s.1)
      ∙ ap (λ x. in_side side (vertex_of r x)) (sym e) ∙ (side_of d hd).1)))
      (half_cases c d same))
      can.1.rings.0.distinct

  -- each edge stands in it
  order_has : (e : ℕ) → e < edges r → Has e order
  order_has e lt =
      let even : 2 * e % 2 ≡ 0 = omega arith in
      let first_half : 2 * e / 2 ≡ e = omega arith in
      let second_half : (2 * e + 1) / 2 ≡ e = omega arith in
      let ltd : 2 * e < darts r = omega (arith, is.paired, lt) in
      ⊎_elim
      (λ t. subst (λ k. Has k order) first_half (Has-map_on (λ d. d / 2) (2 * e) first (side_has (2 * e) ltd t)))
      (λ f. subst (λ k. Has k order) second_half (Has-map_on (λ d. d / 2) (2 * e + 1) first
      (subst (λ k. Has k first) (twin_even (2 * e) even)
      (side_has (twin (2 * e)) (far_within r is (2 * e) ltd).0 (other_twin (2 * e) ltd f)))))
      (cases_Bool (in_side side (vertex_of r (2 * e))))

  -- the edges of the list are an order of the side
  pub IsSideOrder-merged : IsSideOrder r side order
  IsSideOrder-merged = record {
    arranged = Exactly-from (edges r) (λ e. true) order order-Distinct
        (λ e h. let d : (d : ℕ) × Has d first × (d / 2 ≡ e) = map_on-Has (λ d. d / 2) e first h in
        (omega (arith, (side_of d.0 d.1).0, d.2, is.paired), refl))
        (λ e lt t. order_has e lt);
    merged = subst (IsMergedSide (edges r) (rows_where r (in_side side)) others) (sym darts_of_order) is_merged;
  }
