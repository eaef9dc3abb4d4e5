-- The rotation system of a graph whose vertices are the numbers below n, and whose edges are the numbers below m.
use Rattle.std.proofs.Common.{◌≡◌, ◌≢◌, ◌↔◌, ◌⊎◌, ℕ, ◌+◌, ◌*◌, ◌/◌, ◌%◌, ◌<◌, ◌≤◌, cond, List, [], map, sym, ap, ◌∙◌, subst, inl, inr, ⊎_elim, arith, IsPermutation}
use Rattle.std.specs.Prelude.{eqb, ◌==◌, slice_index_or}
use Rattle.std.specs.List.{All, range_with_len}
use Rattle.std.proofs.lemmas.Bool.{cases_eq, cond-false, cond-true, eq-eqb, eqb-true, ne_eqb, or_cases, or_left, or_right}
use Rattle.std.proofs.lemmas.List.FromFn.{get_or-map-range_with_len, get_or-range_with_len, length-map-range_with_len, length-range_with_len}
use Rattle.cp_lists.specs.Count.{Exactly}
use Rattle.cp_lists.specs.CyclicLists.{Distinct, Has}
use Rattle.std.proofs.lemmas.List.Elements.{All-contains}
use Rattle.std.proofs.lemmas.List.Sorted.{IsPermutation-sym}
use Rattle.cp_lists.proofs.DistinctLists.{Exactly-from, Has-Contains}
use Rattle.cp_lists.proofs.FilteredLists.{Has-filter, filter-Distinct, filter-Has}
use Rattle.cp_lists.proofs.FlatLists.{flat-map}
use Rattle.cp_lists.proofs.MappedLists.{Distinct-map_on, Has-map_on, map_on-Has}
use Rattle.cp_conn.specs.NamedGraphs.{NamedGraph, edges_at, ends_at, rank}
use Rattle.cp_conn.proofs.NamedGraphs.{rank_is}
use Rattle.cp_rot.specs.Genus.{HasGenusZero}
use Rattle.cp_rot.specs.Systems.{IsRotation, System, darts, edges, list_of, next, vertex_of}
use Rattle.cp_border.proofs.Numbering.{length-pairs, pairs_first, pairs_second}
use Rattle.cp_board.specs.Rotations.{ArrangesEdges, dart, system}
use Rattle.cp_maps.specs.Genus.{IsFlat, OneGenus}
use Rattle.cp_maps.specs.Maps.{IsMapOf, next_by}
use Rattle.cp_maps.specs.Names.{Names}
use Rattle.cp_maps.proofs.Genus.{OneGenus-IsFlat, OneGenus-sym}
use Rattle.cp_maps.proofs.ListFacts.{Below-from, below_item}
use Rattle.cp_maps.proofs.MapLists.{IsMapOf-by}
use Rattle.cp_maps.proofs.Names.{named_lists-OneGenus}
use Rattle.cp_maplaw.proofs.Systems.{system_flat}
use Rattle.cp_lists.proofs.PermutedLists.{Distinct-IsPermutation, Has-IsPermutation, IsPermutation-from}
use Rattle.cp_skel.proofs.Ranges.{Distinct-range, Has-range, range-Has}
use Rattle.cp_skel.proofs.SystemLists.{IsMapOf-vertices}
use Rattle.cp_lists.specs.Rows.{flat}

-- there is a map with the lists of a map under other names
pub named-IsMapOf : (m e : ℕ) (j f : ℕ → ℕ) (rows : List (List ℕ)) → Names m e j → IsMapOf (2 * m) f rows
    → IsMapOf (2 * e) (next_by (map (map j) rows)) (map (map j) rows)
named-IsMapOf m e j f rows names is =
    let below : (d : ℕ) → Has d (flat rows) → d < 2 * m = λ d h. below_item (2 * m) d (flat rows) is.below h in
    IsMapOf-by (2 * e) (map (map j) rows)
    (subst Distinct (sym (flat-map j rows)) (Distinct-map_on j (flat rows)
    (λ x y hx hy same. names.apart x y (below x hx) (below y hy) same) is.once))
    (Below-from (2 * e) (flat (map (map j) rows)) (λ d h.
    let w = map_on-Has j d (flat rows) (subst (Has d) (flat-map j rows) h) in
    subst (λ y. y < 2 * e) w.2 (names.below w.0 (below w.0 w.1))))

-- the number of a number below n among these
rank_range : (n k : ℕ) → k < n → rank (range_with_len 0 n) k ≡ k
rank_range n k lt =
    rank_is (range_with_len 0 n) k k (Distinct-range 0 n) (omega (arith, lt, length-range_with_len 0 n))
    (get_or-range_with_len 0 n k 0 lt ∙ (let h : 0 + k ≡ k = omega arith in h))

-- a dart is the first or the second of its edge
pub dart_cases : (d : ℕ) → (d ≡ 2 * (d / 2)) ⊎ (d ≡ 2 * (d / 2) + 1)
dart_cases d = ⊎_elim (λ even. inl (omega arith)) (λ odd. inr (omega arith)) (cases_eq (d % 2) 0)

-- the graph whose vertices are the numbers below n, and whose edges are those below m
abbrev pub numbers : ℕ → ℕ → (ℕ → ℕ × ℕ) → NamedGraph
numbers n m ends = record { verts = range_with_len 0 n; edges = range_with_len 0 m; ends = ends }

-- the lists have exactly the edges of their vertices, each once
pub record AreEdgeLists (n m : ℕ) (ends : ℕ → ℕ × ℕ) (s : ℕ → List ℕ) : Type 0 where
  pub distinct : (v : ℕ) → v < n → Distinct (s v)
  pub item : (v e : ℕ) → v < n → Has e (s v) → (e < m) × (((ends e).0 ≡ v) ⊎ ((ends e).1 ≡ v))
  pub own : (v e : ℕ) → v < n → e < m → ((ends e).0 ≡ v) ⊎ ((ends e).1 ≡ v) → Has e (s v)

-- the darts of edges at their ends
module _ (n m : ℕ) (ends : ℕ → ℕ × ℕ) (differ : (e : ℕ) → e < m → (ends e).0 ≢ (ends e).1) where
  -- the dart of an edge at its first end
  pub first_dart : (v e : ℕ) → e < m → (ends e).0 ≡ v → dart (numbers n m ends) v e ≡ 2 * e
  first_dart v e lt at =
      ap (λ (k : ℕ). k + cond (eqb (ends e).0 v) 0 1) (ap (λ (k : ℕ). 2 * k) (rank_range m e lt))
      ∙ ap (λ (k : ℕ). 2 * e + k) (cond-true (eqb (ends e).0 v) 0 1 (eq-eqb (ends e).0 v at))
      ∙ (let h : 2 * e + 0 ≡ 2 * e = omega arith in h)

  -- and at its second
  pub second_dart : (v e : ℕ) → e < m → (ends e).1 ≡ v → dart (numbers n m ends) v e ≡ 2 * e + 1
  second_dart v e lt at =
      ap (λ (k : ℕ). k + cond (eqb (ends e).0 v) 0 1) (ap (λ (k : ℕ). 2 * k) (rank_range m e lt))
      ∙ ap (λ (k : ℕ). 2 * e + k)
      (cond-false (eqb (ends e).0 v) 0 1 (ne_eqb (ends e).0 v (λ same. differ e lt (same ∙ sym at))))

-- a graph of numbers, and lists of its edges
module _ (n m : ℕ) (ends : ℕ → ℕ × ℕ) (s : ℕ → List ℕ)
    (within : (e : ℕ) → e < m → ((ends e).0 < n) × ((ends e).1 < n))
    (differ : (e : ℕ) → e < m → (ends e).0 ≢ (ends e).1)
    (are : AreEdgeLists n m ends s) where
  -- the graph
  abbrev graph : NamedGraph
  graph = numbers n m ends

  -- its rotation system
  abbrev r : System
  r = system graph s

  -- the vertices of its darts, as pairs
  abbrev first : ℕ → ℕ
  first e = rank (range_with_len 0 n) (ends e).0

  -- the number of the vertex at the second end of an edge
  abbrev second : ℕ → ℕ
  second e = rank (range_with_len 0 n) (ends e).1

  -- there are two darts for each edge
  dart_count : darts r ≡ 2 * m
  dart_count = length-pairs first second 0 m

  -- as many edges
  pub edge_count : edges r ≡ m
  edge_count = omega (arith, dart_count)

  -- where the first dart of an edge stands
  pub first_stands : (e : ℕ) → e < m → vertex_of r (2 * e) ≡ (ends e).0
  first_stands e lt = pairs_first first second 0 m e lt ∙ ap first (let h : 0 + e ≡ e = omega arith in h)
      ∙ rank_range n (ends e).0 (within e lt).0

  -- and the second
  pub second_stands : (e : ℕ) → e < m → vertex_of r (2 * e + 1) ≡ (ends e).1
  second_stands e lt = pairs_second first second 0 m e lt ∙ ap second (let h : 0 + e ≡ e = omega arith in h)
      ∙ rank_range n (ends e).1 (within e lt).1

  -- the list of a vertex
  pub list_is : (v : ℕ) → v < n → list_of r v ≡ map (dart graph v) (s v)
  list_is v lt = get_or-map-range_with_len (λ x. map (dart graph x) (s x)) 0 n v v [] lt (omega arith)

  -- an edge of a list: its dart there
  pub own_dart : (v e : ℕ) → v < n → Has e (s v) → (dart graph v e / 2 ≡ e) × (dart graph v e < 2 * m)
      × (vertex_of r (dart graph v e) ≡ v)
  own_dart v e ltv h =
      let i = are.item v e ltv h in
      ⊎_elim
      (λ at. let d : dart graph v e ≡ 2 * e = first_dart n m ends differ v e i.0 at in
      (omega (arith, d), omega (arith, d, i.0), ap (vertex_of r) d ∙ first_stands e i.0 ∙ at))
      (λ at. let d : dart graph v e ≡ 2 * e + 1 = second_dart n m ends differ v e i.0 at in
      (omega (arith, d), omega (arith, d, i.0), ap (vertex_of r) d ∙ second_stands e i.0 ∙ at))
      i.1

  -- the dart of the edge of a dart at its vertex is that dart
  pub dart_of_edge : (v d : ℕ) → v < n → d < 2 * m → vertex_of r d ≡ v → Has (d / 2) (s v) × (dart graph v (d / 2) ≡ d)
  dart_of_edge v d ltv lt at =
      let e : ℕ = d / 2 in
      let less : d / 2 < m = omega arith in
      ⊎_elim
      (λ even.
      let end : (ends (d / 2)).0 ≡ v = sym (first_stands e less) ∙ sym (ap (vertex_of r) even) ∙ at in
      (are.own v e ltv less (inl end), first_dart n m ends differ v e less end ∙ sym even))
      (λ odd.
      let end : (ends (d / 2)).1 ≡ v = sym (second_stands e less) ∙ sym (ap (vertex_of r) odd) ∙ at in
      (are.own v e ltv less (inr end), second_dart n m ends differ v e less end ∙ sym odd))
      (dart_cases d)

  -- the darts at a vertex are exactly those of its list
  list-Exactly : (v : ℕ) → v < n → Exactly (darts r) (λ d. vertex_of r d == v) (list_of r v)
  list-Exactly v ltv =
      subst (Exactly (darts r) (λ d. vertex_of r d == v)) (sym (list_is v ltv))
      (Exactly-from (darts r) (λ d. vertex_of r d == v) (map (dart graph v) (s v))
      (Distinct-map_on (dart graph v) (s v)
      (λ x y hx hy same. sym (own_dart v x ltv hx).0 ∙ ap (λ d. d / 2) same ∙ (own_dart v y ltv hy).0)
      (are.distinct v ltv))
      (λ d h.
      let w = map_on-Has (dart graph v) d (s v) h in
      let o = own_dart v w.0 ltv w.1 in (
        omega (arith, o.1, w.2, dart_count),
        eq-eqb (vertex_of r d) v (ap (vertex_of r) (sym w.2) ∙ o.2),
      ))
      (λ d lt at.
      let w = dart_of_edge v d ltv (omega (arith, lt, dart_count)) (eqb-true (vertex_of r d) v at) in
      subst (λ x. Has x (map (dart graph v) (s v))) w.1 (Has-map_on (dart graph v) (d / 2) (s v) w.0)))

  -- each dart stands at a vertex
  pub stands_within : (d : ℕ) → d < 2 * m → vertex_of r d < n
  stands_within d lt =
      let e : ℕ = d / 2 in
      let less : d / 2 < m = omega arith in
      ⊎_elim
      (λ even. subst (λ v. v < n) (sym (ap (vertex_of r) even ∙ first_stands e less)) (within e less).0)
      (λ odd. subst (λ v. v < n) (sym (ap (vertex_of r) odd ∙ second_stands e less)) (within e less).1)
      (dart_cases d)

  -- it is a rotation system
  pub IsRotation-numbers : IsRotation (system (numbers n m ends) s)
  IsRotation-numbers = record {
    paired = omega (arith, dart_count);
    placed = λ d lt. subst (λ k. vertex_of r d < k) (sym (length-range_with_len 0 n))
        (stands_within d (omega (arith, lt, dart_count)));
    listed = length-map-range_with_len (λ x. map (dart graph x) (s x)) 0 n ∙ sym (length-range_with_len 0 n);
    arranged = λ v lt. list-Exactly v (subst (λ k. v < k) (length-range_with_len 0 n) lt);
  }

  -- its map has the lists of the vertices
  pub IsMapOf-numbers : IsMapOf (2 * m) (next (system (numbers n m ends) s)) (map (list_of r) (range_with_len 0 n))
  IsMapOf-numbers =
      subst (λ k. IsMapOf (2 * k) (next r) (map (list_of r) (range_with_len 0 n))) edge_count
      (IsMapOf-vertices r IsRotation-numbers (range_with_len 0 n) (Distinct-range 0 n)
      (λ v h. subst (λ k. v < k) (sym (length-range_with_len 0 n)) (omega (arith, (range-Has v 0 n h).1)))
      (λ d lt. Has-range (vertex_of r d) 0 n (omega arith)
      (omega (arith, stands_within d (omega (arith, lt, dart_count))))))

  -- under other names for the darts it is flat exactly where the system has genus zero
  pub numbers-IsFlat : (e : ℕ) (j f : ℕ → ℕ) → m ≤ e → Names m e j
      → IsMapOf (2 * e) f (map (map j) (map (list_of r) (range_with_len 0 n)))
      → HasGenusZero (system (numbers n m ends) s) ↔ IsFlat e f
  numbers-IsFlat e j f le names is =
      let one : OneGenus m (next r) e f =
      named_lists-OneGenus m e j (next r) f (map (list_of r) (range_with_len 0 n)) le names IsMapOf-numbers is in
      let zero_flat = system_flat r IsRotation-numbers in (
        λ z. OneGenus-IsFlat m (next r) e f one (subst (λ k. IsFlat k (next r)) edge_count (zero_flat.0 z)),
        λ z. zero_flat.1 (subst (λ k. IsFlat k (next r)) (sym edge_count)
            (OneGenus-IsFlat e f m (next r) (OneGenus-sym m (next r) e f one) z)),
      )

-- an edge is one at a vertex where it has it as an end
pub edges_at-Has : (n m : ℕ) (ends : ℕ → ℕ × ℕ) (v e : ℕ) → Has e (edges_at (numbers n m ends) v)
    → (e < m) × (((ends e).0 ≡ v) ⊎ ((ends e).1 ≡ v))
edges_at-Has n m ends v e h =
    let w = filter-Has (ends_at (numbers n m ends) v) e (range_with_len 0 m) h in (
      omega (arith, (range-Has e 0 m w.0).1),
      ⊎_elim (λ t. inl (eqb-true (ends e).0 v t)) (λ t. inr (eqb-true (ends e).1 v t))
          (or_cases (eqb (ends e).0 v) (eqb (ends e).1 v) w.1),
    )

-- and the other way round
pub Has-edges_at : (n m : ℕ) (ends : ℕ → ℕ × ℕ) (v e : ℕ) → e < m → ((ends e).0 ≡ v) ⊎ ((ends e).1 ≡ v)
    → Has e (edges_at (numbers n m ends) v)
Has-edges_at n m ends v e lt end =
    Has-filter (ends_at (numbers n m ends) v) e (range_with_len 0 m) (Has-range e 0 m (omega arith) (omega (arith, lt)))
    (⊎_elim (λ h. or_left (eqb (ends e).0 v) (eqb (ends e).1 v) (eq-eqb (ends e).0 v h))
    (λ h. or_right (eqb (ends e).0 v) (eqb (ends e).1 v) (eq-eqb (ends e).1 v h)) end)

-- lists that arrange the edges of their vertices have exactly these
pub arranged-AreEdgeLists : (n m : ℕ) (ends : ℕ → ℕ × ℕ) (s : ℕ → List ℕ)
    → All (λ v. ArrangesEdges (numbers n m ends) v (s v)) (range_with_len 0 n) → AreEdgeLists n m ends s
arranged-AreEdgeLists n m ends s all =
    let of : (v : ℕ) → v < n → IsPermutation (edges_at (numbers n m ends) v) (s v) =
    λ v lt. All-contains (λ x. ArrangesEdges (numbers n m ends) x (s x)) (range_with_len 0 n) v all
    ((Has-Contains v (range_with_len 0 n)).0 (Has-range v 0 n (omega arith) (omega (arith, lt)))) in
    record {
      distinct = λ v lt. Distinct-IsPermutation (edges_at (numbers n m ends) v) (s v) (of v lt)
          (filter-Distinct (ends_at (numbers n m ends) v) (range_with_len 0 m) (Distinct-range 0 m));
      item = λ v e lt h. edges_at-Has n m ends v e
          (Has-IsPermutation e (s v) (edges_at (numbers n m ends) v)
          (IsPermutation-sym (edges_at (numbers n m ends) v) (s v) (of v lt)) h);
      own = λ v e lt less end. Has-IsPermutation e (edges_at (numbers n m ends) v) (s v) (of v lt)
          (Has-edges_at n m ends v e less end);
    }

-- and the other way round
pub AreEdgeLists-arranged : (n m : ℕ) (ends : ℕ → ℕ × ℕ) (s : ℕ → List ℕ) → AreEdgeLists n m ends s
    → All (λ v. ArrangesEdges (numbers n m ends) v (s v)) (range_with_len 0 n)
AreEdgeLists-arranged n m ends s are i d lt =
    let less : i < n = omega (arith, lt, length-range_with_len 0 n) in
    let at : slice_index_or (range_with_len 0 n) i d ≡ i =
    get_or-range_with_len 0 n i d less ∙ (let h : 0 + i ≡ i = omega arith in h) in
    subst (λ v. ArrangesEdges (numbers n m ends) v (s v)) (sym at)
    (IsPermutation-from (edges_at (numbers n m ends) i) (s i)
    (filter-Distinct (ends_at (numbers n m ends) i) (range_with_len 0 m) (Distinct-range 0 m)) (are.distinct i less)
    (λ e h. let w = edges_at-Has n m ends i e h in are.own i e less w.0 w.1)
    (λ e h. let w = are.item i e less h in Has-edges_at n m ends i e w.0 w.1))
