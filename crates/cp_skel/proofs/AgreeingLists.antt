-- Lists of the instance that agree with an arranged layout: one map has both, so the rotation of the instance has genus
-- zero exactly where the lists of the layout without loops are plane.
use Rattle.std.proofs.Common.{◌≡◌, ◌⊎◌, ◌↔◌, ℕ, zero, suc, ◌+◌, ◌*◌, ◌/◌, ◌<◌, ◌≤◌, List, [], ◌∷◌, ◌++◌, map, reverse, length, sym, refl, ap, ap₂, ◌∙◌, subst, inl, inr, ⊎_elim, arith}
use Rattle.std.specs.Prelude.{slice_index_or}
use Rattle.std.specs.List.{filter, flat_map, range_with_len}
use Rattle.std.proofs.lemmas.Bool.{cases_eq}
use Rattle.std.proofs.lemmas.List.{get_or-map, length-map, map-append}
use Rattle.cp_lists.specs.CyclicLists.{Distinct, Has}
use Rattle.cp_lists.specs.Turns.{IsTurn}
use Rattle.cp_lists.proofs.DistinctLists.{Has-append_cases, Has-append_left, Has-append_right}
use Rattle.cp_lists.proofs.FilteredLists.{Has-filter, filter-Distinct, filter-Has}
use Rattle.cp_lists.proofs.FlatLists.{Has-flat, flat-append, flat-filter}
use Rattle.cp_lists.proofs.MappedLists.{Has-map_on, map_on-Has}
use Rattle.cp_conn.specs.NamedGraphs.{rank}
use Rattle.cp_rot.specs.Genus.{HasGenusZero}
use Rattle.cp_rot.specs.Systems.{list_of, next}
use Rattle.cp_board.specs.Rotations.{dart, system}
use Rattle.cp_cgraph.specs.Clustered.{Clustered, IsClustered, clusters, node_of, nodes}
use Rattle.cp_cgraph.specs.declared.layout.Layout.{Layout}
use Rattle.cp_border.specs.Borders.{end_dart, node_list, segments}
use Rattle.cp_border.specs.Good.{IsArranged}
use Rattle.cp_border.proofs.Rotation.{length-node_lists}
use Rattle.cp_maps.specs.Genus.{IsFlat}
use Rattle.cp_maps.specs.Maps.{IsMapOf, Ring, Rings, next_by}
use Rattle.cp_maps.proofs.ListFacts.{has_yes}
use Rattle.cp_maps.proofs.MapLists.{IsMapOf-other}
use Rattle.cp_maps.proofs.Rings.{Ring-turned, Rings-append}
use Rattle.cp_skel.specs.SkeletonLists.{border_pair, in_dart, inner_clusters, out_dart, skeleton_lists}
use Rattle.cp_skel.specs.declared.vertex.Vertex.{Vertex}
use Rattle.cp_skel.specs.declared.vertex.Vertex.TheVariants.{Child, Node, Outside}
use Rattle.cp_skel.specs.Skeletons.{IsVertex, dart_vertex, kept_segments, vertex_name}
use Rattle.cp_skel.specs.VertexLists.{Agree, keeps, kept_list, stock_dart, stock_list, vertex_list}
use Rattle.cp_skel.proofs.ClosedBorders.{inner_cluster}
use Rattle.cp_skel.proofs.DartVertices.{end_dart-StandsAt, in_dart-StandsAt, out_dart-StandsAt}
use Rattle.cp_skel.proofs.KeptDarts.{DartKind, at_node, dart_kind, inside, outside}
use Rattle.cp_skel.proofs.NumberedSystems.{AreEdgeLists, IsMapOf-numbers, list_is, named-IsMapOf, numbers-IsFlat, own_dart}
use Rattle.cp_skel.proofs.Ranges.{Has-range}
use Rattle.cp_skel.proofs.SkeletonLists.{IsMapOf-skeletons}
use Rattle.cp_skel.proofs.SkeletonVertices.{kept-IsVertex, node_of-lt}
use Rattle.cp_skel.proofs.StockDarts.{edge_count, ends, ends-differ, ends-within, kept-stock, skeleton_graph, stock-Names, stock-kept, vertex_count}
use Rattle.cp_skel.proofs.TabledLists.{map_twice}
use Rattle.cp_skel.proofs.VertexLists.{border_edges-inner, has-true, kept-vertex_list, kept_list-stands}
use Rattle.cp_lists.specs.Rows.{flat}

-- values that agree on the numbers of a range
map_range_agree : {X : Type 0} (f h : ℕ → X) (a n : ℕ) → ((v : ℕ) → a ≤ v → v < a + n → f v ≡ h v)
    → map f (range_with_len a n) ≡ map h (range_with_len a n)
map_range_agree f h a zero same = refl
map_range_agree {X = X} f h a (suc n) same =
    ap₂ (λ (x : X) (xs : List X). x ∷ xs) (same a (omega arith) (omega arith))
    (map_range_agree f h (a + 1) n (λ v le lt. same v (omega arith) (omega arith)))

-- a list is empty or has an item
empty_or_item : (xs : List ℕ) → (xs ≡ []) ⊎ ((d : ℕ) × Has d xs)
empty_or_item [] = inl refl
empty_or_item (x ∷ xs) = inr (x, inl refl)

-- each list of a table is a ring
Ring-table : (f : ℕ → ℕ) (L : ℕ → List ℕ) (a n v : ℕ) → Rings f (map L (range_with_len a n)) → a ≤ v → v < a + n
    → Ring f (L v)
Ring-table f L a zero v rings le lt = absurd (omega arith)
Ring-table f L a (suc n) v rings le lt = ⊎_elim
    (λ same. subst (λ x. Ring f (L x)) same rings.0)
    (λ ne. Ring-table f L (a + 1) n v rings.1 (omega arith) (omega arith))
    (cases_eq a v)

-- an item of a list of a table is one of its items
Has-table : (L : ℕ → List ℕ) (a n v d : ℕ) → a ≤ v → v < a + n → Has d (L v) → Has d (flat (map L (range_with_len a n)))
Has-table L a zero v d le lt h = absurd (omega arith)
Has-table L a (suc n) v d le lt h = ⊎_elim
    (λ same. Has-append_left d (L a) (flat (map L (range_with_len (a + 1) n))) (subst (λ x. Has d (L x)) (sym same) h))
    (λ ne. Has-append_right d (L a) (flat (map L (range_with_len (a + 1) n)))
    (Has-table L (a + 1) n v d (omega arith) (omega arith) h))
    (cases_eq a v)

-- and the other way round
table-Has : (L : ℕ → List ℕ) (a n d : ℕ) → Has d (flat (map L (range_with_len a n)))
    → (v : ℕ) × (a ≤ v) × (v < a + n) × Has d (L v)
table-Has L a zero d h = absurd h
table-Has L a (suc n) d h = ⊎_elim
    (λ k. (a, omega arith, omega arith, k))
    (λ k. let r = table-Has L (a + 1) n d k in (r.0, omega (arith, r.1), omega (arith, r.2), r.3))
    (Has-append_cases d (L a) (flat (map L (range_with_len (a + 1) n))) h)

-- the two lists of a border
pub pair-is : (g : Clustered) (l : Layout) (c : ℕ) → 0 < c
    → border_pair g l c ≡ vertex_list g l (Outside c) ∷ vertex_list g l (Child c) ∷ []
pair-is g l c above =
    ap (λ es. reverse (map (in_dart g c) es) ∷ map (out_dart g c) es ∷ []) (sym (border_edges-inner l c above))

-- lists of the edges of the instance
module _ (g : Clustered) (is : IsClustered g) (s : ℕ → List ℕ)
    (are : AreEdgeLists (vertex_count g) (edge_count g) (ends g) s) where
  -- their lists of darts of segments
  abbrev pub stock_lists : List (List ℕ)
  stock_lists = map (stock_list (skeleton_graph g) g s) (range_with_len 0 (vertex_count g))

  -- they are those of the rotation system under other names
  named_lists : map (map (stock_dart g))
      (map (list_of (system (skeleton_graph g) s)) (range_with_len 0 (vertex_count g)))
      ≡ stock_lists
  named_lists =
      map_twice (list_of (system (skeleton_graph g) s)) (map (stock_dart g)) (range_with_len 0 (vertex_count g))
      ∙ map_range_agree (λ v. map (stock_dart g) (list_of (system (skeleton_graph g) s) v))
      (stock_list (skeleton_graph g) g s) 0 (vertex_count g)
      (λ v le lt. ap (map (stock_dart g))
      (list_is (vertex_count g) (edge_count g) (ends g) s (ends-within g is) (ends-differ g is) are v
      (omega (arith, lt))))

  -- there is a map with these lists
  pub IsMapOf-stock : IsMapOf (2 * segments g) (next_by stock_lists) stock_lists
  IsMapOf-stock =
      subst (λ rows. IsMapOf (2 * segments g) (next_by rows) rows) named_lists
      (named-IsMapOf (edge_count g) (segments g) (stock_dart g) (next (system (skeleton_graph g) s))
      (map (list_of (system (skeleton_graph g) s)) (range_with_len 0 (vertex_count g))) (stock-Names g)
      (IsMapOf-numbers (vertex_count g) (edge_count g) (ends g) s (ends-within g is) (ends-differ g is) are))

  -- an item of the list of a vertex is a dart of a segment that is kept
  stock_item-kept : (v d : ℕ) → v < vertex_count g → Has d (stock_list (skeleton_graph g) g s v)
      → Has (d / 2) (kept_segments g)
  stock_item-kept v d lt h =
      let m = map_on-Has (stock_dart g) d (map (dart (skeleton_graph g) v) (s v)) h in
      let e = map_on-Has (dart (skeleton_graph g) v) m.0 (s v) m.1 in
      let own = own_dart (vertex_count g) (edge_count g) (ends g) s (ends-within g is) (ends-differ g is) are v e.0 lt
      e.1 in
      subst (λ x. Has (x / 2) (kept_segments g)) m.2
      (stock-kept g m.0 (subst (λ x. x < 2 * edge_count g) e.2 own.1))

  -- and each such dart is an item of the list of its vertex
  pub kept-stock_list : (d : ℕ) → Has (d / 2) (kept_segments g)
      → Has d (stock_list (skeleton_graph g) g s (vertex_name g (dart_vertex g d)))
  kept-stock_list d h =
      let v : ℕ = vertex_name g (dart_vertex g d) in
      let n : ℕ = rank (kept_segments g) (d / 2) in
      let k = kept-stock g is d h in
      let item : Has n (s v) = are.own v n (kept-IsVertex g is d h).within k.0 k.1 in
      subst (λ x. Has x (stock_list (skeleton_graph g) g s v)) k.2
      (Has-map_on (stock_dart g) (dart (skeleton_graph g) v n) (map (dart (skeleton_graph g) v) (s v))
      (Has-map_on (dart (skeleton_graph g) v) n (s v) item))

  -- with a layout that agrees
  module _ (l : Layout) (ar : IsArranged g l) (agree : Agree (skeleton_graph g) g l s) where
    -- the lists of the layout without loops
    abbrev pub kept_lists : List (List ℕ)
    kept_lists = map (filter (keeps g)) (skeleton_lists g l)

    -- the map of the instance has the list of each vertex
    Ring-kept_list : (f : ℕ → ℕ) → Rings f stock_lists → (p : Vertex) → Ring f (kept_list g l p)
    Ring-kept_list f rings p = ⊎_elim
        (λ none. subst (Ring f) (sym none) record { distinct = tt; along = λ d h. absurd h })
        (λ some.
        let w = kept_list-stands g l is ar p some.0 some.1 in
        let is_p : IsVertex g p = subst (IsVertex g) w.1 (kept-IsVertex g is some.0 w.0) in
        let v : ℕ = vertex_name g p in
        Ring-turned f (stock_list (skeleton_graph g) g s v) (kept_list g l p)
        (subst (λ q. IsTurn (stock_list (skeleton_graph g) g s (vertex_name g q)) (kept_list g l q)) w.1
        (agree some.0 w.0))
        (Ring-table f (stock_list (skeleton_graph g) g s) 0 (vertex_count g) v rings (omega arith)
        (let h = is_p.within in omega (arith, h))))
        (empty_or_item (kept_list g l p))

    -- the lists of the borders are rings
    Rings-pairs : (f : ℕ → ℕ) → Rings f stock_lists → (cs : List ℕ) → ((c : ℕ) → Has c cs → 0 < c)
        → Rings f (map (filter (keeps g)) (flat_map (border_pair g l) cs))
    Rings-pairs f rings [] all = tt
    Rings-pairs f rings (c ∷ cs) all =
        subst (λ pair. Rings f (map (filter (keeps g)) (pair ++ flat_map (border_pair g l) cs)))
        (sym (pair-is g l c (all c (inl refl)))) (
          Ring-kept_list f rings (Outside c),
          (
            Ring-kept_list f rings (Child c),
            Rings-pairs f rings cs (λ b h. all b (inr h)),
          ),
        )

    -- and those of the nodes
    Rings-nodes : (f : ℕ → ℕ) → Rings f stock_lists → (xs : List (List ℕ)) (k : ℕ)
        → ((i : ℕ) → i < length xs → slice_index_or xs i [] ≡ node_list l (k + i))
        → Rings f (map (filter (keeps g)) (map (map (end_dart g)) xs))
    Rings-nodes f rings [] k told = tt
    Rings-nodes f rings (x ∷ xs) k told = (
      subst (λ zs. Ring f (filter (keeps g) (map (end_dart g) zs))) (sym (told 0 (omega arith)))
          (Ring-kept_list f rings (Node (k + 0))),
      Rings-nodes f rings xs (k + 1) (λ i lt.
          let later : k + 1 + i ≡ k + suc i = omega arith in
          told (suc i) (omega arith) ∙ ap (node_list l) (sym later)),
    )

    -- all lists of the layout without loops are rings
    Rings-kept : (f : ℕ → ℕ) → Rings f stock_lists → Rings f kept_lists
    Rings-kept f rings =
        let pairs : List (List ℕ) = flat_map (border_pair g l) (inner_clusters g) in
        let rows : List (List ℕ) = map (map (end_dart g)) l.nodes in
        subst (Rings f) (sym (map-append (filter (keeps g)) pairs rows))
        (Rings-append f (map (filter (keeps g)) pairs) (map (filter (keeps g)) rows)
        (Rings-pairs f rings (inner_clusters g) (λ c h. (inner_cluster g c h).0))
        (Rings-nodes f rings l.nodes 0
        (λ i lt. ap (λ m. slice_index_or l.nodes m []) (let h : i ≡ 0 + i = omega arith in h))))

    -- the items of a border
    pair-in : (cs : List ℕ) → ((c : ℕ) → Has c cs → 0 < c) → (c d : ℕ) → Has c cs
        → Has d (vertex_list g l (Outside c)) ⊎ Has d (vertex_list g l (Child c))
        → Has d (flat (flat_map (border_pair g l) cs))
    pair-in [] all c d h item = absurd h
    pair-in (b ∷ cs) all c d h item =
        let rest : List ℕ = flat (flat_map (border_pair g l) cs) in
        ⊎_elim
        (λ same.
        let xs : List ℕ = vertex_list g l (Outside b) in
        let ys : List ℕ = vertex_list g l (Child b) in
        subst (λ pair. Has d (flat (pair ++ flat_map (border_pair g l) cs))) (sym (pair-is g l b (all b (inl refl))))
        (⊎_elim
        (λ k. Has-append_left d xs (ys ++ rest) (subst (λ x. Has d (vertex_list g l (Outside x))) (sym same) k))
        (λ k. Has-append_right d xs (ys ++ rest)
        (Has-append_left d ys rest (subst (λ x. Has d (vertex_list g l (Child x))) (sym same) k)))
        item))
        (λ k. subst (λ pair. Has d (flat (pair ++ flat_map (border_pair g l) cs)))
        (sym (pair-is g l b (all b (inl refl))))
        (Has-append_right d (vertex_list g l (Outside b)) (vertex_list g l (Child b) ++ rest)
        (Has-append_right d (vertex_list g l (Child b)) rest
        (pair-in cs (λ a m. all a (inr m)) c d k item))))
        h

    -- a dart that is kept is in the lists of the layout
    kept-in : (d : ℕ) → Has (d / 2) (kept_segments g) → Has d (flat (skeleton_lists g l))
    kept-in d h = by (dart_kind g is d h)
      where
        pairs : List (List ℕ)
        pairs = flat_map (border_pair g l) (inner_clusters g)

        rows : List (List ℕ)
        rows = map (map (end_dart g)) l.nodes

        border_in : (c : ℕ) → 0 < c → c < clusters g
            → Has d (vertex_list g l (Outside c)) ⊎ Has d (vertex_list g l (Child c))
            → Has d (flat (skeleton_lists g l))
        border_in c above cluster item =
            subst (Has d) (sym (flat-append pairs rows))
            (Has-append_left d (flat pairs) (flat rows)
            (pair-in (inner_clusters g) (λ b k. (inner_cluster g b k).0) c d
            (Has-range c 1 (length g.parents) (omega (arith, above)) (omega (arith, cluster))) item))

        by : DartKind g d → Has d (flat (skeleton_lists g l))
        by (at_node x lt ne at) =
            let v : ℕ = node_of g x in
            let stands = end_dart-StandsAt g x lt ne in
            let item : Has d (vertex_list g l (Node v)) =
            subst (λ p. Has d (vertex_list g l p)) (ap (dart_vertex g) at ∙ stands.at)
            (kept-vertex_list g l is ar d h) in
            let long : length l.nodes ≡ nodes g = length-node_lists g l ar in
            let less : node_of g x < length l.nodes = let k = node_of-lt g is x lt in omega (arith, k, long) in
            subst (Has d) (sym (flat-append pairs rows))
            (Has-append_right d (flat pairs) (flat rows)
            (Has-flat d v rows (omega (arith, less, length-map l.nodes (map (end_dart g))))
            (subst (Has d) (sym (get_or-map (map (end_dart g)) l.nodes v [] [] less)) item)))
        by (inside c e above cluster lt leave at) =
            let stands = in_dart-StandsAt g is c e lt cluster leave in
            border_in c above cluster (inl (subst (λ p. Has d (vertex_list g l p))
            (ap (dart_vertex g) at ∙ stands.at) (kept-vertex_list g l is ar d h)))
        by (outside c e above cluster lt leave at) =
            let stands = out_dart-StandsAt g is c e lt cluster leave in
            border_in c above cluster (inr (subst (λ p. Has d (vertex_list g l p))
            (ap (dart_vertex g) at ∙ stands.at) (kept-vertex_list g l is ar d h)))

    -- a map of the lists of the instance is one of the lists of the layout without loops
    pub IsMapOf-kept : (f : ℕ → ℕ) → IsMapOf (2 * segments g) f stock_lists → IsMapOf (2 * segments g) f kept_lists
    IsMapOf-kept f m =
        let whole : flat kept_lists ≡ filter (keeps g) (flat (skeleton_lists g l)) =
        flat-filter (keeps g) (skeleton_lists g l) in
        IsMapOf-other (2 * segments g) f stock_lists m kept_lists
        (λ d h.
        let w = filter-Has (keeps g) d (flat (skeleton_lists g l)) (subst (Has d) whole h) in
        let kept : Has (d / 2) (kept_segments g) = has-true (d / 2) (kept_segments g) w.1 in
        let is_p = kept-IsVertex g is d kept in
        Has-table (stock_list (skeleton_graph g) g s) 0 (vertex_count g) (vertex_name g (dart_vertex g d)) d
        (omega arith) (let k = is_p.within in omega (arith, k)) (kept-stock_list d kept))
        (λ d h.
        let r = table-Has (stock_list (skeleton_graph g) g s) 0 (vertex_count g) d h in
        let kept : Has (d / 2) (kept_segments g) = stock_item-kept r.0 d (omega (arith, r.2)) r.3 in
        subst (Has d) (sym whole)
        (Has-filter (keeps g) d (flat (skeleton_lists g l)) (kept-in d kept) (has_yes (d / 2) (kept_segments g) kept)))
        (subst Distinct (sym whole)
        (filter-Distinct (keeps g) (flat (skeleton_lists g l)) (IsMapOf-skeletons g l is ar).once))
        (Rings-kept f m.rings)

  -- the rotation of the instance has genus zero exactly where the map of its lists is flat
  pub stock-IsFlat : (f : ℕ → ℕ) → IsMapOf (2 * segments g) f stock_lists → edge_count g ≤ segments g
      → HasGenusZero (system (skeleton_graph g) s) ↔ IsFlat (segments g) f
  stock-IsFlat f m le =
      numbers-IsFlat (vertex_count g) (edge_count g) (ends g) s (ends-within g is) (ends-differ g is) are (segments g)
      (stock_dart g) f le (stock-Names g) (subst (IsMapOf (2 * segments g) f) (sym named_lists) m)
