-- The graph after Join is that of old and outer vertices with the old edges, and that of inner vertices with the new
-- ones,
-- side by side; and what their darts are.
use Rattle.std.proofs.Common.{◌≡◌, ◌≢◌, ℕ, ◌+◌, ◌*◌, ◌<◌, true, cond, eqb, List, [], ◌++◌, length, map, slice_index, slice_index_or, sym, refl, ap, ◌∙◌, subst, ⊎_elim, arith, append_assoc, IsPermutation}
use Rattle.std.specs.Prelude.{Some, filter, find}
use Rattle.std.specs.List.{All, Contains}
use Rattle.std.specs.Option.{option_map_or}
use Rattle.std.proofs.lemmas.Bool.{cond-false, cond-true, eq-eqb, ne_eqb}
use Rattle.std.proofs.lemmas.List.{length-map}
use Rattle.std.proofs.lemmas.List.Elements.{All-contains, Contains-append_left, Contains-append_right}
use Rattle.std.proofs.lemmas.List.Sorted.{Contains-permutation, IsPermutation-append_comm, IsPermutation-append_left, IsPermutation-append_right, IsPermutation-map, IsPermutation-sym, IsPermutation-trans}
use Rattle.cp_lists.specs.CyclicLists.{Distinct, Has}
use Rattle.cp_lists.proofs.DistinctLists.{Distinct-apart, Has-Contains, Has-append_cases, Has-append_left, Has-append_right, Has-place, Has_at, has_lacks}
use Rattle.cp_lists.proofs.MappedLists.{Has-map_on, map_on-Has}
use Rattle.cp_lists.proofs.PermutedLists.{Has-IsPermutation}
use Rattle.cp_conn.specs.NamedGraphs.{NamedGraph, rank}
use Rattle.cp_conn.proofs.NamedGraphs.{edges_at-Contains, map_from, map_has, rank_at, rank_is}
use Rattle.cp_board.specs.declared.parts.EdgeRow.{EdgeRow}
use Rattle.cp_board.specs.declared.parts.Pipe.{Pipe}
use Rattle.cp_board.specs.declared.parts.Vert.{Vert}
use Rattle.cp_board.specs.Instances.{Synchronized, edge_names, edges_of, ends_in, ends_of, graph, vert_names}
use Rattle.cp_board.specs.Joins.{part_of}
use Rattle.cp_board.specs.Rotations.{ArrangesEdges, dart}
use Rattle.cp_board.specs.Steps.{partner}
use Rattle.cp_board.proofs.EdgesOfVertices.{moved_row}
use Rattle.cp_board.proofs.ListTests.{IsStrictlyIncreasing-from_test, rises}
use Rattle.cp_board.proofs.NamedLists.{by_name_keeps, found_at, rises-by_name}
use Rattle.cp_join.specs.declared.parted_ends.Parting.{Parting}
use Rattle.cp_join.specs.Partings.{new_verts}
use Rattle.cp_join.proofs.DartsBeside.{AreBeside, AreListed}
use Rattle.cp_join.proofs.FreshNames.{fresh_once}
use Rattle.cp_join.proofs.GraphSystems.{IsLoopless}
use Rattle.cp_join.proofs.JoinNames.{HasPartings, IsLiveRow, apart, old_other, outer_a_new, outer_b_new, rows_live}
use Rattle.cp_join.proofs.JoinedGraph.{edges_a, edges_once, hat, hats_all, joined, kept_rows, names_all, names_differ, new_rows, partner_of_b, row}
use Rattle.cp_join.proofs.JoinedMoves.{outer_a, outer_b, to}
use Rattle.cp_join.proofs.JoinedRules.{ends_differ, ends_live, keeps, keeps_other, names_of_verts, rows, verts, verts_rise}
use Rattle.cp_join.proofs.JoinedVertices.{by_end, edges_of_inner_a, edges_of_inner_b, edges_of_old, edges_of_outer_a, edges_of_outer_b, first_touch, inner_a, inner_a_has, inner_b}
use Rattle.cp_join.proofs.LiveRows.{edge_row}
use Rattle.cp_join.proofs.PartLists.{all_from, all_of, all_once, part_is}
use Rattle.cp_join.proofs.RisingLists.{Distinct-rising, Has-flat_map}
use Rattle.cp_join.proofs.SameLists.{Has-kept}

-- a row that is there tells the ends of its edge, where names rise
row_ends : (es : List EdgeRow) → rises (map (λ e. e.name) es) ≡ true → (e : EdgeRow) → Contains es e
    → ends_in es e.name ≡ (e.a, e.b)
row_ends es up e c =
    ap (λ o. option_map_or (λ (x : EdgeRow). (x.a, x.b)) o (0, 0))
    (subst (λ (x : EdgeRow). find (λ z. eqb z.name x.name) es ≡ Some x) c.2
    (found_at (λ (x : EdgeRow). x.name) es c.0 e up c.1))

-- what is told of the names at all places is told of all names
pub by_place : (good : ℕ → Type 0) (names : List ℕ) (parts : List (List ℕ)) → length names ≡ length parts
    → ((k : ℕ) → k < length parts → good (slice_index names k)) → (v : ℕ) → Has v names → good v
by_place good names parts size each v m =
    let w = Has-place v names m in
    subst good w.2 (each w.0 (omega (arith, w.1, size)))

-- four lists in another order
four_in_order : (xs ys zs ws : List ℕ) → IsPermutation ((xs ++ zs) ++ (ys ++ ws)) (xs ++ ys ++ zs ++ ws)
four_in_order xs ys zs ws =
    subst (λ us. IsPermutation us (xs ++ ys ++ zs ++ ws)) (append_assoc (xs ++ zs) ys ws)
    (IsPermutation-append_left ws ((xs ++ zs) ++ ys) ((xs ++ ys) ++ zs)
    (subst (λ us. IsPermutation us ((xs ++ ys) ++ zs)) (sym (append_assoc xs zs ys))
    (subst (IsPermutation (xs ++ (zs ++ ys))) (sym (append_assoc xs ys zs))
    (IsPermutation-append_right xs (zs ++ ys) (ys ++ zs) (IsPermutation-append_comm zs ys)))))

module _ (i : Synchronized) (p : Pipe) (s t : Parting) (hats : List ℕ) (h : HasPartings i p s t hats) where
  -- the instance after Join
  abbrev after : Synchronized
  after = joined i p s t hats h

  -- the vertices that stay
  abbrev pub kept_verts : List ℕ
  kept_verts = filter (keeps i p s t hats h) (vert_names i)

  -- the old and outer vertices, with the old edges
  abbrev pub outer_graph : NamedGraph
  outer_graph = record { verts = kept_verts ++ (s.outer ++ t.outer); edges = edge_names i; ends = ends_of after }

  -- the inner vertices, with the new edges
  abbrev pub inner_graph : NamedGraph
  inner_graph = record { verts = s.inner ++ t.inner; edges = hats; ends = ends_of after }

  -- the names of edges after Join rise
  edges_rise : rises (edge_names after) ≡ true
  edges_rise = rises-by_name (λ e. e.name) (rows i p s t hats h) (names_differ i p s t hats h)

  -- and the graph has no loop
  pub after-IsLoopless : IsLoopless (graph after)
  after-IsLoopless = record {
    verts_rise = IsStrictlyIncreasing-from_test (vert_names after) (verts_rise i p s t hats h);
    edges_rise = IsStrictlyIncreasing-from_test (edge_names after) edges_rise;
    live = λ e c. (ends_of_edge e c).0;
    differ = λ e c. (ends_of_edge e c).1;
  }
    where
      ends_of_edge : (e : ℕ) → Contains (edge_names after) e
          → (Contains (vert_names after) (ends_of after e).0 × Contains (vert_names after) (ends_of after e).1)
          × ((ends_of after e).0 ≢ (ends_of after e).1)
      ends_of_edge e c =
          let r = map_from (λ (x : EdgeRow). x.name) after.edges e c in
          let told : ends_of after e ≡ (r.0.a, r.0.b) =
          subst (λ n. ends_of after n ≡ (r.0.a, r.0.b)) r.2 (row_ends after.edges edges_rise r.0 r.1) in
          subst (λ (x : ℕ × ℕ). (Contains (vert_names after) x.0 × Contains (vert_names after) x.1) × (x.0 ≢ x.1))
          (sym told) (
            All-contains (λ (x : EdgeRow). Contains (vert_names after) x.a × Contains (vert_names after) x.b)
                after.edges r.0 (ends_live i p s t hats h) r.1,
            All-contains (λ (x : EdgeRow). x.a ≢ x.b) after.edges r.0 (ends_differ i p s t hats h) r.1,
          )

  -- the old and the new edges are there
  edge_there : (e : ℕ) → Has e (edge_names i ++ hats) → Contains (edge_names after) e
  edge_there e k =
      (Has-Contains e (edge_names after)).0
      (Has-IsPermutation e (map (λ (x : EdgeRow). x.name) (rows i p s t hats h)) (edge_names after)
      (IsPermutation-map (λ (x : EdgeRow). x.name) (rows i p s t hats h) after.edges
      (by_name_keeps (λ x. x.name) (rows i p s t hats h)))
      (subst (Has e) (sym (names_all i p s t hats h)) k))

  -- and so are the vertices
  halves-verts : IsPermutation (outer_graph.verts ++ inner_graph.verts) (vert_names after)
  halves-verts =
      IsPermutation-trans (outer_graph.verts ++ inner_graph.verts) (kept_verts ++ new_verts s t) (vert_names after)
      (subst (λ us. IsPermutation us (kept_verts ++ new_verts s t))
      (sym (append_assoc kept_verts (s.outer ++ t.outer) (s.inner ++ t.inner)))
      (IsPermutation-append_right kept_verts ((s.outer ++ t.outer) ++ (s.inner ++ t.inner)) (new_verts s t)
      (four_in_order s.outer s.inner t.outer t.inner)))
      (subst (λ us. IsPermutation us (vert_names after)) (names_of_verts i p s t hats h)
      (IsPermutation-map (λ (v : Vert). v.name) (verts i p s t hats h) after.verts
      (by_name_keeps (λ v. v.name) (verts i p s t hats h))))

  -- the graph after Join is both side by side
  pub halves-AreBeside : AreBeside (graph after) outer_graph inner_graph
  halves-AreBeside = record {
    verts = halves-verts;
    once = Distinct-rising (edge_names after) after-IsLoopless.edges_rise;
    once_a = Distinct-rising (edge_names i) h.rules.edges_named.rise;
    once_b = fresh_once (edge_names i) hats h.hats_new;
    some_a = λ e c. edge_there e (Has-append_left e (edge_names i) hats ((Has-Contains e (edge_names i)).1 c));
    some_b = λ e c. edge_there e (Has-append_right e (edge_names i) hats ((Has-Contains e hats).1 c));
    apart = λ e k l. has_lacks e hats l (Distinct-apart e (edge_names i) hats (edges_once i p s t hats h) k);
    same_a = λ e c. refl;
    same_b = λ e c. refl;
  }

  -- the ends of an old edge
  old_ends : (e : EdgeRow) → Contains i.edges e
      → ends_of after e.name ≡ (to i p s t hats h e.name e.a, to i p s t hats h e.name e.b)
  old_ends e c =
      row_ends after.edges edges_rise (moved_row (to i p s t hats h) e)
      (Contains-permutation (rows i p s t hats h) after.edges (moved_row (to i p s t hats h) e)
      (by_name_keeps (λ x. x.name) (rows i p s t hats h))
      (Contains-append_left (kept_rows i p s t hats h) (new_rows i p s t hats h) (moved_row (to i p s t hats h) e)
      (map_has (moved_row (to i p s t hats h)) i.edges e c)))

  -- the ends of a new edge
  pub new_ends : (x : ℕ) → Has x (edges_a i p s t hats h)
      → ends_of after (hat i p s t hats h x) ≡ (inner_a i p s t hats h x, inner_b i p s t hats h x)
  new_ends x k =
      row_ends after.edges edges_rise (row i p s t hats h x)
      (Contains-permutation (rows i p s t hats h) after.edges (row i p s t hats h x)
      (by_name_keeps (λ y. y.name) (rows i p s t hats h))
      (Contains-append_right (kept_rows i p s t hats h) (new_rows i p s t hats h) (row i p s t hats h x)
      (map_has (row i p s t hats h) (edges_a i p s t hats h) x ((Has-Contains x (edges_a i p s t hats h)).0 k))))

  -- an old edge has the dart that it had, where its first end is the vertex exactly where it was
  same_dart : (v w n : ℕ) → Contains (edge_names i) n
      → ((e : EdgeRow) → IsLiveRow i e → e.name ≡ n → eqb (to i p s t hats h e.name e.a) v ≡ eqb e.a w)
      → dart outer_graph v n ≡ dart (graph i) w n
  same_dart v w n c same =
      let r = edge_row i h.rules n c in
      let live : IsLiveRow i r.0 = subst (IsLiveRow i) r.1.2 (rows_live i h.rules r.1.0 r.0 r.1.1) in
      let moved : (ends_of after n).0 ≡ to i p s t hats h r.0.name r.0.a =
      ap (λ m. (ends_of after m).0) (sym r.2) ∙ ap (λ (x : ℕ × ℕ). x.0) (old_ends r.0 r.1) in
      let told : (ends_of i n).0 ≡ r.0.a = ap (λ (x : ℕ × ℕ). x.0) r.3 in
      ap (λ b. 2 * rank (edge_names i) n + cond b 0 1)
      (ap (λ x. eqb x v) moved ∙ same r.0 live r.2 ∙ ap (λ x. eqb x w) (sym told))

  -- at an old vertex
  pub old_dart : (v e : ℕ) → Contains (vert_names i) v → v ≢ p.a → v ≢ p.b → Contains (edge_names i) e
      → dart outer_graph v e ≡ dart (graph i) v e
  old_dart v e live na nb c = same_dart v v e c (λ r row_live named.
      by_end i p s t hats h (λ y. eqb y v ≡ eqb r.a v) r r.a row_live (first_touch i p s t hats h r)
      (λ a out. ne_eqb (outer_a i p s t hats h r.name) v (λ q. old_other i p s t hats h v
      (outer_a i p s t hats h r.name) live (outer_a_new i p s t hats h (outer_a i p s t hats h r.name) out) (sym q))
      ∙ sym (ne_eqb r.a v (λ q. na (sym q ∙ a))))
      (λ b out. ne_eqb (outer_b i p s t hats h r.name) v (λ q. old_other i p s t hats h v
      (outer_b i p s t hats h r.name) live (outer_b_new i p s t hats h (outer_b i p s t hats h r.name) out) (sym q))
      ∙ sym (ne_eqb r.a v (λ q. nb (sym q ∙ b))))
      (λ ma mb l. refl))

  -- at an outer vertex of the first end
  pub outer_dart-a : (k e : ℕ) → k < length s.parts → Has e (slice_index_or s.parts k [])
      → dart outer_graph (slice_index s.outer k) e ≡ dart (graph i) p.a e
  outer_dart-a k e lt m = same_dart v p.a e live (λ r row_live named.
      by_end i p s t hats h (λ y. eqb y v ≡ eqb r.a p.a) r r.a row_live (first_touch i p s t hats h r)
      (λ a out. eq-eqb (outer_a i p s t hats h r.name) v
      (ap (λ n. slice_index s.outer (part_of s.parts n)) named ∙ ap (slice_index s.outer)
      (part_is s.parts k e once lt m))
      ∙ sym (eq-eqb r.a p.a a))
      (λ b out. ne_eqb (outer_b i p s t hats h r.name) v (λ q. (apart i p s t hats h).first_third v
      (outer_b i p s t hats h r.name) in_outer out (sym q)) ∙ sym (ne_eqb r.a p.a (λ q. h.ends.differ (sym q ∙ b))))
      (λ na nb l. ne_eqb r.a v (old_other i p s t hats h r.a v l (outer_a_new i p s t hats h v in_outer))
      ∙ sym (ne_eqb r.a p.a na)))
    where
      v : ℕ
      v = slice_index s.outer k

      once : Distinct (all_of s.parts)
      once = all_once (graph i) p.a s.parts h.rules.edges_named.rise h.parts_a

      in_outer : Has v s.outer
      in_outer = Has_at s.outer k (omega (arith, lt, h.parted.first_end.outer_each))

      live : Contains (edge_names i) e
      live = (edges_at-Contains (graph i) p.a e
          (all_from (graph i) p.a s.parts h.rules.edges_named.rise h.parts_a e (Has-flat_map e s.parts k lt m))).0

  -- at one of the second
  pub outer_dart-b : (k e : ℕ) → k < length t.parts → Has e (slice_index_or t.parts k [])
      → dart outer_graph (slice_index t.outer k) e ≡ dart (graph i) p.b e
  outer_dart-b k e lt m = same_dart v p.b e live (λ r row_live named.
      by_end i p s t hats h (λ y. eqb y v ≡ eqb r.a p.b) r r.a row_live (first_touch i p s t hats h r)
      (λ a out. ne_eqb (outer_a i p s t hats h r.name) v (λ q. (apart i p s t hats h).first_third
      (outer_a i p s t hats h r.name) v out in_outer q) ∙ sym (ne_eqb r.a p.b (λ q. h.ends.differ (sym a ∙ q))))
      (λ b out. eq-eqb (outer_b i p s t hats h r.name) v
      (ap (λ n. slice_index t.outer (part_of t.parts n)) named ∙ ap (slice_index t.outer)
      (part_is t.parts k e once lt m))
      ∙ sym (eq-eqb r.a p.b b))
      (λ na nb l. ne_eqb r.a v (old_other i p s t hats h r.a v l (outer_b_new i p s t hats h v in_outer))
      ∙ sym (ne_eqb r.a p.b nb)))
    where
      v : ℕ
      v = slice_index t.outer k

      once : Distinct (all_of t.parts)
      once = all_once (graph i) p.b t.parts h.rules.edges_named.rise h.parts_b

      in_outer : Has v t.outer
      in_outer = Has_at t.outer k (omega (arith, lt, h.parted.second_end.outer_each))

      live : Contains (edge_names i) e
      live = (edges_at-Contains (graph i) p.b e
          (all_from (graph i) p.b t.parts h.rules.edges_named.rise h.parts_b e (Has-flat_map e t.parts k lt m))).0

  -- the place of a new edge is that of the edge of the first end
  pub hat-place : (x : ℕ) → Has x (edges_a i p s t hats h)
      → rank hats (hat i p s t hats h x) ≡ rank (edges_a i p s t hats h) x
  hat-place x k =
      let at = rank_at (edges_a i p s t hats h) x ((Has-Contains x (edges_a i p s t hats h)).0 k) in
      let size : length hats ≡ length (edges_a i p s t hats h) =
      ap length (sym (hats_all i p s t hats h)) ∙ length-map (edges_a i p s t hats h) (hat i p s t hats h) in
      rank_is hats (rank (edges_a i p s t hats h) x) (hat i p s t hats h x) (fresh_once (edge_names i) hats h.hats_new)
      (omega (arith, at.0, size)) refl

  -- a new edge begins at the inner vertex of its part of the first end
  pub inner_dart-a : (k x : ℕ) → k < length s.parts → Has x (slice_index_or s.parts k [])
      → dart inner_graph (slice_index s.inner k) (hat i p s t hats h x) ≡ 2 * rank (edges_a i p s t hats h) x
  inner_dart-a k x lt m =
      let live : Has x (edges_a i p s t hats h) =
      (Has-Contains x (edges_a i p s t hats h)).1
      (all_from (graph i) p.a s.parts h.rules.edges_named.rise h.parts_a x (Has-flat_map x s.parts k lt m)) in
      let once : Distinct (all_of s.parts) = all_once (graph i) p.a s.parts h.rules.edges_named.rise h.parts_a in
      let here : (ends_of after (hat i p s t hats h x)).0 ≡ slice_index s.inner k =
      ap (λ (y : ℕ × ℕ). y.0) (new_ends x live) ∙ ap (slice_index s.inner) (part_is s.parts k x once lt m) in
      let bit = cond-true {A = ℕ} (eqb (ends_of after (hat i p s t hats h x)).0 (slice_index s.inner k)) 0 1
      (eq-eqb (ends_of after (hat i p s t hats h x)).0 (slice_index s.inner k) here) in
      omega (arith, hat-place x live, bit)

  -- and ends at that of its part of the second
  pub inner_dart-b : (k x : ℕ) → k < length t.parts → Has x (edges_a i p s t hats h)
      → dart inner_graph (slice_index t.inner k) (hat i p s t hats h x) ≡ 2 * rank (edges_a i p s t hats h) x + 1
  inner_dart-b k x lt live =
      let here : (ends_of after (hat i p s t hats h x)).0 ≡ inner_a i p s t hats h x =
      ap (λ (y : ℕ × ℕ). y.0) (new_ends x live) in
      let other : (ends_of after (hat i p s t hats h x)).0 ≢ slice_index t.inner k =
      λ q. (apart i p s t hats h).second_fourth (inner_a i p s t hats h x) (slice_index t.inner k)
      (inner_a_has i p s t hats h x live)
      (Has_at t.inner k (omega (arith, lt, h.parted.second_end.inner_each))) (sym here ∙ q) in
      let bit = cond-false {A = ℕ} (eqb (ends_of after (hat i p s t hats h x)).0 (slice_index t.inner k)) 0 1
      (ne_eqb (ends_of after (hat i p s t hats h x)).0 (slice_index t.inner k) other) in
      omega (arith, hat-place x live, bit)

  -- the edges of an outer vertex are old ones
  outer-live : (v e : ℕ) → Has v outer_graph.verts → Contains (edges_of after v) e → Contains (edge_names i) e
  outer-live v e m c =
      ⊎_elim
      (λ k.
      let r = Has-kept (keeps i p s t hats h) (vert_names i) v k in
      let off = keeps_other i p s t hats h v r.1 in
      (edges_at-Contains (graph i) v e (subst (λ es. Contains es e)
      (edges_of_old i p s t hats h v ((Has-Contains v (vert_names i)).0 r.0) off.0 off.1) c)).0)
      (λ k. ⊎_elim
      (λ l. by_place live s.outer s.parts h.parted.first_end.outer_each
      (λ j lt d. (edges_at-Contains (graph i) p.a e
      (all_from (graph i) p.a s.parts h.rules.edges_named.rise h.parts_a e (Has-flat_map e s.parts j lt
      (subst (Has e) (edges_of_outer_a i p s t hats h j lt)
      ((Has-Contains e (edges_of after (slice_index s.outer j))).1 d))))).0) v l c)
      (λ l. by_place live t.outer t.parts h.parted.second_end.outer_each
      (λ j lt d. (edges_at-Contains (graph i) p.b e
      (all_from (graph i) p.b t.parts h.rules.edges_named.rise h.parts_b e (Has-flat_map e t.parts j lt
      (subst (Has e) (edges_of_outer_b i p s t hats h j lt)
      ((Has-Contains e (edges_of after (slice_index t.outer j))).1 d))))).0) v l c)
      (Has-append_cases v s.outer t.outer k))
      (Has-append_cases v kept_verts (s.outer ++ t.outer) m)
    where
      live : ℕ → Type 0
      live w = Contains (edges_of after w) e → Contains (edge_names i) e

  -- and those of an inner vertex new ones
  pub inner-live : (v e : ℕ) → Has v inner_graph.verts → Contains (edges_of after v) e → Contains hats e
  inner-live v e m c =
      ⊎_elim
      (λ l. by_place live s.inner s.parts h.parted.first_end.inner_each
      (λ j lt d.
      let x = map_on-Has (hat i p s t hats h) e (slice_index_or s.parts j [])
      (Has-IsPermutation e (edges_of after (slice_index s.inner j)) (map (hat i p s t hats h)
      (slice_index_or s.parts j []))
      (edges_of_inner_a i p s t hats h j lt) ((Has-Contains e (edges_of after (slice_index s.inner j))).1 d)) in
      subst (Contains hats) x.2 (new x.0 ((Has-Contains x.0 (edges_a i p s t hats h)).1
      (all_from (graph i) p.a s.parts h.rules.edges_named.rise h.parts_a x.0 (Has-flat_map x.0 s.parts j lt x.1))))) v
      l c)
      (λ l. by_place live t.inner t.parts h.parted.second_end.inner_each
      (λ j lt d.
      let there : ℕ → ℕ = λ y. hat i p s t hats h (partner p p.b y) in
      let y = map_on-Has there e (slice_index_or t.parts j [])
      (Has-IsPermutation e (edges_of after (slice_index t.inner j)) (map there (slice_index_or t.parts j []))
      (edges_of_inner_b i p s t hats h j lt) ((Has-Contains e (edges_of after (slice_index t.inner j))).1 d)) in
      subst (Contains hats) y.2 (new (partner p p.b y.0) (partner_of_b i p s t hats h y.0
      ((Has-Contains y.0 (edges_of i p.b)).1
      (all_from (graph i) p.b t.parts h.rules.edges_named.rise h.parts_b y.0 (Has-flat_map y.0 t.parts j lt y.1)))))) v
      l c)
      (Has-append_cases v s.inner t.inner m)
    where
      live : ℕ → Type 0
      live w = Contains (edges_of after w) e → Contains hats e

      new : (x : ℕ) → Has x (edges_a i p s t hats h) → Contains hats (hat i p s t hats h x)
      new x k = (Has-Contains (hat i p s t hats h x) hats).0
          (subst (Has (hat i p s t hats h x)) (hats_all i p s t hats h)
          (Has-map_on (hat i p s t hats h) x (edges_a i p s t hats h) k))

  -- lists that arrange the edges after Join
  module _ (lists : ℕ → List ℕ) (arranged : All (λ v. ArrangesEdges (graph after) v (lists v)) (vert_names after)) where
    -- an item of a list is an edge of the vertex
    item : (v e : ℕ) → Has v (vert_names after) → Has e (lists v) → Contains (edges_of after v) e
    item v e k m =
        (Has-Contains e (edges_of after v)).0 (Has-IsPermutation e (lists v) (edges_of after v)
        (IsPermutation-sym (edges_of after v) (lists v)
        (All-contains (λ w. ArrangesEdges (graph after) w (lists w)) (vert_names after) v arranged
        ((Has-Contains v (vert_names after)).0 k))) m)

    -- so those of outer vertices have old edges, and those of inner ones new edges
    pub outer-AreListed : AreListed outer_graph lists outer_graph.verts
    outer-AreListed v k e m = outer-live v e k (item v e (Has-IsPermutation v (outer_graph.verts ++ inner_graph.verts)
        (vert_names after) halves-verts (Has-append_left v outer_graph.verts inner_graph.verts k)) m)

    -- and those of inner vertices have new ones
    pub inner-AreListed : AreListed inner_graph lists inner_graph.verts
    inner-AreListed v k e m = inner-live v e k (item v e (Has-IsPermutation v (outer_graph.verts ++ inner_graph.verts)
        (vert_names after) halves-verts (Has-append_right v outer_graph.verts inner_graph.verts k)) m)
