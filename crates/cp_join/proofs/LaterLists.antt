-- Lists after Join from those before it: outer vertices keep what the ends have of their parts, and inner vertices
-- mirror them.
use Rattle.std.proofs.Common.{◌≡◌, ◌≢◌, ℕ, ◌<◌, false, cond, List, [], ◌++◌, length, map, reverse, slice_index, slice_index_or, sym, refl, ap, ◌∙◌, subst, ⊎_elim, arith, IsPermutation}
use Rattle.std.specs.Prelude.{filter}
use Rattle.std.specs.List.{All}
use Rattle.std.proofs.lemmas.List.Sorted.{IsPermutation-map, IsPermutation-reverse, IsPermutation-sym, IsPermutation-trans}
use Rattle.cp_lists.specs.CyclicLists.{Distinct, Has}
use Rattle.cp_lists.proofs.DistinctLists.{Distinct-append_left, Distinct-append_right, Has-Contains, Has-append_cases, Has_at, Lacks-from}
use Rattle.cp_lists.proofs.FilteredLists.{Has-filter, filter-Distinct, filter-Has}
use Rattle.cp_lists.proofs.MappedLists.{Distinct-map_on, Has-map_on, map_on-Has}
use Rattle.cp_lists.proofs.PermutedLists.{Distinct-IsPermutation, Has-IsPermutation, IsPermutation-from}
use Rattle.cp_conn.specs.NamedGraphs.{rank}
use Rattle.cp_conn.proofs.NamedGraphs.{rank_is}
use Rattle.cp_maps.specs.Maps.{has}
use Rattle.cp_maps.proofs.ListFacts.{has_no, has_true, has_yes}
use Rattle.cp_board.specs.declared.parts.Pipe.{Pipe}
use Rattle.cp_board.specs.declared.parts.Vert.{Vert}
use Rattle.cp_board.specs.Instances.{Synchronized, edges_of, graph, vert_names}
use Rattle.cp_board.specs.Rotations.{ArrangesEdges}
use Rattle.cp_board.specs.Steps.{partner}
use Rattle.cp_board.proofs.NamedLists.{by_name_keeps}
use Rattle.cp_join.specs.declared.parted_ends.Parting.{Parting}
use Rattle.cp_join.specs.Partings.{new_verts}
use Rattle.cp_join.proofs.HatOrders.{map_twice}
use Rattle.cp_join.proofs.JoinNames.{HasPartings, apart, inner_a_new, inner_b_new, new_once, old_other, outer_a_new, outer_b_new}
use Rattle.cp_join.proofs.JoinedGraph.{hat, joined, once_at, partner_back, partner_forth, partner_of_b}
use Rattle.cp_join.proofs.JoinedHalves.{by_place, kept_verts}
use Rattle.cp_join.proofs.JoinedOuter.{kept-Has, part_order}
use Rattle.cp_join.proofs.JoinedRules.{names_of_verts, verts}
use Rattle.cp_join.proofs.JoinedVertices.{edges_of_inner_a, edges_of_inner_b, edges_of_old, edges_of_outer_a, edges_of_outer_b}
use Rattle.cp_join.proofs.PartLists.{all_from}
use Rattle.cp_join.proofs.RisingLists.{Distinct-rising, Has-flat_map}
use Rattle.cp_join.proofs.SameLists.{All-from_has}

-- the part at the place of a name
abbrev part_at : List ℕ → List (List ℕ) → ℕ → List ℕ
part_at names parts v = slice_index_or parts (rank names v) []

module _ (i : Synchronized) (p : Pipe) (s t : Parting) (hats : List ℕ) (h : HasPartings i p s t hats)
    (f : ℕ → List ℕ) where
  -- the new edge for an edge of the first end, and for one of the second
  abbrev new_edge : ℕ → ℕ
  new_edge x = hat i p s t hats h x

  -- and for one of the second
  abbrev new_partner : ℕ → ℕ
  new_partner y = new_edge (partner p p.b y)

  -- the edges of the first end whose partners are in a part
  abbrev first_of_part : List ℕ → List ℕ
  first_of_part part = filter (λ x. has (partner p p.a x) part) (f p.a)

  -- the lists after Join
  abbrev pub later : ℕ → List ℕ
  later v =
      cond (has v s.outer) (part_order (f p.a) (part_at s.outer s.parts v))
      (cond (has v s.inner) (reverse (map new_edge (part_order (f p.a) (part_at s.inner s.parts v))))
      (cond (has v t.outer) (part_order (f p.b) (part_at t.outer t.parts v))
      (cond (has v t.inner) (map new_edge (first_of_part (part_at t.inner t.parts v))) (f v))))

  -- new vertices of one kind are none of another
  outer_a-once : Distinct s.outer
  outer_a-once = Distinct-append_left s.outer s.inner
      (Distinct-append_left (s.outer ++ s.inner) t.outer
      (Distinct-append_left (s.outer ++ s.inner ++ t.outer) t.inner (new_once i p s t hats h)))

  -- so is no inner one of the first end
  inner_a-once : Distinct s.inner
  inner_a-once = Distinct-append_right s.outer s.inner
      (Distinct-append_left (s.outer ++ s.inner) t.outer
      (Distinct-append_left (s.outer ++ s.inner ++ t.outer) t.inner (new_once i p s t hats h)))

  -- nor an outer one of the second
  outer_b-once : Distinct t.outer
  outer_b-once = Distinct-append_right (s.outer ++ s.inner) t.outer
      (Distinct-append_left (s.outer ++ s.inner ++ t.outer) t.inner (new_once i p s t hats h))

  -- nor an inner one
  inner_b-once : Distinct t.inner
  inner_b-once = Distinct-append_right (s.outer ++ s.inner ++ t.outer) t.inner (new_once i p s t hats h)

  -- the test for a list that does not have the name
  off : (v : ℕ) (names : List ℕ) → ((n : ℕ) → Has n names → v ≢ n) → has v names ≡ false
  off v names other = has_no v names (Lacks-from v names (λ k. other v k refl))

  -- the name at a place
  at : (names : List ℕ) (parts : List (List ℕ)) (k : ℕ) → length names ≡ length parts → k < length parts
      → Has (slice_index names k) names
  at names parts k size lt = Has_at names k (omega (arith, size, lt))

  -- and the part there
  part_there : (names : List ℕ) (parts : List (List ℕ)) (k : ℕ) → Distinct names → length names ≡ length parts
      → k < length parts → part_at names parts (slice_index names k) ≡ slice_index_or parts k []
  part_there names parts k once size lt =
      ap (λ n. slice_index_or parts n []) (rank_is names k (slice_index names k) once (omega (arith, size, lt)) refl)

  -- the list of an old vertex stays
  pub later-old : (v : ℕ) → Has v (kept_verts i p s t hats h) → later v ≡ f v
  later-old v k =
      rw (other s.outer (λ n m. outer_a_new i p s t hats h n m))
      (rw (other s.inner (λ n m. inner_a_new i p s t hats h n m))
      (rw (other t.outer (λ n m. outer_b_new i p s t hats h n m))
      (rw (other t.inner (λ n m. inner_b_new i p s t hats h n m)) refl)))
    where
      other : (names : List ℕ) → ((n : ℕ) → Has n names → Has n (new_verts s t)) → has v names ≡ false
      other names new =
          off v names (λ n m. old_other i p s t hats h v n (kept-Has i p s t hats h v k).0 (new n m))

  -- an outer vertex has what the end has of its part
  pub later-outer_a : (k : ℕ) → k < length s.parts
      → later (slice_index s.outer k) ≡ part_order (f p.a) (slice_index_or s.parts k [])
  later-outer_a k lt =
      rw (has_yes (slice_index s.outer k) s.outer (at s.outer s.parts k h.parted.first_end.outer_each lt))
      (ap (part_order (f p.a)) (part_there s.outer s.parts k outer_a-once h.parted.first_end.outer_each lt))

  -- and so has one of the second end
  pub later-outer_b : (k : ℕ) → k < length t.parts
      → later (slice_index t.outer k) ≡ part_order (f p.b) (slice_index_or t.parts k [])
  later-outer_b k lt =
      let here = at t.outer t.parts k h.parted.second_end.outer_each lt in
      rw (off (slice_index t.outer k) s.outer (λ n m q. (apart i p s t hats h).first_third n (slice_index t.outer k) m
      here (sym q)))
      (rw (off (slice_index t.outer k) s.inner (λ n m q. (apart i p s t hats h).second_third n (slice_index t.outer k)
      m here (sym q)))
      (rw (has_yes (slice_index t.outer k) t.outer here)
      (ap (part_order (f p.b)) (part_there t.outer t.parts k outer_b-once h.parted.second_end.outer_each lt))))

  -- an inner vertex has the new edges, in reverse at the first end and in their order at the second
  pub later-inner_a : (k : ℕ) → k < length s.parts
      → later (slice_index s.inner k) ≡ reverse (map new_edge (part_order (f p.a) (slice_index_or s.parts k [])))
  later-inner_a k lt =
      let here = at s.inner s.parts k h.parted.first_end.inner_each lt in
      rw (off (slice_index s.inner k) s.outer (λ n m q. (apart i p s t hats h).first_second n (slice_index s.inner k) m
      here (sym q)))
      (rw (has_yes (slice_index s.inner k) s.inner here)
      (ap (λ part. reverse (map new_edge (part_order (f p.a) part)))
      (part_there s.inner s.parts k inner_a-once h.parted.first_end.inner_each lt)))

  -- and at the second end in their order
  pub later-inner_b : (k : ℕ) → k < length t.parts
      → later (slice_index t.inner k) ≡ map new_edge (first_of_part (slice_index_or t.parts k []))
  later-inner_b k lt =
      let here = at t.inner t.parts k h.parted.second_end.inner_each lt in
      rw (off (slice_index t.inner k) s.outer (λ n m q. (apart i p s t hats h).first_fourth n (slice_index t.inner k) m
      here (sym q)))
      (rw (off (slice_index t.inner k) s.inner (λ n m q. (apart i p s t hats h).second_fourth n (slice_index t.inner k)
      m here (sym q)))
      (rw (off (slice_index t.inner k) t.outer (λ n m q. (apart i p s t hats h).third_fourth n (slice_index t.inner k)
      m here (sym q)))
      (rw (has_yes (slice_index t.inner k) t.inner here)
      (ap (λ part. map new_edge (first_of_part part))
      (part_there t.inner t.parts k inner_b-once h.parted.second_end.inner_each lt)))))

  -- what is told of old and of new vertices is told of all
  pub each_vertex : (good : ℕ → Type 0) → ((v : ℕ) → Has v (kept_verts i p s t hats h) → good v)
      → ((k : ℕ) → k < length s.parts → good (slice_index s.outer k))
      → ((k : ℕ) → k < length s.parts → good (slice_index s.inner k))
      → ((k : ℕ) → k < length t.parts → good (slice_index t.outer k))
      → ((k : ℕ) → k < length t.parts → good (slice_index t.inner k))
      → (v : ℕ) → Has v (vert_names (joined i p s t hats h)) → good v
  each_vertex good kept oa ia ob ib v m =
      ⊎_elim (kept v)
      (λ new. ⊎_elim
      (λ three. ⊎_elim
      (λ two. ⊎_elim
      (by_place good s.outer s.parts h.parted.first_end.outer_each oa v)
      (by_place good s.inner s.parts h.parted.first_end.inner_each ia v)
      (Has-append_cases v s.outer s.inner two))
      (by_place good t.outer t.parts h.parted.second_end.outer_each ob v)
      (Has-append_cases v (s.outer ++ s.inner) t.outer three))
      (by_place good t.inner t.parts h.parted.second_end.inner_each ib v)
      (Has-append_cases v (s.outer ++ s.inner ++ t.outer) t.inner new))
      (Has-append_cases v (kept_verts i p s t hats h) (new_verts s t)
      (subst (Has v) (names_of_verts i p s t hats h)
      (Has-IsPermutation v (vert_names (joined i p s t hats h)) (map (λ (w : Vert). w.name) (verts i p s t hats h))
      (IsPermutation-sym (map (λ (w : Vert). w.name) (verts i p s t hats h)) (vert_names (joined i p s t hats h))
      (IsPermutation-map (λ (w : Vert). w.name) (verts i p s t hats h) (joined i p s t hats h).verts
      (by_name_keeps (λ w. w.name) (verts i p s t hats h)))) m)))

  -- lists that arrange the edges of both ends
  module _ (arr_a : IsPermutation (edges_of i p.a) (f p.a)) (arr_b : IsPermutation (edges_of i p.b) (f p.b))
      (old : (v : ℕ) → Has v (kept_verts i p s t hats h) → ArrangesEdges (graph i) v (f v)) where
    -- the items of the lists of the ends
    first_item : (x : ℕ) → Has x (f p.a) → Has x (edges_of i p.a)
    first_item x m = Has-IsPermutation x (f p.a) (edges_of i p.a) (IsPermutation-sym (edges_of i p.a) (f p.a) arr_a) m

    -- what a list of edges has of a part that is among them arranges the part
    part_arranged : (edges order part : List ℕ) → IsPermutation edges order → Distinct edges → Distinct part
        → ((x : ℕ) → Has x part → Has x edges) → IsPermutation part (part_order order part)
    part_arranged edges order part perm once part_once among =
        IsPermutation-from part (part_order order part) part_once
        (filter-Distinct (λ x. has x part) order (Distinct-IsPermutation edges order perm once))
        (λ x m. Has-filter (λ y. has y part) x order (Has-IsPermutation x edges order perm (among x m))
        (has_yes x part m))
        (λ x m. has_true x part (filter-Has (λ y. has y part) x order m).1)

    -- the edges of a part are edges of the end
    among_a : (k x : ℕ) → k < length s.parts → Has x (slice_index_or s.parts k []) → Has x (edges_of i p.a)
    among_a k x lt m = (Has-Contains x (edges_of i p.a)).1
        (all_from (graph i) p.a s.parts h.rules.edges_named.rise h.parts_a x (Has-flat_map x s.parts k lt m))

    -- and those of a part of the second end
    among_b : (k y : ℕ) → k < length t.parts → Has y (slice_index_or t.parts k []) → Has y (edges_of i p.b)
    among_b k y lt m = (Has-Contains y (edges_of i p.b)).1
        (all_from (graph i) p.b t.parts h.rules.edges_named.rise h.parts_b y (Has-flat_map y t.parts k lt m))

    -- so each part is arranged at its outer vertex
    order_of_a : (k : ℕ) → k < length s.parts
        → IsPermutation (slice_index_or s.parts k []) (part_order (f p.a) (slice_index_or s.parts k []))
    order_of_a k lt = part_arranged (edges_of i p.a) (f p.a) (slice_index_or s.parts k []) arr_a
        (once_at i p s t hats h p.a) (Distinct-rising (slice_index_or s.parts k []) (h.parts_a.rise k [] lt))
        (λ x m. among_a k x lt m)

    -- and at the second end
    order_of_b : (k : ℕ) → k < length t.parts
        → IsPermutation (slice_index_or t.parts k []) (part_order (f p.b) (slice_index_or t.parts k []))
    order_of_b k lt = part_arranged (edges_of i p.b) (f p.b) (slice_index_or t.parts k []) arr_b
        (once_at i p s t hats h p.b) (Distinct-rising (slice_index_or t.parts k []) (h.parts_b.rise k [] lt))
        (λ y m. among_b k y lt m)

    -- the edges of the first end whose partners are in a part are the partners of the part
    firsts_arranged : (k : ℕ) → k < length t.parts
        → IsPermutation (map (partner p p.b) (slice_index_or t.parts k []))
        (first_of_part (slice_index_or t.parts k []))
    firsts_arranged k lt =
        let part : List ℕ = slice_index_or t.parts k [] in
        IsPermutation-from (map (partner p p.b) part) (first_of_part part)
        (Distinct-map_on (partner p p.b) part
        (λ y z hy hz q. sym (partner_forth i p s t hats h y (among_b k y lt hy)) ∙ ap (partner p p.a) q
        ∙ partner_forth i p s t hats h z (among_b k z lt hz))
        (Distinct-rising part (h.parts_b.rise k [] lt)))
        (filter-Distinct (λ x. has (partner p p.a x) part) (f p.a)
        (Distinct-IsPermutation (edges_of i p.a) (f p.a) arr_a (once_at i p s t hats h p.a)))
        (λ x m.
        let y = map_on-Has (partner p p.b) x part m in
        let second = among_b k y.0 lt y.1 in
        subst (λ z. Has z (first_of_part part)) y.2
        (Has-filter (λ z. has (partner p p.a z) part) (partner p p.b y.0) (f p.a)
        (Has-IsPermutation (partner p p.b y.0) (edges_of i p.a) (f p.a) arr_a (partner_of_b i p s t hats h y.0 second))
        (has_yes (partner p p.a (partner p p.b y.0)) part
        (subst (λ z. Has z part) (sym (partner_forth i p s t hats h y.0 second)) y.1))))
        (λ x m.
        let r = filter-Has (λ z. has (partner p p.a z) part) x (f p.a) m in
        subst (λ z. Has z (map (partner p p.b) part)) (partner_back i p s t hats h x (first_item x r.0))
        (Has-map_on (partner p p.b) (partner p p.a x) part (has_true (partner p p.a x) part r.1)))

    -- each vertex after Join has a list of its edges
    arranged_old : (v : ℕ) → Has v (kept_verts i p s t hats h)
        → ArrangesEdges (graph (joined i p s t hats h)) v (later v)
    arranged_old v k =
        let r = kept-Has i p s t hats h v k in
        subst (IsPermutation (edges_of (joined i p s t hats h) v)) (sym (later-old v k))
        (subst (λ es. IsPermutation es (f v)) (sym (edges_of_old i p s t hats h v r.0 r.1 r.2)) (old v k))

    -- so has an outer vertex of the first end
    arranged_outer_a : (k : ℕ) → k < length s.parts
        → ArrangesEdges (graph (joined i p s t hats h)) (slice_index s.outer k) (later (slice_index s.outer k))
    arranged_outer_a k lt =
        subst (IsPermutation (edges_of (joined i p s t hats h) (slice_index s.outer k))) (sym (later-outer_a k lt))
        (subst (λ es. IsPermutation es (part_order (f p.a) (slice_index_or s.parts k [])))
        (sym (edges_of_outer_a i p s t hats h k lt)) (order_of_a k lt))

    -- and one of the second
    arranged_outer_b : (k : ℕ) → k < length t.parts
        → ArrangesEdges (graph (joined i p s t hats h)) (slice_index t.outer k) (later (slice_index t.outer k))
    arranged_outer_b k lt =
        subst (IsPermutation (edges_of (joined i p s t hats h) (slice_index t.outer k))) (sym (later-outer_b k lt))
        (subst (λ es. IsPermutation es (part_order (f p.b) (slice_index_or t.parts k [])))
        (sym (edges_of_outer_b i p s t hats h k lt)) (order_of_b k lt))

    -- so has an inner vertex of the first end
    arranged_inner_a : (k : ℕ) → k < length s.parts
        → ArrangesEdges (graph (joined i p s t hats h)) (slice_index s.inner k) (later (slice_index s.inner k))
    arranged_inner_a k lt =
        let part : List ℕ = slice_index_or s.parts k [] in
        let mine : List ℕ = part_order (f p.a) part in
        subst (IsPermutation (edges_of (joined i p s t hats h) (slice_index s.inner k))) (sym (later-inner_a k lt))
        (IsPermutation-trans (edges_of (joined i p s t hats h) (slice_index s.inner k)) (map new_edge part)
        (reverse (map new_edge mine)) (edges_of_inner_a i p s t hats h k lt)
        (IsPermutation-trans (map new_edge part) (map new_edge mine) (reverse (map new_edge mine))
        (IsPermutation-map new_edge part mine (order_of_a k lt)) (IsPermutation-reverse (map new_edge mine))))

    -- and one of the second
    arranged_inner_b : (k : ℕ) → k < length t.parts
        → ArrangesEdges (graph (joined i p s t hats h)) (slice_index t.inner k) (later (slice_index t.inner k))
    arranged_inner_b k lt =
        let part : List ℕ = slice_index_or t.parts k [] in
        subst (IsPermutation (edges_of (joined i p s t hats h) (slice_index t.inner k))) (sym (later-inner_b k lt))
        (IsPermutation-trans (edges_of (joined i p s t hats h) (slice_index t.inner k)) (map new_partner part)
        (map new_edge (first_of_part part)) (edges_of_inner_b i p s t hats h k lt)
        (subst (λ zs. IsPermutation zs (map new_edge (first_of_part part))) (map_twice (partner p p.b) new_edge part)
        (IsPermutation-map new_edge (map (partner p p.b) part) (first_of_part part) (firsts_arranged k lt))))

    -- the lists after Join arrange the edges of all vertices
    pub later-arranged : All (λ v. ArrangesEdges (graph (joined i p s t hats h)) v (later v))
        (vert_names (joined i p s t hats h))
    later-arranged = All-from_has (λ v. ArrangesEdges (graph (joined i p s t hats h)) v (later v))
        (vert_names (joined i p s t hats h))
        (each_vertex (λ v. ArrangesEdges (graph (joined i p s t hats h)) v (later v)) arranged_old arranged_outer_a
        arranged_inner_a arranged_outer_b arranged_inner_b)
