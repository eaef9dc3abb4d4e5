-- A solution after Join has lists of new edges at the inner vertices, and they make a rotation system of genus zero.
use Rattle.std.proofs.Common.{◌≡◌, ℕ, suc, ◌+◌, ◌*◌, ◌<◌, false, eqb, List, [], ◌∷◌, ◌++◌, length, map, slice_index, slice_index_or, sym, refl, ap, ap₂, ◌∙◌, subst, inl, inr, ⊎_elim, arith}
use Rattle.std.specs.Prelude.{Some, filter, find}
use Rattle.std.specs.List.{All, Contains, flat_map}
use Rattle.std.specs.Option.{option_map_or}
use Rattle.std.specs.List.Sorted.{IsStrictlyIncreasing}
use Rattle.std.proofs.lemmas.List.{append-nil, get_or-append-add, get_or_append_left, length-append, map-append}
use Rattle.std.proofs.lemmas.List.Elements.{filter-append}
use Rattle.std.proofs.lemmas.List.Kept.{IsStrictlyIncreasing-filter}
use Rattle.std.proofs.lemmas.List.Sorted.{IsPermutation-sym, IsPermutation-trans}
use Rattle.cp_lists.specs.CyclicLists.{Distinct, Has}
use Rattle.cp_lists.proofs.DistinctLists.{Has-Contains, Has-append_cases, Has-append_left, Has-append_right}
use Rattle.cp_lists.proofs.FilteredLists.{filter-Distinct, filter_all}
use Rattle.cp_lists.proofs.MappedLists.{map_agree_on, map_on-Has}
use Rattle.cp_lists.proofs.PermutedLists.{Has-IsPermutation, IsPermutation-from}
use Rattle.cp_conn.specs.NamedGraphs.{NamedGraph, edges_at, ends_at, rank}
use Rattle.cp_conn.proofs.NamedGraphs.{Contains-edges_at, edges_at-Contains, map_has, rank_is}
use Rattle.cp_rot.specs.Systems.{IsRotation}
use Rattle.cp_rot.specs.Genus.{HasGenusZero}
use Rattle.cp_board.specs.declared.parts.Pipe.{Pipe}
use Rattle.cp_board.specs.Names.{has}
use Rattle.cp_board.specs.Instances.{Synchronized, edge_names, edges_of, ends_of, graph, vert_names}
use Rattle.cp_board.specs.Joins.{part_of}
use Rattle.cp_board.specs.Rotations.{ArrangesEdges, dart, system}
use Rattle.cp_board.specs.Solutions.{Solves}
use Rattle.cp_board.specs.Steps.{partner}
use Rattle.cp_sync.proofs.NumberedGraphs.{IsRotation-system, system-given}
use Rattle.cp_join.specs.InnerSystems.{hat_darts, inner_at, inner_lists, inner_system}
use Rattle.cp_join.specs.Partings.{new_verts}
use Rattle.cp_join.specs.declared.parted_ends.Parting.{Parting}
use Rattle.cp_join.proofs.EarlierSolutions.{arranged_at as arranged_after, halves-CanBeFlat, perm_a}
use Rattle.cp_join.proofs.FreshNames.{fresh_once, fresh_rise}
use Rattle.cp_join.proofs.GraphSystems.{IsLoopless, arranged-CanBeFlat}
use Rattle.cp_join.proofs.JoinNames.{HasPartings, apart, inner_a_new, inner_b_new}
use Rattle.cp_join.proofs.JoinedGraph.{edges_a, hat, hats_all, joined, once_firsts, partner_a, partner_of_a}
use Rattle.cp_join.proofs.JoinedHalves.{after-IsLoopless, by_place, halves-AreBeside, hat-place, inner-AreListed, inner-live, inner_dart-a, inner_dart-b, inner_graph, new_ends}
use Rattle.cp_join.proofs.JoinedRules.{new_has}
use Rattle.cp_join.proofs.JoinedVertices.{inner_a, inner_a_has, inner_b, inner_b_has}
use Rattle.cp_join.proofs.NamedParts.{has_from, has_not}
use Rattle.cp_join.proofs.PartLists.{all_from, all_has, part_has}
use Rattle.cp_join.proofs.PipePairs.{found_once}
use Rattle.cp_join.proofs.RisingLists.{Distinct-rising, Has-flat_map}
use Rattle.cp_join.proofs.SameLists.{All-from_has, none_kept}

module _ (i : Synchronized) (p : Pipe) (s t : Parting) (hats : List ℕ) (h : HasPartings i p s t hats) where
  -- the instance after Join
  abbrev after : Synchronized
  after = joined i p s t hats h

  -- the graph of the inner vertices
  abbrev inner : NamedGraph
  inner = inner_graph i p s t hats h

  -- its vertices: the inner vertices of the first end, and behind them those of the second
  abbrev verts : List ℕ
  verts = s.inner ++ t.inner

  -- the inner vertices are the new ones that pass the test for them
  inner_kept : filter (has verts) (new_verts s t) ≡ verts
  inner_kept =
      filter-append (has verts) (s.outer ++ s.inner ++ t.outer) t.inner
      ∙ ap₂ (λ us ws. us ++ ws)
      (filter-append (has verts) (s.outer ++ s.inner) t.outer
      ∙ ap₂ (λ us ws. us ++ ws)
      (filter-append (has verts) s.outer s.inner
      ∙ ap₂ (λ us ws. us ++ ws) (none s.outer (λ n m. no_outer_a n m))
      (filter_all (has verts) s.inner (λ d m. has_from verts d (Has-append_left d s.inner t.inner m))))
      (none t.outer (λ n m. no_outer_b n m)) ∙ append-nil s.inner)
      (filter_all (has verts) t.inner (λ d m. has_from verts d (Has-append_right d s.inner t.inner m)))
    where
      none : (names : List ℕ) → ((n : ℕ) → Has n names → Has n verts → ⊥) → filter (has verts) names ≡ []
      none names off = none_kept (has verts) names
          (All-from_has (λ n. has verts n ≡ false) names (λ n m. has_not verts n (off n m)))

      no_outer_a : (n : ℕ) → Has n s.outer → Has n verts → ⊥
      no_outer_a n m k = ⊎_elim
          (λ l. (apart i p s t hats h).first_second n n m l refl)
          (λ l. (apart i p s t hats h).first_fourth n n m l refl)
          (Has-append_cases n s.inner t.inner k)

      no_outer_b : (n : ℕ) → Has n t.outer → Has n verts → ⊥
      no_outer_b n m k = ⊎_elim
          (λ l. (apart i p s t hats h).second_third n n l m refl)
          (λ l. (apart i p s t hats h).third_fourth n n m l refl)
          (Has-append_cases n s.inner t.inner k)

  -- so they rise
  verts-rise : IsStrictlyIncreasing verts
  verts-rise = subst IsStrictlyIncreasing inner_kept
      (IsStrictlyIncreasing-filter (has verts) (new_verts s t)
      (fresh_rise (vert_names i) (new_verts s t) h.parted.new_verts))

  -- and none of them stands twice
  verts-once : Distinct verts
  verts-once = Distinct-rising verts verts-rise

  -- a new edge is that of an edge of the first end
  pub hat_edge : (e : ℕ) → Contains hats e → (x : ℕ) × Has x (edges_a i p s t hats h) × (hat i p s t hats h x ≡ e)
  hat_edge e c = map_on-Has (hat i p s t hats h) e (edges_a i p s t hats h)
      (subst (Has e) (sym (hats_all i p s t hats h)) ((Has-Contains e hats).1 c))

  -- the graph of the inner vertices has no loop
  pub inner-IsLoopless : IsLoopless (inner_graph i p s t hats h)
  inner-IsLoopless = record {
    verts_rise = verts-rise;
    edges_rise = fresh_rise (edge_names i) hats h.hats_new;
    live = λ e c.
        let x = hat_edge e c in
        let told : ends_of after e ≡ (inner_a i p s t hats h x.0, inner_b i p s t hats h x.0) =
        ap (ends_of after) (sym x.2) ∙ new_ends i p s t hats h x.0 x.1 in
        subst (λ (y : ℕ × ℕ). Contains verts y.0 × Contains verts y.1) (sym told) (
          (Has-Contains (inner_a i p s t hats h x.0) verts).0
              (Has-append_left (inner_a i p s t hats h x.0) s.inner t.inner (inner_a_has i p s t hats h x.0 x.1)),
          (Has-Contains (inner_b i p s t hats h x.0) verts).0
              (Has-append_right (inner_b i p s t hats h x.0) s.inner t.inner (inner_b_has i p s t hats h x.0 x.1)),
        );
    differ = λ e c. (after-IsLoopless i p s t hats h).differ e ((halves-AreBeside i p s t hats h).some_b e c);
  }

  -- a live new edge is one after Join
  some_new : (e : ℕ) → Contains hats e → Contains (edge_names after) e
  some_new e c = (halves-AreBeside i p s t hats h).some_b e c

  -- lists of a solution after Join
  module _ (r : ℕ → List ℕ) (solves : Solves (joined i p s t hats h) r) where
    -- they arrange the edges of each inner vertex
    inner_arranged : All (λ v. ArrangesEdges inner v (r v)) verts
    inner_arranged = All-from_has (λ v. ArrangesEdges inner v (r v)) verts (λ v m.
        IsPermutation-trans (edges_at inner v) (edges_of after v) (r v)
        (IsPermutation-from (edges_at inner v) (edges_of after v)
        (filter-Distinct (ends_at inner v) hats (fresh_once (edge_names i) hats h.hats_new))
        (filter-Distinct (ends_at (graph after) v) (edge_names after)
        (Distinct-rising (edge_names after) (after-IsLoopless i p s t hats h).edges_rise))
        (λ e k.
        let live = edges_at-Contains inner v e ((Has-Contains e (edges_at inner v)).0 k) in
        (Has-Contains e (edges_of after v)).1 (Contains-edges_at (graph after) v e (some_new e live.0) live.1))
        (λ e k.
        let c : Contains (edges_of after v) e = (Has-Contains e (edges_of after v)).0 k in
        (Has-Contains e (edges_at inner v)).1 (Contains-edges_at inner v e (inner-live i p s t hats h v e m c)
        (edges_at-Contains (graph after) v e c).1)))
        (arranged_after i p s t hats h r solves v (inner_there v m)))
      where
        inner_there : (v : ℕ) → Has v verts → Contains (vert_names after) v
        inner_there v m = new_has i p s t hats h v (⊎_elim
            (λ k. inner_a_new i p s t hats h v k) (λ k. inner_b_new i p s t hats h v k)
            (Has-append_cases v s.inner t.inner m))

    -- so they make a rotation system
    pub inner-IsRotation : IsRotation (system (inner_graph i p s t hats h) r)
    inner-IsRotation = IsRotation-system inner verts-rise (fresh_rise (edge_names i) hats h.hats_new)
        inner-IsLoopless.live inner-IsLoopless.differ r inner_arranged

    -- its genus is zero
    pub inner-HasGenusZero : HasGenusZero (system (inner_graph i p s t hats h) r)
    inner-HasGenusZero = (arranged-CanBeFlat inner inner-IsLoopless r inner_arranged).1
        (halves-CanBeFlat i p s t hats h r solves).1

    -- an item of the list of an inner vertex is a new edge
    pub inner_listed : (v e : ℕ) → Has v verts → Has e (r v) → Contains hats e
    inner_listed v e m k = inner-AreListed i p s t hats h r solves.rotation.arranged v m e k

    -- its dart at an inner vertex of the first end is its first
    first_dart : (v e : ℕ) → Has v s.inner → Has e (r v) → dart inner v e ≡ 2 * rank hats e + 0
    first_dart v e m k = by_place (λ w. Has e (r w) → dart inner w e ≡ 2 * rank hats e + 0) s.inner s.parts
        h.parted.first_end.inner_each (λ j lt l.
        let x = map_on-Has (hat i p s t hats h) e (slice_index_or s.parts j [])
        (Has-IsPermutation e (r (slice_index s.inner j)) (map (hat i p s t hats h) (slice_index_or s.parts j []))
        (IsPermutation-sym (map (hat i p s t hats h) (slice_index_or s.parts j [])) (r (slice_index s.inner j))
        (perm_a i p s t hats h r solves j lt)) l) in
        let here = inner_dart-a i p s t hats h j x.0 lt x.1 in
        let live : Has x.0 (edges_a i p s t hats h) =
        (Has-Contains x.0 (edges_a i p s t hats h)).1
        (all_from (graph i) p.a s.parts h.rules.edges_named.rise h.parts_a x.0 (Has-flat_map x.0 s.parts j lt x.1)) in
        let place = hat-place i p s t hats h x.0 live in
        subst (λ y. dart inner (slice_index s.inner j) y ≡ 2 * rank hats y + 0) x.2 (omega (arith, here, place))) v m k

    -- and at an inner vertex of the second end its second
    second_dart : (v e : ℕ) → Has v t.inner → Has e (r v) → dart inner v e ≡ 2 * rank hats e + 1
    second_dart v e m k = by_place (λ w. dart inner w e ≡ 2 * rank hats e + 1) t.inner t.parts
        h.parted.second_end.inner_each (λ j lt.
        let x = hat_edge e (inner_listed v e (Has-append_right v s.inner t.inner m) k) in
        let here = inner_dart-b i p s t hats h j x.0 lt x.1 in
        let place = hat-place i p s t hats h x.0 x.1 in
        subst (λ y. dart inner (slice_index t.inner j) y ≡ 2 * rank hats y + 1) x.2 (omega (arith, here, place))) v m

    -- the lists of darts that are made of the solution are those of this system
    made_lists : inner_lists hats s t r ≡ (system inner r).lists
    made_lists =
        ap₂ (λ us ws. us ++ ws)
        (same_rows s.inner 0 (λ v e m k. first_dart v e m k))
        (same_rows t.inner 1 (λ v e m k. second_dart v e m k))
        ∙ sym (map-append (λ v. map (dart inner v) (r v)) s.inner t.inner)
      where
        same_rows : (vs : List ℕ) (end : ℕ)
            → ((v e : ℕ) → Has v vs → Has e (r v) → dart inner v e ≡ 2 * rank hats e + end)
            → map (λ v. hat_darts hats end (r v)) vs ≡ map (λ v. map (dart inner v) (r v)) vs
        same_rows [] end each = refl
        same_rows (v ∷ vs) end each =
            ap₂ (λ xs rows. xs ∷ rows)
            (map_agree_on (λ e. 2 * rank hats e + end) (dart inner v) (r v) (λ e k. sym (each v e (inl refl) k)))
            (same_rows vs end (λ w e m k. each w e (inr m) k))

    -- the place of the inner vertex for an edge of the first end is the number of the part of this edge
    pub first_place : (x : ℕ) → Has x (edges_a i p s t hats h)
        → rank verts (inner_a i p s t hats h x) ≡ part_of s.parts x
    first_place x k =
        let part = part_has s.parts x (all_has (graph i) p.a s.parts h.rules.edges_named.rise h.parts_a x
        ((Has-Contains x (edges_a i p s t hats h)).0 k)) in
        let low : part_of s.parts x < length s.inner = omega (arith, part.0, h.parted.first_end.inner_each) in
        rank_is verts (part_of s.parts x) (inner_a i p s t hats h x) verts-once
        (omega (arith, low, length-append s.inner t.inner)) (get_or_append_left s.inner t.inner 0 (part_of s.parts x)
        low)

    -- that of the inner vertex for its partner is the number of the partner's part, behind those of the first end
    pub second_place : (x : ℕ) → Has x (edges_a i p s t hats h)
        → rank verts (inner_b i p s t hats h x) ≡ length s.parts + part_of t.parts (partner p p.a x)
    second_place x k =
        let y : ℕ = partner p p.a x in
        let part = part_has t.parts y (all_has (graph i) p.b t.parts h.rules.edges_named.rise h.parts_b y
        ((Has-Contains y (edges_of i p.b)).0 (partner_of_a i p s t hats h x k))) in
        let there : rank verts (inner_b i p s t hats h x) ≡ length s.inner + part_of t.parts y =
        rank_is verts (length s.inner + part_of t.parts y) (inner_b i p s t hats h x) verts-once
        (omega (arith, part.0, h.parted.second_end.inner_each, length-append s.inner t.inner))
        (get_or-append-add s.inner t.inner (part_of t.parts y) 0) in
        omega (arith, there, h.parted.first_end.inner_each)

    -- the places of the ends of a new edge, by its pair
    abbrev told : ℕ × ℕ → Type 0
    told x = (part_of s.parts x.0 ≡ rank verts (ends_of after (hat i p s t hats h x.0)).0)
        × (length s.parts + part_of t.parts x.1 ≡ rank verts (ends_of after (hat i p s t hats h x.0)).1)

    -- and so are the vertices of the darts
    made_at : inner_at p.pairs s t ≡ (system inner r).at
    made_at =
        by_pairs p.pairs (λ x m. row_there x m)
        ∙ ap (flat_map (λ e. rank verts (ends_of after e).0 ∷ rank verts (ends_of after e).1 ∷ []))
        (ap (map (hat i p s t hats h)) h.pairs.first ∙ hats_all i p s t hats h)
      where
        row_there : (x : ℕ × ℕ) → Contains p.pairs x → told x
        row_there x c =
            let live : Has x.0 (edges_a i p s t hats h) =
            subst (Has x.0) h.pairs.first ((Has-Contains x.0 (map (λ (y : ℕ × ℕ). y.0) p.pairs)).1
            (map_has (λ (y : ℕ × ℕ). y.0) p.pairs x c)) in
            let ends = new_ends i p s t hats h x.0 live in
            let partner_is : partner p p.a x.0 ≡ x.1 =
            partner_a i p s t hats h x.0
            ∙ ap (λ o. option_map_or (λ (y : ℕ × ℕ). y.1) o 0)
            (subst (λ (y : ℕ × ℕ). find (λ (z : ℕ × ℕ). eqb z.0 y.0) p.pairs ≡ Some y) c.2
            (found_once (λ (y : ℕ × ℕ). y.0) p.pairs c.0 x (once_firsts i p s t hats h) c.1)) in (
              sym (ap (λ (y : ℕ × ℕ). rank verts y.0) ends ∙ first_place x.0 live),
              sym (ap (λ (y : ℕ × ℕ). rank verts y.1) ends ∙ second_place x.0 live
                  ∙ ap (λ y. length s.parts + part_of t.parts y) partner_is),
            )

        by_pairs : (xs : List (ℕ × ℕ)) → ((x : ℕ × ℕ) → Contains xs x → told x)
            → flat_map (λ x. part_of s.parts x.0 ∷ (length s.parts + part_of t.parts x.1) ∷ []) xs
            ≡ flat_map (λ e. rank verts (ends_of after e).0 ∷ rank verts (ends_of after e).1 ∷ [])
            (map (hat i p s t hats h) (map (λ x. x.0) xs))
        by_pairs [] each = refl
        by_pairs (x ∷ xs) each =
            let here = each x (0, omega arith, refl) in
            ap₂ (λ us ws. us ++ ws)
            (ap₂ (λ m n. m ∷ n ∷ []) here.0 here.1)
            (by_pairs xs (λ y c. let low = c.1 in each y (suc c.0, omega (arith, low), c.2)))

    -- so the system that is made of the solution is that of the inner vertices
    pub made_system : inner_system p.pairs hats s t r ≡ system (inner_graph i p s t hats h) r
    made_system = system-given inner r (inner_at p.pairs s t) (inner_lists hats s t r) made_at made_lists
