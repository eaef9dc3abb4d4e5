-- The edges of a block of an instance make a block with lists.
use Rattle.std.proofs.Common.{◌≡◌, ◌≢◌, ℕ, ◌<◌, ◌≤◌, Bool, true, eqb, List, [], ◌∷◌, length, map, filter, get_or, slice_index_or, sym, refl, ap, ◌∙◌, subst, inl, inr, ⊎_elim, arith}
use Rattle.std.specs.Prelude.{Some, None}
use Rattle.std.specs.List.{Contains, list_any}
use Rattle.std.specs.List.Sorted.{IsPermutation, IsStrictlyIncreasing}
use Rattle.std.specs.Option.{option_map, option_map_or}
use Rattle.std.proofs.lemmas.Bool.{cases_Bool, cases_lt, cond-false, cond-true, eq-eqb, eqb-true, false≢true, or_cases, or_left, or_right}
use Rattle.std.proofs.lemmas.List.{get_or_default, get_or-map, length-map}
use Rattle.std.proofs.lemmas.List.Elements.{Contains-get_or}
use Rattle.std.proofs.lemmas.List.Kept.{AllPairs-from_increasing, IsStrictlyIncreasing-filter}
use Rattle.std.proofs.lemmas.List.Sorted.{Contains-permutation, IsPermutation-sym}
use Rattle.cp_lists.specs.CyclicLists.{Distinct, Has}
use Rattle.cp_lists.proofs.DistinctLists.{Distinct-from, Has-Contains}
use Rattle.cp_lists.proofs.FilteredLists.{Has-filter, filter-Distinct, filter-Has}
use Rattle.cp_lists.proofs.MappedLists.{Distinct-map_on, Has-map_on, map_on-Has}
use Rattle.cp_pq.proofs.PermutedLists.{Distinct-IsPermutation}
use Rattle.cp_base.specs.Graphs.{AreWithin}
use Rattle.cp_conn.specs.Blocks.{HaveNoLoop, Touches}
use Rattle.cp_conn.specs.NamedGraphs.{InOneBlock, NamedGraph, edges_at, ends_at, pairs, rank}
use Rattle.cp_conn.proofs.BlockClasses.{block-sym, block-trans}
use Rattle.cp_conn.proofs.CutVertices.{kept_of, kept_pair}
use Rattle.cp_conn.proofs.EdgeEnds.{touches_true}
use Rattle.cp_conn.proofs.NamedGraphs.{Contains-edges_at, edges_at-Contains, edge_at, rank_at, rank_is}
use Rattle.cp_ears.specs.Bipolar.{HaveEdges, IsOneBlock}
use Rattle.cp_board.specs.declared.parts.EdgeRow.{EdgeRow}
use Rattle.cp_board.specs.declared.parts.Kind.{Kind}
use Rattle.cp_board.specs.declared.parts.Kind.TheVariants.{P, Q}
use Rattle.cp_board.specs.declared.parts.Vert.{Vert}
use Rattle.cp_board.specs.Names.{has}
use Rattle.cp_board.specs.Instances.{IsRightKind, IsSynchronized, Synchronized, edge_names, ends_of, graph, is_q, is_q_kind, kind_of, kind_psi, psi_at, vert_names}
use Rattle.cp_board.specs.Rotations.{ArrangesEdges}
use Rattle.cp_board.proofs.ListTests.{Contains-from_has}
use Rattle.cp_board.proofs.NamedLists.{found_at, rises_from}
use Rattle.cp_embed.specs.Arrangements.{IsArrangementOf}
use Rattle.cp_embed.specs.BoardBlocks.{AreBlockEdges, ends_some, list_among, listed_part, part_with}
use Rattle.cp_embed.specs.ListedBlocks.{IsListedBlock, MayBeGiven, edges_at as places_at, touches}
use Rattle.cp_embed.proofs.EdgeDarts.{edges_at-Has}
use Rattle.cp_embed.proofs.BoardBlockParts.{ends_at_place, length-ends, part-AreWithin, part-HaveNoLoop, part_blocks, rank_one}

-- rising numbers are distinct
pub rising_distinct : (xs : List ℕ) → IsStrictlyIncreasing xs → Distinct xs
rising_distinct xs up = Distinct-from xs (λ j k ltj ltk same. ⊎_elim
    (λ (l : j < k). let less = AllPairs-from_increasing xs up j k 0 l ltk in absurd (omega (arith, less, same)))
    (λ (g : k ≤ j). ⊎_elim
    (λ (l : k < j). let less = AllPairs-from_increasing xs up k j 0 l ltj in absurd (omega (arith, less, same)))
    (λ (h : j ≤ k). omega arith)
    (cases_lt k j))
    (cases_lt j k))

-- a test that some item passes
pub any_of : (p : ℕ → Bool) (xs : List ℕ) (x : ℕ) → Has x xs → p x ≡ true → list_any p xs ≡ true
any_of p [] x h t = absurd h
any_of p (y ∷ ys) x h t = ⊎_elim
    (λ e. or_left (p y) (list_any p ys) (ap p e ∙ t))
    (λ k. or_right (p y) (list_any p ys) (any_of p ys x k t))
    h

-- some item passes a test
pub of_any : (p : ℕ → Bool) (xs : List ℕ) → list_any p xs ≡ true → (x : ℕ) × Has x xs × (p x ≡ true)
of_any p [] t = absurd (false≢true t)
of_any p (y ∷ ys) t = ⊎_elim
    (λ e. (y, inl refl, e))
    (λ e. let r = of_any p ys e in (r.0, inr r.1, r.2))
    (or_cases (p y) (list_any p ys) t)

-- what is an item passes the test, and back
pub has-true : (xs : List ℕ) (x : ℕ) → Has x xs → has xs x ≡ true
has-true xs x h = any_of (eqb x) xs x h (eq-eqb x x refl)

-- and back
pub true-has : (xs : List ℕ) (x : ℕ) → has xs x ≡ true → Has x xs
true-has xs x t = (Has-Contains x xs).1 (Contains-from_has xs x t)

module _ (i : Synchronized) (is : IsSynchronized i) where
  -- the ends of an edge are two different vertices
  pub live_ends : (e : ℕ) → Contains (edge_names i) e
      → Contains (vert_names i) (ends_of i e).0 × Contains (vert_names i) (ends_of i e).1
      × ((ends_of i e).0 ≢ (ends_of i e).1)
  live_ends e c =
      let none : EdgeRow = record { name = 0; a = 0; b = 0 } in
      let row : EdgeRow = slice_index_or i.edges c.0 none in
      let within : c.0 < length i.edges = omega (arith, c.1, length-map i.edges (λ (x : EdgeRow). x.name)) in
      let named : row.name ≡ e =
      sym (get_or-map (λ (x : EdgeRow). x.name) i.edges c.0 none 0 within) ∙ get_or_default (edge_names i) c.0 0 e c.1
      ∙ c.2 in
      let found = found_at (λ (x : EdgeRow). x.name) i.edges c.0 none (rises_from (edge_names i) is.edges_named.rise)
      within in
      let is_row : ends_of i e ≡ (row.a, row.b) =
      sym (ap (λ n. ends_of i n) named) ∙ ap (λ o. option_map_or (λ (x : EdgeRow). (x.a, x.b)) o (0, 0)) found in
      subst (λ (x : ℕ × ℕ). Contains (vert_names i) x.0 × Contains (vert_names i) x.1 × (x.0 ≢ x.1)) (sym is_row)
      ((is.ends_live c.0 none within).0, (is.ends_live c.0 none within).1, is.ends_differ c.0 none within)

  -- no edge is a loop
  pub pairs-HaveNoLoop : HaveNoLoop (pairs (graph i))
  pairs-HaveNoLoop k lt same =
      let there = edge_at (graph i) k lt in
      (live_ends (get_or (edge_names i) k 0) there.0).2
      (ap (λ (p : ℕ × ℕ). p.0) there.1 ∙ same ∙ sym (ap (λ (p : ℕ × ℕ). p.1) there.1))

  -- the psi of a Q-vertex arranges its edges, where its kind is right
  by_kind : (v : ℕ) (k : Kind) → kind_of i v ≡ Some k → IsRightKind (graph i) v k → is_q i v ≡ true
      → ArrangesEdges (graph i) v (psi_at i v)
  by_kind v P e r q = absurd (false≢true (sym (ap is_q_kind e) ∙ q))
  by_kind v (Q cell psi) e r q =
      subst (ArrangesEdges (graph i) v) (sym (ap (λ o. option_map_or kind_psi o []) e)) r.0

  -- and so it does
  pub psi-ArrangesEdges : (v : ℕ) → Contains (vert_names i) v → is_q i v ≡ true → ArrangesEdges (graph i) v (psi_at i v)
  psi-ArrangesEdges v c q =
      let none : Vert = record { name = 0; kind = P } in
      let row : Vert = slice_index_or i.verts c.0 none in
      let within : c.0 < length i.verts = omega (arith, c.1, length-map i.verts (λ (x : Vert). x.name)) in
      let named : row.name ≡ v =
      sym (get_or-map (λ (x : Vert). x.name) i.verts c.0 none 0 within) ∙ get_or_default (vert_names i) c.0 0 v c.1
      ∙ c.2 in
      let found = found_at (λ (x : Vert). x.name) i.verts c.0 none (rises_from (vert_names i) is.verts_named.rise)
      within in
      let kind : kind_of i v ≡ Some row.kind =
      sym (ap (λ n. kind_of i n) named) ∙ ap (λ o. option_map (λ (x : Vert). x.kind) o) found in
      by_kind v row.kind kind (subst (λ n. IsRightKind (graph i) n row.kind) named (is.lists_right c.0 none within)) q

  -- some edges
  module _ (es : List ℕ) (live : (f : ℕ) → Contains es f → Contains (edge_names i) f) where
    -- an end of one of them is one of the vertices of the part
    end_in : (f v : ℕ) → Contains es f → Contains (vert_names i) v → ends_at (graph i) v f ≡ true
        → Contains (part_with (graph i) es).verts v
    end_in f v c cv t =
        kept_of (ends_some (graph i) es) (vert_names i) v cv (any_of (ends_at (graph i) v) es f
        ((Has-Contains f es).1 c) t)

    -- and so are both
    pub part-ends_in : (f : ℕ) → Contains es f → Contains (part_with (graph i) es).verts (ends_of i f).0
        × Contains (part_with (graph i) es).verts (ends_of i f).1
    part-ends_in f c =
        let ends = live_ends f (live f c) in
        let a = (ends_of i f).0 in
        let b = (ends_of i f).1 in (
          end_in f a c ends.0 (or_left (eqb a a) (eqb b a) (eq-eqb a a refl)),
          end_in f b c ends.1 (or_right (eqb a b) (eqb b b) (eq-eqb b b refl)),
        )

  -- the edges of a block
  module _ (e : ℕ) (es : List ℕ) (block : AreBlockEdges i e es) where
    -- the graph
    abbrev g : NamedGraph
    g = graph i

    -- the vertices of the part
    abbrev vs : List ℕ
    vs = (part_with g es).verts

    -- names are distinct
    names_once : Distinct g.edges
    names_once = rising_distinct g.edges is.edges_named.rise

    -- the edges rise
    pub edges_rise : IsStrictlyIncreasing es
    edges_rise = subst IsStrictlyIncreasing (sym block.edges)
        (IsStrictlyIncreasing-filter block.inside g.edges is.edges_named.rise)

    -- so they are distinct
    edges_once : Distinct es
    edges_once = rising_distinct es edges_rise

    -- the vertices rise
    pub verts_rise : IsStrictlyIncreasing vs
    verts_rise = IsStrictlyIncreasing-filter (ends_some g es) g.verts is.verts_named.rise

    -- the vertices are vertices
    pub verts_in : (v : ℕ) → Contains vs v → Contains g.verts v
    verts_in v c = (kept_pair (ends_some g es) g.verts v c).0

    -- so they are distinct
    verts_once : Distinct vs
    verts_once = rising_distinct vs verts_rise

    -- the edges are edges of the block
    inside_of : (f : ℕ) → Contains es f → Contains g.edges f × (block.inside f ≡ true)
    inside_of f c = kept_pair block.inside g.edges f (subst (λ xs. Contains xs f) block.edges c)

    -- so they are edges
    pub edges_in : (f : ℕ) → Contains es f → Contains g.edges f
    edges_in f c = (inside_of f c).0

    -- their ends are among the vertices
    pub ends_in : (f : ℕ) → Contains es f → Contains vs (g.ends f).0 × Contains vs (g.ends f).1
    ends_in f c = part-ends_in es edges_in f c

    -- with each edge its block
    closed : (f h : ℕ) → Contains es f → Contains g.edges h → InOneBlock g f h → Contains es h
    closed f h c ch b =
        let of_e = (block.is_block.tells f (edges_in f c)).0 (inside_of f c).1 in
        subst (λ xs. Contains xs h) (sym block.edges)
        (kept_of block.inside g.edges h ch ((block.is_block.tells h ch).1
        (block-trans (pairs g) (rank g.edges e) (rank g.edges f) (rank g.edges h) pairs-HaveNoLoop of_e b)))

    -- the numbered ends
    abbrev ends : List (ℕ × ℕ)
    ends = (listed_part i es).graph.ends

    -- there are as many as edges
    pub size : length ends ≡ length es
    size = length-ends g vs es names_once verts_once edges_once edges_in ends_in

    -- the ends are numbers of vertices
    within : AreWithin (length vs) ends
    within = part-AreWithin g vs es names_once verts_once edges_once edges_in ends_in

    -- no edge is a loop
    no_loop : HaveNoLoop ends
    no_loop = part-HaveNoLoop g vs es names_once verts_once edges_once edges_in ends_in
        (λ f c. (live_ends f (edges_in f c)).2)

    -- all edges are in one block
    one_block : IsOneBlock ends
    one_block j k ltj ltk =
        let bj : j < length es = omega (arith, ltj, size) in
        let bk : k < length es = omega (arith, ltk, size) in
        let f = get_or es j 0 in
        let h = get_or es k 0 in
        let cf = inside_of f (Contains-get_or es j 0 bj) in
        let ch = inside_of h (Contains-get_or es k 0 bk) in
        (part_blocks g vs es names_once verts_once edges_once edges_in ends_in closed j k bj bk).1
        (block-trans (pairs g) (rank g.edges f) (rank g.edges e) (rank g.edges h) pairs-HaveNoLoop
        (block-sym (pairs g) (rank g.edges e) (rank g.edges f) ((block.is_block.tells f cf.0).0 cf.1))
        ((block.is_block.tells h ch.0).0 ch.1))

    -- an edge ends at a vertex exactly where its number touches the number of the vertex
    touched : (k w : ℕ) → k < length es → Contains vs w → ends_at g w (get_or es k 0) ≡ true
        → touches ends (rank vs w) k ≡ true
    touched k w lt c t =
        let at = ends_at_place g vs es names_once verts_once edges_once edges_in ends_in k lt in
        let f = get_or es k 0 in
        ⊎_elim
        (λ h. or_left (eqb (get_or ends k (0, 0)).0 (rank vs w)) (eqb (get_or ends k (0, 0)).1 (rank vs w))
        (eq-eqb (get_or ends k (0, 0)).0 (rank vs w) (ap (λ (p : ℕ × ℕ). p.0) at
        ∙ ap (rank vs) (eqb-true (g.ends f).0 w h))))
        (λ h. or_right (eqb (get_or ends k (0, 0)).0 (rank vs w)) (eqb (get_or ends k (0, 0)).1 (rank vs w))
        (eq-eqb (get_or ends k (0, 0)).1 (rank vs w) (ap (λ (p : ℕ × ℕ). p.1) at
        ∙ ap (rank vs) (eqb-true (g.ends f).1 w h))))
        (or_cases (eqb (g.ends f).0 w) (eqb (g.ends f).1 w) t)

    -- and back
    untouched : (k w : ℕ) → k < length es → Contains vs w → touches ends (rank vs w) k ≡ true
        → ends_at g w (get_or es k 0) ≡ true
    untouched k w lt c t =
        let at = ends_at_place g vs es names_once verts_once edges_once edges_in ends_in k lt in
        let f = get_or es k 0 in
        let cf = ends_in f (Contains-get_or es k 0 lt) in
        ⊎_elim
        (λ h. or_left (eqb (g.ends f).0 w) (eqb (g.ends f).1 w)
        (eq-eqb (g.ends f).0 w (rank_one vs (g.ends f).0 w cf.0 c
        (sym (ap (λ (p : ℕ × ℕ). p.0) at) ∙ eqb-true (get_or ends k (0, 0)).0 (rank vs w) h))))
        (λ h. or_right (eqb (g.ends f).0 w) (eqb (g.ends f).1 w)
        (eq-eqb (g.ends f).1 w (rank_one vs (g.ends f).1 w cf.1 c
        (sym (ap (λ (p : ℕ × ℕ). p.1) at) ∙ eqb-true (get_or ends k (0, 0)).1 (rank vs w) h))))
        (or_cases (eqb (get_or ends k (0, 0)).0 (rank vs w)) (eqb (get_or ends k (0, 0)).1 (rank vs w)) t)

    -- the name of a number
    named : (v : ℕ) → v < length vs → Contains vs (get_or vs v 0) × (rank vs (get_or vs v 0) ≡ v)
    named v lt = (Contains-get_or vs v 0 lt, rank_is vs v (get_or vs v 0) verts_once lt refl)

    -- each vertex has an edge
    each_has_edge : HaveEdges (length vs) ends
    each_has_edge v lt =
        let w = get_or vs v 0 in
        let c = named v lt in
        let some = of_any (ends_at g w) es (kept_pair (ends_some g es) g.verts w c.0).1 in
        let at = rank_at es some.0 ((Has-Contains some.0 es).0 some.1) in
        let t = touched (rank es some.0) w at.0 c.0 (ap (ends_at g w) at.1 ∙ some.2) in (
          rank es some.0,
          omega (arith, at.0, size),
          subst (λ (n : ℕ). Touches ends n (rank es some.0)) c.1
              (touches_true ends (rank vs w) (rank es some.0) t),
        )

    -- what is kept of a psi arranges the numbers of the edges of its vertex
    kept-IsArrangementOf : (w : ℕ) → Contains vs w → is_q i w ≡ true
        → IsArrangementOf (map (rank es) (filter (has es) (psi_at i w))) (places_at ends (rank vs w))
    kept-IsArrangementOf w c q = record {
      distinct = Distinct-map_on (rank es) kept
          (λ f h cf ch same. rank_one es f h (in_es f cf) (in_es h ch) same)
          (filter-Distinct (has es) (psi_at i w) psi_once);
      items = λ d. (
        λ h. let r = map_on-Has (rank es) d kept h in
            let ce = in_es r.0 r.1 in
            let at = rank_at es r.0 ce in
            let of_w = edges_at-Contains g w r.0 (Contains-permutation (psi_at i w) (edges_at g w) r.0
            (IsPermutation-sym (edges_at g w) (psi_at i w) psi)
            ((Has-Contains r.0 (psi_at i w)).0 (filter-Has (has es) r.0 (psi_at i w) r.1).0)) in
            subst (λ (n : ℕ). Has n (places_at ends (rank vs w))) r.2
            ((edges_at-Has ends (rank vs w) (rank es r.0)).1
            (omega (arith, at.0, size), touched (rank es r.0) w at.0 c (ap (ends_at g w) at.1 ∙ of_w.1))),
        λ h. let r = (edges_at-Has ends (rank vs w) d).0 h in
            let lt : d < length es = omega (arith, r.0, size) in
            let f = get_or es d 0 in
            let cf = Contains-get_or es d 0 lt in
            let of_w = Contains-edges_at g w f (edges_in f cf) (untouched d w lt c r.1) in
            let in_psi = Contains-permutation (edges_at g w) (psi_at i w) f psi of_w in
            subst (λ (n : ℕ). Has n (map (rank es) kept)) (rank_is es d f edges_once lt refl)
            (Has-map_on (rank es) f kept (Has-filter (has es) f (psi_at i w) ((Has-Contains f (psi_at i w)).1 in_psi)
            (has-true es f ((Has-Contains f es).1 cf)))),
      );
    }
      where
        -- the vertex is one of the graph
        live : Contains g.verts w
        live = (kept_pair (ends_some g es) g.verts w c).0

        -- its psi arranges its edges
        psi : IsPermutation (edges_at g w) (psi_at i w)
        psi = psi-ArrangesEdges w live q

        -- without repeating one
        psi_once : Distinct (psi_at i w)
        psi_once = Distinct-IsPermutation (edges_at g w) (psi_at i w) psi
            (rising_distinct (edges_at g w) (IsStrictlyIncreasing-filter (ends_at g w) g.edges is.edges_named.rise))

        -- what is kept of it
        kept : List ℕ
        kept = filter (has es) (psi_at i w)

        -- is of the edges
        in_es : (f : ℕ) → Has f kept → Contains es f
        in_es f h = Contains-from_has es f (filter-Has (has es) f (psi_at i w) h).1

    -- the list of a vertex, if there is one, arranges its edges
    given : (w : ℕ) → Contains vs w → MayBeGiven ends (rank vs w) (list_among i es w)
    given w c = ⊎_elim
        (λ q. subst (MayBeGiven ends (rank vs w)) (sym (cond-true (is_q i w)
        (Some (map (rank es) (filter (has es) (psi_at i w)))) None q)) (kept-IsArrangementOf w c q))
        (λ p. subst (MayBeGiven ends (rank vs w)) (sym (cond-false (is_q i w)
        (Some (map (rank es) (filter (has es) (psi_at i w)))) None p)) tt)
        (cases_Bool (is_q i w))

    -- it is a block with lists
    pub listed_part-IsListedBlock : IsListedBlock (listed_part i es)
    listed_part-IsListedBlock = record {
      within = within;
      no_loop = no_loop;
      one_block = one_block;
      each_has_edge = each_has_edge;
      list_each = length-map vs (list_among i es);
      arranged = λ v lt.
          let w = get_or vs v 0 in
          let c = named v lt in
          subst (MayBeGiven ends v) (sym (get_or-map (list_among i es) vs v 0 None lt))
          (subst (λ (n : ℕ). MayBeGiven ends n (list_among i es w)) c.1 (given w c.0));
    }
