-- A block of an instance has a rotation with given directions exactly where it has a rotation system with these
-- directions when it is cut out.
use Rattle.std.proofs.Common.{◌≡◌, ◌≢◌, ℕ, ◌*◌, ◌/◌, ◌%◌, ◌<◌, ◌↔◌, Bool, true, false, cond, eqb, List, [], ◌∷◌, length, filter, map, slice_index, slice_index_or, sym, refl, ap, ap₂, ◌∙◌, subst, inl, inr, ⊎_elim, arith}
use Rattle.std.specs.Prelude.{Some, None}
use Rattle.std.specs.List.{All, Contains}
use Rattle.std.specs.List.Sorted.{IsPermutation, IsStrictlyIncreasing}
use Rattle.std.proofs.lemmas.Bool.{cases_Bool, cases_eq, cond-false, cond-true, eq-eqb, eqb-true, false≢true, ne_eqb, or_cases}
use Rattle.std.proofs.lemmas.List.{get_or_default, get_or-map, length-map}
use Rattle.std.proofs.lemmas.List.Elements.{All-contains}
use Rattle.std.proofs.lemmas.List.Sorted.{Contains-permutation, IsPermutation-refl, IsPermutation-sym}
use Rattle.std.proofs.lemmas.List.Kept.{IsStrictlyIncreasing-filter}
use Rattle.cp_lists.specs.CyclicLists.{Distinct, Has, follow}
use Rattle.cp_lists.specs.Turns.{IsTurn}
use Rattle.cp_lists.proofs.DistinctLists.{Exactly-Distinct, Has-Contains}
use Rattle.cp_lists.proofs.FilteredLists.{Has-filter, filter-Has, filter_agree}
use Rattle.cp_lists.proofs.MappedLists.{Distinct-map_on, Has-map_on, map_on-Has, map_undone}
use Rattle.cp_lists.proofs.PermutedLists.{IsPermutation-from}
use Rattle.cp_lists.proofs.ReversedLists.{map-reverse}
use Rattle.cp_lists.proofs.TurnedLists.{Has-of_turn, turn-Distinct, turn-Has, turn-follow, turn-map, turn-refl, turn-sym, turn-trans}
use Rattle.cp_orbits.specs.Orbits.{Permutes}
use Rattle.cp_base.specs.Graphs.{PlainGraph}
use Rattle.cp_conn.specs.Blocks.{HaveNoLoop}
use Rattle.cp_conn.specs.Darts.{start}
use Rattle.cp_conn.specs.NamedGraphs.{NamedGraph, edges_at, ends_at, only, rank}
use Rattle.cp_conn.proofs.NamedGraphs.{Contains-edges_at, edges_at-Contains, rank_at, rank_is}
use Rattle.cp_rot.specs.Genus.{HasGenusZero}
use Rattle.cp_rot.specs.Systems.{System, darts, edges, list_of, next, vertex_of}
use Rattle.cp_rot.proofs.Functions.{Turns-system, next-follow}
use Rattle.cp_maps.specs.Genus.{IsFlat}
use Rattle.cp_maps.proofs.FlatMaps.{IsFlat-agree}
use Rattle.cp_maplaw.proofs.Systems.{system_flat}
use Rattle.cp_board.specs.Names.{has}
use Rattle.cp_board.specs.Instances.{IsSynchronized, Synchronized, graph, is_q, psi_at, vert_names}
use Rattle.cp_board.specs.Rotations.{ArrangesEdges, IsRotationOf, dart, system}
use Rattle.cp_board.specs.Solutions.{directed}
use Rattle.cp_embed.specs.BoardBlocks.{AreBlockEdges, list_among, listed_part, part_with}
use Rattle.cp_embed.specs.Directions as embed
use Rattle.cp_embed.specs.ListedBlocks.{ListedGraph, list_given}
use Rattle.cp_embed.specs.Realisations.{IsRotationOfGraph, edges_round}
use Rattle.cp_embed.proofs.BoardBlocks.{edges_in, edges_rise, ends_in, has-true, listed_part-IsListedBlock, live_ends, psi-ArrangesEdges, rising_distinct, true-has, verts_in, verts_rise}
use Rattle.cp_tree.proofs.DartsOfEdges.{dart_half, dart_placed}
use Rattle.cp_tree.proofs.RoundEdges.{edges_at-Has, listed-start, round-IsArrangementOf, start-listed, darts_are as round_darts}
use Rattle.cp_tree.proofs.NamedSystems.{dart-back, darts-are, edge-at_end, edges-are, end-live, end_of, is_rotation, list-is, stands-at, system-IsFlat, turn_of}

-- the system is one of the block in the plane, and each vertex with a list keeps it in the direction of its bit
pub record IsDirectedBy (block : ListedGraph) (bit : ℕ → Bool) (r : System) : Type 0 where
  pub of_graph : IsRotationOfGraph block.graph r
  pub plane : HasGenusZero r
  pub lists_kept : (v : ℕ) → v < block.graph.vertices
      → embed.KeepsDirection (list_given block.lists v) (bit v) (edges_round r v)

-- s tells a rotation of the block in which each Q-vertex has what its psi has of the block, in the direction of its bit
pub record IsDirectedRotation (i : Synchronized) (inside : ℕ → Bool) (back : ℕ → Bool) (s : ℕ → List ℕ) : Type 0 where
  pub rotation : IsRotationOf (only inside (graph i)) s
  pub kept : (v : ℕ) → Contains (vert_names i) v → is_q i v ≡ true
      → IsTurn (directed (back v) (filter inside (psi_at i v))) (s v)

-- a list without items is empty
no_items : (xs : List ℕ) → ((x : ℕ) → Has x xs → ⊥) → xs ≡ []
no_items [] none = refl
no_items (x ∷ xs) none = absurd (none x (inl refl))

-- the two ways to write a direction
embed-directed : (b : Bool) (xs : List ℕ) → embed.directed b xs ≡ directed b xs
embed-directed true xs = refl
embed-directed false xs = refl

-- images of a list in a direction
directed-map : (f : ℕ → ℕ) (b : Bool) (xs : List ℕ) → map f (directed b xs) ≡ directed b (map f xs)
directed-map f true xs = map-reverse f xs
directed-map f false xs = refl

-- names of one rank are equal
pub rank_one : (names : List ℕ) (m n : ℕ) → Contains names m → Contains names n → rank names m ≡ rank names n → m ≡ n
rank_one names m n cm cn same = sym (rank_at names m cm).1 ∙ ap (slice_index names) same ∙ (rank_at names n cn).1

module _ (i : Synchronized) (is : IsSynchronized i) (e : ℕ) (es : List ℕ) (b : AreBlockEdges i e es) where
  -- the graph of the instance
  abbrev g : NamedGraph
  g = graph i

  -- the block with the vertices of its edges alone
  abbrev part : NamedGraph
  part = part_with g es

  -- the block with all vertices
  abbrev whole : NamedGraph
  whole = record { verts = g.verts; edges = es; ends = g.ends }

  -- the ends of an edge of the block are vertices of the graph
  whole_live : (f : ℕ) → Contains es f → Contains g.verts (g.ends f).0 × Contains g.verts (g.ends f).1
  whole_live f c = let l = live_ends i is f (edges_in i is e es b f c) in (l.0, l.1)

  -- and they differ
  differ : (f : ℕ) → Contains es f → (g.ends f).0 ≢ (g.ends f).1
  differ f c = (live_ends i is f (edges_in i is e es b f c)).2

  -- the names of the edges of the block rise
  es_rise : IsStrictlyIncreasing es
  es_rise = edges_rise i is e es b

  -- and so do those of its vertices
  vs_rise : IsStrictlyIncreasing part.verts
  vs_rise = verts_rise i is e es b

  -- lists that arrange the edges of all vertices do so for those of the part
  part_arranged : (s : ℕ → List ℕ) → All (λ v. ArrangesEdges whole v (s v)) g.verts
      → All (λ v. ArrangesEdges part v (s v)) part.verts
  part_arranged s all k d lt =
      let v = slice_index_or part.verts k d in
      All-contains (λ w. ArrangesEdges whole w (s w)) g.verts v all
      (verts_in i is e es b v (k, lt, get_or_default part.verts k v d lt))

  -- with or without the other vertices the system has genus zero
  pub part-HasGenusZero : (s : ℕ → List ℕ) (all : All (λ v. ArrangesEdges whole v (s v)) g.verts)
      → HasGenusZero (system whole s) ↔ HasGenusZero (system part s)
  part-HasGenusZero s all =
      let w = system-IsFlat whole is.verts_named.rise es_rise whole_live differ s all in
      let p = system-IsFlat part vs_rise es_rise (ends_in i is e es b) differ s (part_arranged s all) in (
        λ z. p.1 (w.0 z),
        λ z. w.1 (p.0 z),
      )

  -- the vertex of a number
  abbrev name : ℕ → ℕ
  name k = slice_index part.verts k

  -- the edge of a number
  abbrev edge_name : ℕ → ℕ
  edge_name k = slice_index es k

  -- what is kept of the psi of a vertex: its edges of the block
  abbrev kept_psi : ℕ → List ℕ
  kept_psi v = filter (has es) (psi_at i v)

  -- an edge has its name back
  named_back : (f : ℕ) → Has f es → edge_name (rank es f) ≡ f
  named_back f h = (rank_at es f ((Has-Contains f es).0 h)).1

  -- the edges kept of a psi are edges of the block
  kept_in : (v f : ℕ) → Has f (kept_psi v) → Has f es
  kept_in v f h = true-has es f (filter-Has (has es) f (psi_at i v) h).1

  -- what is kept of a psi, by the test for the block
  pub kept-inside : (v : ℕ) → Contains g.verts v → is_q i v ≡ true → kept_psi v ≡ filter b.inside (psi_at i v)
  kept-inside v c q = filter_agree (has es) b.inside (psi_at i v) (λ f h.
      let of_v = (edges_at-Contains g v f (Contains-permutation (psi_at i v) (edges_at g v) f
      (IsPermutation-sym (edges_at g v) (psi_at i v) (psi-ArrangesEdges i is v c q))
      ((Has-Contains f (psi_at i v)).0 h))).0 in
      same_tests (has es f) (b.inside f)
      (λ t. (filter-Has b.inside f g.edges (subst (Has f) b.edges (true-has es f t))).1)
      (λ t. has-true es f (subst (Has f) (sym b.edges) (Has-filter b.inside f g.edges
      ((Has-Contains f g.edges).1 of_v) t))))
    where
      same_tests : (p q : Bool) → (p ≡ true → q ≡ true) → (q ≡ true → p ≡ true) → p ≡ q
      same_tests true q to from = sym (to refl)
      same_tests false true to from = from refl
      same_tests false false to from = refl

  -- the list given for a Q-vertex is what is kept of its psi, in numbers
  given_q : (k : ℕ) → k < length part.verts → is_q i (name k) ≡ true
      → list_given (listed_part i es).lists k ≡ Some (map (rank es) (kept_psi (name k)))
  given_q k lt q =
      get_or-map (list_among i es) part.verts k 0 None lt
      ∙ cond-true (is_q i (name k)) (Some (map (rank es) (kept_psi (name k)))) None q

  -- none is given for a P-vertex
  given_p : (k : ℕ) → k < length part.verts → is_q i (name k) ≡ false
      → list_given (listed_part i es).lists k ≡ None
  given_p k lt p =
      get_or-map (list_among i es) part.verts k 0 None lt
      ∙ cond-false (is_q i (name k)) (Some (map (rank es) (kept_psi (name k)))) None p

  -- a direction is kept where it is in names
  pub keeps-by_name : (k : ℕ) (back : Bool) (row : List ℕ) → k < length part.verts
      → (is_q i (name k) ≡ true → IsTurn (directed back (map (rank es) (kept_psi (name k)))) row)
      → embed.KeepsDirection (list_given (listed_part i es).lists k) back row
  keeps-by_name k back row lt turn = ⊎_elim
      (λ q. subst (λ l. embed.KeepsDirection l back row) (sym (given_q k lt q))
      (subst (λ xs. IsTurn xs row) (sym (embed-directed back (map (rank es) (kept_psi (name k))))) (turn q)))
      (λ p. subst (λ l. embed.KeepsDirection l back row) (sym (given_p k lt p)) tt)
      (cases_Bool (is_q i (name k)))

  -- the ends of an edge of the part by their numbers
  numbered_end : (d : ℕ) → d < 2 * length es
      → start (listed_part i es).graph.ends d ≡ rank part.verts (end_of part d)
  numbered_end d lt =
      let within : d / 2 < length es = omega (arith, lt) in
      let pair = get_or-map {Y = ℕ × ℕ} (λ f. (rank part.verts (g.ends f).0, rank part.verts (g.ends f).1)) es (d / 2) 0
      (0, 0) within in
      ⊎_elim
      (λ even.
      let t = eq-eqb (d % 2) 0 even in
      cond-true {A = ℕ} (eqb (d % 2) 0) _ _ t ∙ ap (λ p. p.0) pair
      ∙ ap (rank part.verts) (sym (cond-true {A = ℕ} (eqb (d % 2) 0) (g.ends (edge_name (d / 2))).0
      (g.ends (edge_name (d / 2))).1 t)))
      (λ odd.
      let t = ne_eqb (d % 2) 0 odd in
      cond-false {A = ℕ} (eqb (d % 2) 0) _ _ t ∙ ap (λ p. p.1) pair
      ∙ ap (rank part.verts) (sym (cond-false {A = ℕ} (eqb (d % 2) 0) (g.ends (edge_name (d / 2))).0
      (g.ends (edge_name (d / 2))).1 t)))
      (cases_eq (d % 2) 0)

  -- a vertex by its number
  named : (k : ℕ) → k < length part.verts → Contains part.verts (name k) × (rank part.verts (name k) ≡ k)
  named k lt = (
    (k, lt, get_or_default part.verts k (name k) 0 lt),
    rank_is part.verts k (name k) (rising_distinct part.verts vs_rise) lt refl,
  )

  -- a rotation of the block with directions
  module _ (inside : ℕ → Bool) (back : ℕ → Bool) (s : ℕ → List ℕ) (is_es : es ≡ filter inside g.edges)
      (is_kept : (v : ℕ) → Contains g.verts v → is_q i v ≡ true → kept_psi v ≡ filter inside (psi_at i v))
      (d : IsDirectedRotation i inside back s) where
    -- its lists arrange the edges of the block
    whole_arranged : All (λ v. ArrangesEdges whole v (s v)) g.verts
    whole_arranged =
        subst (λ (xs : List ℕ). All (λ v. ArrangesEdges (record { verts = g.verts; edges = xs; ends = g.ends }) v (s v))
        g.verts) (sym is_es) d.rotation.arranged

    -- and have genus zero
    whole_flat : HasGenusZero (system whole s)
    whole_flat =
        subst (λ (xs : List ℕ). HasGenusZero (system (record { verts = g.verts; edges = xs; ends = g.ends }) s))
        (sym is_es)
        d.rotation.flat

    -- the edges round a vertex have the places of those of its list
    pub round-is : (k : ℕ) → k < length part.verts → edges_round (system part s) k ≡ map (rank es) (s (name k))
    round-is k lt =
        let v = name k in
        let c = (named k lt).0 in
        let list : list_of (system part s) k ≡ map (dart part v) (s v) =
        ap (list_of (system part s)) (sym (named k lt).1)
        ∙ list-is part vs_rise es_rise (ends_in i is e es b) differ s (part_arranged s whole_arranged) v c in
        ap (map embed.edge_of) list ∙ map_twice (dart part v) (s v) (λ f. dart_half part differ v f)
      where
        map_twice : (h : ℕ → ℕ) (xs : List ℕ) → ((x : ℕ) → h x / 2 ≡ rank es x)
            → map embed.edge_of (map h xs) ≡ map (rank es) xs
        map_twice h [] half = refl
        map_twice h (x ∷ xs) half = ap₂ (λ y ys. y ∷ ys) (half x) (map_twice h xs half)

    -- it is one of the block cut out
    pub rotation-IsDirectedBy : IsDirectedBy (listed_part i es) (λ k. back (name k)) (system part s)
    rotation-IsDirectedBy =
        let arr = part_arranged s whole_arranged in
        let r : System = system part s in
        let live = ends_in i is e es b in
        record {
          of_graph = record {
            rotation = is_rotation part vs_rise es_rise live differ s arr;
            vertices = refl;
            edges_are = edges-are part vs_rise es_rise live differ s arr
                ∙ sym (length-map es (λ f. (rank part.verts (g.ends f).0, rank part.verts (g.ends f).1)));
            at_ends = λ x lt.
                let below : x < 2 * length es =
                let h = darts-are part vs_rise es_rise live differ s arr in omega (arith, lt, h) in
                stands-at part vs_rise es_rise live differ s arr x below ∙ sym (numbered_end x below);
          };
          plane = (part-HasGenusZero s whole_arranged).0 whole_flat;
          lists_kept = λ k lt.
              let v = name k in
              let live_v = verts_in i is e es b v (named k lt).0 in
              keeps-by_name k (back v) (edges_round r k) lt (λ q.
              subst (IsTurn (directed (back v) (map (rank es) (kept_psi v)))) (sym (round-is k lt))
              (subst (λ xs. IsTurn xs (map (rank es) (s v))) (directed-map (rank es) (back v) (kept_psi v))
              (turn-map (rank es) (directed (back v) (kept_psi v)) (s v)
              (subst (λ xs. IsTurn (directed (back v) xs) (s v)) (sym (is_kept v live_v q)) (d.kept v live_v q)))));
        }

  -- the block cut out
  abbrev plain : PlainGraph
  plain = (listed_part i es).graph

  -- none of its edges is a loop
  plain_no_loop : HaveNoLoop plain.ends
  plain_no_loop = (listed_part-IsListedBlock i is e es b).no_loop

  -- it has as many edges
  plain_size : length plain.ends ≡ length es
  plain_size = length-map es (λ f. (rank part.verts (g.ends f).0, rank part.verts (g.ends f).1))

  -- lists of edges by number, in names; none for the vertices that the block does not have
  abbrev pub named_lists : (ℕ → List ℕ) → ℕ → List ℕ
  named_lists rows v = cond (has part.verts v) (map edge_name (rows (rank part.verts v))) []

  -- a system of the block cut out with directions, and lists that are its lists up to turns
  module _ (r : System) (bit back : ℕ → Bool) (d : IsDirectedBy (listed_part i es) bit r)
      (agree : (k : ℕ) → k < length part.verts → bit k ≡ back (name k)) (rows : ℕ → List ℕ)
      (turns : (k : ℕ) → k < length part.verts → IsTurn (rows k) (edges_round r k)) where
    -- the lists in names
    abbrev s : ℕ → List ℕ
    s = named_lists rows

    -- that of a vertex of the block is its row with the names of the edges
    s_in : (v : ℕ) → Contains part.verts v → s v ≡ map edge_name (rows (rank part.verts v))
    s_in v c = cond-true (has part.verts v) (map edge_name (rows (rank part.verts v))) []
        (has-true part.verts v ((Has-Contains v part.verts).1 c))

    -- that of another one is empty
    s_out : (v : ℕ) → has part.verts v ≡ false → s v ≡ []
    s_out v f = cond-false (has part.verts v) (map edge_name (rows (rank part.verts v))) [] f

    -- a dart in the list of a vertex stands at this vertex
    listed_end : (v x : ℕ) → Contains part.verts v → Has x (list_of r (rank part.verts v))
        → (x < 2 * length es) × (end_of part x ≡ v)
    listed_end v x c h =
        let w = listed-start plain plain_no_loop r d.of_graph (rank part.verts v) x (rank_at part.verts v c).0 h in
        let below : x < 2 * length es = omega (arith, w.0, plain_size) in (
          below,
          rank_one part.verts (end_of part x) v
              (end-live part vs_rise es_rise (ends_in i is e es b) differ x below) c (sym (numbered_end x below) ∙ w.1),
        )

    -- and back
    end_listed : (v x : ℕ) → Contains part.verts v → x < 2 * length es → end_of part x ≡ v
        → Has x (list_of r (rank part.verts v))
    end_listed v x c lt same =
        start-listed plain plain_no_loop r d.of_graph (rank part.verts v) x (rank_at part.verts v c).0
        (omega (arith, lt, plain_size)) (numbered_end x lt ∙ ap (rank part.verts) same)

    -- the edges in the list of a vertex of the block are its edges
    listed_edge : (v f : ℕ) → Contains part.verts v → Has f (s v) → Contains (edges_at whole v) f
    listed_edge v f c h =
        let k = rank part.verts v in
        let w = map_on-Has edge_name f (rows k) (subst (Has f) (s_in v c) h) in
        let x = map_on-Has embed.edge_of w.0 (list_of r k)
        (turn-Has (rows k) (edges_round r k) w.0 (turns k (rank_at part.verts v c).0) w.1) in
        let at = listed_end v x.0 c x.1 in
        subst (λ u. Contains (edges_at whole u) f) at.1
        (subst (Contains (edges_at whole (end_of part x.0))) (ap edge_name x.2 ∙ w.2)
        (edge-at_end part vs_rise es_rise (ends_in i is e es b) differ x.0 at.0))

    -- and back
    edge_listed : (v f : ℕ) → Contains part.verts v → Contains (edges_at whole v) f → Has f (s v)
    edge_listed v f c h =
        let k = rank part.verts v in
        let f_in = (edges_at-Contains whole v f h).0 in
        let at = rank_at es f f_in in
        let x = dart part v f in
        let half : x / 2 ≡ rank es f = dart_half part differ v f in
        let below : x < 2 * length es = omega (arith, half, at.0) in
        let listed = end_listed v x c below (dart_placed part differ v f h) in
        let in_rows = Has-of_turn (rows k) (edges_round r k) (x / 2) (turns k (rank_at part.verts v c).0)
        (Has-map_on embed.edge_of x (list_of r k) listed) in
        subst (Has f) (sym (s_in v c))
        (subst (λ y. Has y (map edge_name (rows k))) (ap edge_name half
        ∙ at.1) (Has-map_on edge_name (x / 2) (rows k) in_rows))

    -- a vertex that the block does not have has no edges in it
    no_edge : (v f : ℕ) → has part.verts v ≡ false → Contains (edges_at whole v) f → ⊥
    no_edge v f out h =
        let w = edges_at-Contains whole v f h in
        let ends = ends_in i is e es b f w.0 in
        let in_part : Contains part.verts v = ⊎_elim
        (λ t. subst (Contains part.verts) (eqb-true (g.ends f).0 v t) ends.0)
        (λ t. subst (Contains part.verts) (eqb-true (g.ends f).1 v t) ends.1)
        (or_cases (eqb (g.ends f).0 v) (eqb (g.ends f).1 v) w.1) in
        false≢true (sym out ∙ has-true part.verts v ((Has-Contains v part.verts).1 in_part))

    -- the lists repeat no edge
    s-Distinct : (v : ℕ) → Contains part.verts v → Distinct (s v)
    s-Distinct v c =
        let k = rank part.verts v in
        let lt = (rank_at part.verts v c).0 in
        let a = round-IsArrangementOf plain plain_no_loop r d.of_graph k lt in
        let within : (x : ℕ) → Has x (rows k) → x < length es =
        λ x h.
        let w = (edges_at-Has plain.ends k x).0 ((a.items x).0 (turn-Has (rows k) (edges_round r k) x
        (turns k lt) h)) in
        omega (arith, w.0, plain_size) in
        subst Distinct (sym (s_in v c))
        (Distinct-map_on edge_name (rows k)
        (λ x y hx hy same. sym (rank_is es x (edge_name x) (rising_distinct es es_rise) (within x hx) refl)
        ∙ rank_is es y (edge_name x) (rising_distinct es es_rise) (within y hy) (sym same))
        (turn-Distinct (edges_round r k) (rows k) (turn-sym (rows k) (edges_round r k) (turns k lt)) a.distinct))

    -- they arrange the edges of the block
    pub s-arranged : All (λ v. ArrangesEdges whole v (s v)) g.verts
    s-arranged j z lt =
        let v = slice_index_or g.verts j z in
        ⊎_elim
        (λ t.
        let c = (Has-Contains v part.verts).0 (true-has part.verts v t) in
        IsPermutation-from (edges_at whole v) (s v)
        (rising_distinct (edges_at whole v) (IsStrictlyIncreasing-filter (ends_at whole v) es es_rise)) (s-Distinct v c)
        (λ f h. edge_listed v f c ((Has-Contains f (edges_at whole v)).0 h))
        (λ f h. (Has-Contains f (edges_at whole v)).1 (listed_edge v f c h)))
        (λ out.
        let none = no_items (edges_at whole v) (λ f h. no_edge v f out ((Has-Contains f (edges_at whole v)).0 h)) in
        subst (λ xs. IsPermutation xs (s v)) (sym none)
        (subst (IsPermutation []) (sym (s_out v out)) (IsPermutation-refl [])))
        (cases_Bool (has part.verts v))

    -- the step of the system is that of the lists
    step_same : (x : ℕ) → x < 2 * length es → next r x ≡ turn_of part s x
    step_same x lt =
        let v = end_of part x in
        let c = end-live part vs_rise es_rise (ends_in i is e es b) differ x lt in
        let k = rank part.verts v in
        let ds = list_of r k in
        let within : x < darts r = omega (arith, lt, plain_size, round_darts plain plain_no_loop r d.of_graph) in
        let here : vertex_of r x ≡ k = d.of_graph.at_ends x within ∙ numbered_end x lt in
        let back_again : map (dart part v) (map edge_name (edges_round r k)) ≡ ds =
        map_darts (dart part v) ds (λ y h.
        let at = listed_end v y c h in
        ap (λ u. dart part u (edge_name (y / 2))) (sym at.1)
        ∙ dart-back part vs_rise es_rise (ends_in i is e es b) differ y at.0) in
        let turn : IsTurn ds (map (dart part v) (s v)) =
        subst (λ xs. IsTurn ds (map (dart part v) xs)) (sym (s_in v c))
        (subst (λ xs. IsTurn xs (map (dart part v) (map edge_name (rows k)))) back_again
        (turn-map (dart part v) (map edge_name (edges_round r k)) (map edge_name (rows k))
        (turn-map edge_name (edges_round r k) (rows k)
        (turn-sym (rows k) (edges_round r k) (turns k (rank_at part.verts v c).0))))) in
        let once : Distinct ds =
        Exactly-Distinct (darts r) (λ y. eqb (slice_index r.at y) k) ds
        (d.of_graph.rotation.arranged k (omega (arith, (rank_at part.verts v c).0, d.of_graph.vertices))) in
        next-follow r d.of_graph.rotation x within
        ∙ ap (λ u. follow (list_of r u) x) here
        ∙ sym (turn-follow ds (map (dart part v) (s v)) x once turn (end_listed v x c lt refl))
      where
        map_darts : (h : ℕ → ℕ) (xs : List ℕ) → ((y : ℕ) → Has y xs → h (edge_name (y / 2)) ≡ y)
            → map h (map edge_name (map embed.edge_of xs)) ≡ xs
        map_darts h [] all = refl
        map_darts h (y ∷ ys) all = ap₂ (λ z zs. z ∷ zs) (all y (inl refl)) (map_darts h ys (λ z m. all z (inr m)))

    -- so they are lists of genus zero
    s-HasGenusZero : HasGenusZero (system whole s)
    s-HasGenusZero =
        let n = length es in
        let size : edges r ≡ n = d.of_graph.edges_are ∙ plain_size in
        let perm : Permutes (2 * n) (next r) =
        subst (λ m. Permutes (2 * m) (next r)) size (Turns-system r d.of_graph.rotation).permutes in
        let flat : IsFlat n (next r) =
        subst (λ m. IsFlat m (next r)) size ((system_flat r d.of_graph.rotation).0 d.plane) in
        (part-HasGenusZero s s-arranged).1
        ((system-IsFlat part vs_rise es_rise (ends_in i is e es b) differ s (part_arranged s s-arranged)).1
        (IsFlat-agree n (next r) (turn_of part s) perm step_same flat))

    -- a Q-vertex keeps its psi
    s-kept : (v : ℕ) → Contains g.verts v → is_q i v ≡ true → IsTurn (directed (back v) (filter b.inside
        (psi_at i v))) (s v)
    s-kept v cv q =
        subst (λ xs. IsTurn (directed (back v) xs) (s v)) (kept-inside v cv q)
        (⊎_elim
        (λ t.
        let c = (Has-Contains v part.verts).0 (true-has part.verts v t) in
        let k = rank part.verts v in
        let at = rank_at part.verts v c in
        let q_k : is_q i (name k) ≡ true = ap (is_q i) at.1 ∙ q in
        let row = map (rank es) (kept_psi (name k)) in
        let to_round : IsTurn (directed (back v) row) (edges_round r k) =
        subst (λ xs. IsTurn xs (edges_round r k)) (embed-directed (back v) row)
        (subst (λ w. IsTurn (embed.directed w row) (edges_round r k)) (agree k at.0 ∙ ap back at.1)
        (subst (λ l. embed.KeepsDirection l (bit k) (edges_round r k)) (given_q k at.0 q_k) (d.lists_kept k at.0))) in
        let to_rows = turn-trans (directed (back v) row) (edges_round r k) (rows k) to_round
        (turn-sym (rows k) (edges_round r k) (turns k at.0)) in
        let in_names : map edge_name (directed (back v) row) ≡ directed (back v) (kept_psi v) =
        directed-map edge_name (back v) row
        ∙ ap (directed (back v)) (map_undone (rank es) edge_name (kept_psi (name k))
        (λ f h. named_back f (kept_in (name k) f h)) ∙ ap kept_psi at.1) in
        subst (IsTurn (directed (back v) (kept_psi v))) (sym (s_in v c))
        (subst (λ xs. IsTurn xs (map edge_name (rows k))) in_names
        (turn-map edge_name (directed (back v) row) (rows k) to_rows)))
        (λ out.
        let none : kept_psi v ≡ [] = no_items (kept_psi v) (λ f h.
        let w = filter-Has (has es) f (psi_at i v) h in
        let of_v = edges_at-Contains g v f (Contains-permutation (psi_at i v) (edges_at g v) f
        (IsPermutation-sym (edges_at g v) (psi_at i v) (psi-ArrangesEdges i is v cv q))
        ((Has-Contains f (psi_at i v)).0 w.0)) in
        no_edge v f out (Contains-edges_at whole v f ((Has-Contains f es).0 (true-has es f w.1)) of_v.1)) in
        subst (λ xs. IsTurn (directed (back v) xs) (s v)) (sym none)
        (subst (IsTurn (directed (back v) [])) (sym (s_out v out)) (none_turned (back v))))
        (cases_Bool (has part.verts v)))
      where
        none_turned : (w : Bool) → IsTurn (directed w []) []
        none_turned true = turn-refl []
        none_turned false = turn-refl []

    -- so the block has a rotation with these directions
    pub directed-IsDirectedRotation : IsDirectedRotation i b.inside back s
    directed-IsDirectedRotation = record {
      rotation = subst (λ (xs : List ℕ). IsRotationOf (record { verts = g.verts; edges = xs; ends = g.ends }) s) b.edges
          (record { arranged = s-arranged; flat = s-HasGenusZero });
      kept = s-kept;
    }
