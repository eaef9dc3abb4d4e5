-- The order tree of a vertex of a block tells the orders of the vertex in the instance.
use Rattle.std.proofs.Common.{◌≡◌, ℕ, ◌<◌, ◌≤◌, ◌↔◌, Bool, true, false, eqb, List, [], ◌∷◌, length, map, take, get_or, slice_index, sym, refl, ap, ◌∙◌, subst, inl, inr, ⊎_elim, arith}
use Rattle.std.specs.List.{Contains}
use Rattle.std.specs.List.Sorted.{IsPermutation, IsStrictlyIncreasing}
use Rattle.std.proofs.lemmas.Bool.{cases_eq, cases_lt, eq-eqb, eqb-true, or_cases, or_left, or_right}
use Rattle.std.proofs.lemmas.List.{get_or-map}
use Rattle.std.proofs.lemmas.List.Elements.{All-contains, Contains-get_or}
use Rattle.std.proofs.lemmas.List.Kept.{AllPairs-from_increasing, IsStrictlyIncreasing-filter}
use Rattle.std.proofs.lemmas.List.Sorted.{Contains-permutation, IsPermutation-cons, IsPermutation-map, IsPermutation-sym, IsPermutation-trans}
use Rattle.cp_lists.specs.CyclicLists.{Distinct, Has}
use Rattle.cp_lists.specs.Turns.{IsTurn}
use Rattle.cp_lists.proofs.DistinctLists.{Has-Contains, has_lacks}
use Rattle.cp_lists.proofs.MappedLists.{Distinct-map_on, Has-map_on, map_on-Has, map_undone}
use Rattle.cp_lists.proofs.PermutedLists.{Distinct-IsPermutation, Has-IsPermutation, IsPermutation-from, Lacks-IsPermutation}
use Rattle.cp_lists.proofs.TurnedLists.{Has-of_turn, turn-Distinct, turn-Has, turn-sym, turn-trans, turn_to_item}
use Rattle.cp_conn.specs.NamedGraphs.{IsBlockOf, IsCut, NamedGraph, edges_at as edges_at_named, ends_at, only, pairs, rank}
use Rattle.cp_conn.proofs.BlockClasses.{block-sym, block-trans}
use Rattle.cp_conn.proofs.BlockBonds.{uncut_inside}
use Rattle.cp_conn.proofs.CutVertices.{kept_of, kept_pair}
use Rattle.cp_conn.proofs.NamedGraphs.{Contains-edges_at, edges_at-Contains, rank_at, rank_is}
use Rattle.cp_base.specs.Shapes as shape
use Rattle.cp_pq.specs.Bits.{bit_of}
use Rattle.cp_pq.specs.Nodes.{leaves}
use Rattle.cp_pq.specs.Readings.{Reads, any_bit, given}
use Rattle.cp_pq.specs.Trees.{IsPair, PQTree}
use Rattle.cp_pq.proofs.ReadingLaws.{read_leaves, read_wider}
use Rattle.cp_force.specs.Shapes.{shape_of_tree}
use Rattle.cp_force.proofs.ShapeReadings.{shape_of_tree-Admits}
use Rattle.cp_board.specs.Blocks.{IsBlockOrder}
use Rattle.cp_board.specs.Names.{rising}
use Rattle.cp_board.specs.Rotations.{ArrangesEdges}
use Rattle.cp_board.proofs.NamedLists.{arranged}
use Rattle.cp_board.specs.Instances.{IsPVertex, IsSynchronized, Synchronized, edges_of, graph, is_q, is_q_kind}
use Rattle.cp_embed.specs.BoardBlocks.{AreBlockEdges, listed_part, part_with}
use Rattle.cp_embed.specs.Embeddings.{HasTwoEdges, IsEmbedded, IsEmbeddingTree}
use Rattle.cp_embed.specs.EveryOrder as tree_orders
use Rattle.cp_embed.specs.ListedBlocks.{touches}
use Rattle.cp_embed.specs.Realisations.{edges_round}
use Rattle.cp_embed.specs.TreePairs.{pairs_of}
use Rattle.cp_embed.proofs.BoardBlocks.{edges_in, edges_rise, ends_in, listed_part-IsListedBlock, pairs-HaveNoLoop, rising_distinct, size, verts_in}
use Rattle.cp_tree.specs.EndTrees.{HasEveryOrder, HasSomeOrder}
use Rattle.cp_tree.proofs.BlockOrders.{embedded-IsBlockOrder, rotation-IsEmbedded}
use Rattle.cp_tree.proofs.BlockRotations.{rank_one}
use Rattle.cp_tree.proofs.RisingLists.{first_is, rising_is}
use Rattle.cp_tree.proofs.RoundEdges.{edges_at-Has, round-IsArrangementOf}

-- the word of a pair is admitted by the tree
word_admitted : (tree : PQTree) (word : List ℕ) (bits : List Bool) → IsPair tree (tree.root ∷ word) bits
    → Reads any_bit tree.body word
word_admitted tree word bits pair =
    let same : pair.word ≡ word = let e = pair.order_is in cc in
    subst (Reads any_bit tree.body) same (read_wider (given bits) any_bit
    (λ v b h. refl) tree.body pair.word pair.reads)

-- u: a P-vertex that is no cut vertex, with the edge e, and es: the edges of the block of e
module _ (i : Synchronized) (is : IsSynchronized i) (u : ℕ) (free : IsPVertex i u) (uncut : IsCut (graph i) u → ⊥)
    (e : ℕ) (at : Contains (edges_of i u) e) (es : List ℕ) (b : AreBlockEdges i e es) where
  -- the graph of the instance
  abbrev g : NamedGraph
  g = graph i

  -- the vertices of the block
  abbrev vs : List ℕ
  vs = (part_with g es).verts

  -- the number of u
  abbrev t : ℕ
  t = rank vs u

  -- the numbered ends
  abbrev ends : List (ℕ × ℕ)
  ends = (listed_part i es).graph.ends

  -- u is no Q-vertex
  free_q : is_q i u ≡ false
  free_q = ap is_q_kind free

  -- all its edges are in the block
  pub own_edges : (f : ℕ) → Contains (edges_of i u) f → Contains es f
  own_edges f c =
      subst (λ xs. Contains xs f) (sym b.edges)
      (kept_of b.inside g.edges f (edges_at-Contains g u f c).0
      (uncut_inside g e u b.inside (pairs-HaveNoLoop i is) b.is_block at uncut f c))

  -- it is a vertex of the block
  pub here : Contains vs u
  here =
      let l = ends_in i is e es b e (own_edges e at) in
      ⊎_elim
      (λ p. subst (Contains vs) (eqb-true (g.ends e).0 u p) l.0)
      (λ p. subst (Contains vs) (eqb-true (g.ends e).1 u p) l.1)
      (or_cases (eqb (g.ends e).0 u) (eqb (g.ends e).1 u) (edges_at-Contains g u e at).1)

  -- so its number is one
  pub t_within : t < (listed_part i es).graph.vertices
  t_within = (rank_at vs u here).0

  -- names of edges are distinct
  es_once : Distinct es
  es_once = rising_distinct es (edges_rise i is e es b)

  -- the ends of the edge at a place
  ends_at_place : (k : ℕ) → k < length es
      → get_or ends k (0, 0) ≡ (rank vs (g.ends (get_or es k 0)).0, rank vs (g.ends (get_or es k 0)).1)
  ends_at_place k lt = get_or-map {Y = ℕ × ℕ} (λ f. (rank vs (g.ends f).0, rank vs (g.ends f).1)) es k 0 (0, 0) lt

  -- the number of an edge of u touches the number of u
  pub own_touches : (f : ℕ) → Contains (edges_of i u) f → (rank es f < length ends) × (touches ends t
      (rank es f) ≡ true)
  own_touches f c =
      let k = rank es f in
      let p = rank_at es f (own_edges f c) in
      let pair = ends_at_place k p.0 ∙ ap (λ (x : ℕ). (rank vs (g.ends x).0, rank vs (g.ends x).1)) p.1 in (
        omega (arith, p.0, size i is e es b),
        ⊎_elim
            (λ h. or_left (eqb (get_or ends k (0, 0)).0 t) (eqb (get_or ends k (0, 0)).1 t)
            (eq-eqb (get_or ends k (0, 0)).0 t (ap (λ (x : ℕ × ℕ). x.0) pair
            ∙ ap (rank vs) (eqb-true (g.ends f).0 u h))))
            (λ h. or_right (eqb (get_or ends k (0, 0)).0 t) (eqb (get_or ends k (0, 0)).1 t)
            (eq-eqb (get_or ends k (0, 0)).1 t (ap (λ (x : ℕ × ℕ). x.1) pair
            ∙ ap (rank vs) (eqb-true (g.ends f).1 u h))))
            (or_cases (eqb (g.ends f).0 u) (eqb (g.ends f).1 u) (edges_at-Contains g u f c).1),
      )

  -- a number that touches it is that of an edge of u
  pub touches_own : (k : ℕ) → k < length ends → touches ends t k ≡ true → Contains (edges_of i u) (slice_index es k)
  touches_own k lt h =
      let below : k < length es = omega (arith, lt, size i is e es b) in
      let f = slice_index es k in
      let c : Contains es f = Contains-get_or es k 0 below in
      let l = ends_in i is e es b f c in
      let pair = ends_at_place k below in
      Contains-edges_at g u f (edges_in i is e es b f c)
      (⊎_elim
      (λ p. or_left (eqb (g.ends f).0 u) (eqb (g.ends f).1 u) (eq-eqb (g.ends f).0 u
      (rank_one vs (g.ends f).0 u l.0 here (sym (ap (λ (x : ℕ × ℕ). x.0) pair)
      ∙ eqb-true (get_or ends k (0, 0)).0 t p))))
      (λ p. or_right (eqb (g.ends f).0 u) (eqb (g.ends f).1 u) (eq-eqb (g.ends f).1 u
      (rank_one vs (g.ends f).1 u l.1 here (sym (ap (λ (x : ℕ × ℕ). x.1) pair)
      ∙ eqb-true (get_or ends k (0, 0)).1 t p))))
      (or_cases (eqb (get_or ends k (0, 0)).0 t) (eqb (get_or ends k (0, 0)).1 t) h))

  -- numbers of edges rise as their names do
  rank_less : (f h : ℕ) → Contains es f → Contains es h → f < h → rank es f < rank es h
  rank_less f h cf ch lt =
      let p = rank_at es f cf in
      let q = rank_at es h ch in
      ⊎_elim
      (λ (l : rank es f < rank es h). l)
      (λ (l : rank es h ≤ rank es f). ⊎_elim
      (λ (same : rank es h ≡ rank es f). absurd (omega (arith, lt, rank_one es h f ch cf same)))
      (λ ne.
      let less = AllPairs-from_increasing es (edges_rise i is e es b) (rank es h) (rank es f) 0 (omega
      (arith, l, ne)) p.0 in
      absurd (omega (arith, less, p.1, q.1, lt)))
      (cases_eq (rank es h) (rank es f)))
      (cases_lt (rank es f) (rank es h))

  -- the edges of u rise
  pub own_rise : IsStrictlyIncreasing (edges_of i u)
  own_rise = IsStrictlyIncreasing-filter (ends_at g u) g.edges is.edges_named.rise

  -- where u has two edges, so has its number
  pub own-HasTwoEdges : 2 ≤ length (edges_of i u) → HasTwoEdges ends t
  own-HasTwoEdges two =
      let f = get_or (edges_of i u) 0 0 in
      let h = get_or (edges_of i u) 1 0 in
      let cf : Contains (edges_of i u) f = Contains-get_or (edges_of i u) 0 0 (omega (arith, two)) in
      let ch : Contains (edges_of i u) h = Contains-get_or (edges_of i u) 1 0 (omega (arith, two)) in
      let less = AllPairs-from_increasing (edges_of i u) own_rise 0 1 0 (omega arith) (omega (arith, two)) in
      let a = own_touches f cf in
      let c = own_touches h ch in
      record {
        first = rank es f;
        second = rank es h;
        less = rank_less f h (own_edges f cf) (own_edges h ch) less;
        within = c.0;
        first_at = a.1;
        second_at = c.1;
      }

  -- the numbers of a list of edges of u have these names
  own_named : (order : List ℕ) → ((f : ℕ) → Has f order → Contains (edges_of i u) f)
      → map (slice_index es) (map (rank es) order) ≡ order
  own_named order own = map_undone (rank es) (slice_index es) order
      (λ f h. (rank_at es f (own_edges f (own f h))).1)

  -- an order of u in a rotation of its block is one in an embedding
  pub order-IsEmbedded : (order : List ℕ) → IsBlockOrder i u order
      → (bit : ℕ → Bool) × IsEmbedded (listed_part i es) t (map (rank es) order) bit
  order-IsEmbedded order o =
      let c = (edges_at-Contains g u o.edge o.at).0 in
      let block : IsBlockOf g e o.inside = record {
        live = b.is_block.live;
        tells = λ f cf.
            let to_e = (o.block.tells e b.is_block.live).0
            (uncut_inside g o.edge u o.inside (pairs-HaveNoLoop i is) o.block o.at uncut e at) in (
              λ p. block-trans (pairs g) (rank g.edges e) (rank g.edges o.edge) (rank g.edges f) (pairs-HaveNoLoop i is)
                  (block-sym (pairs g) (rank g.edges o.edge) (rank g.edges e) to_e) ((o.block.tells f cf).0 p),
              λ p. (o.block.tells f cf).1 (block-trans (pairs g) (rank g.edges o.edge) (rank g.edges e)
                  (rank g.edges f) (pairs-HaveNoLoop i is) to_e p),
            );
      } in
      rotation-IsEmbedded i is e es b u here free_q o.inside o.lists order block o.rotation o.turn

  -- and back
  pub embedded-order : (numbers : List ℕ) (bit : ℕ → Bool) → IsEmbedded (listed_part i es) t numbers bit
      → IsBlockOrder i u (map (slice_index es) numbers)
  embedded-order numbers bit m = embedded-IsBlockOrder i is e es b u here free_q numbers bit at m

  -- an order of an embedding has the edges of the number of u, each once
  embedded_items : (numbers : List ℕ) (bit : ℕ → Bool) → IsEmbedded (listed_part i es) t numbers bit
      → Distinct numbers × ((k : ℕ) → Has k numbers ↔ ((k < length ends) × (touches ends t k ≡ true)))
  embedded_items numbers bit m =
      let a = round-IsArrangementOf (listed_part i es).graph (listed_part-IsListedBlock i is e es b).no_loop m.0
      m.1.of_graph t t_within in (
        turn-Distinct (edges_round m.0 t) numbers (turn-sym numbers (edges_round m.0 t) m.1.order_is) a.distinct,
        λ k. (
          λ h. (edges_at-Has ends t k).0 ((a.items k).0 (turn-Has numbers (edges_round m.0 t) k m.1.order_is h)),
          λ h. Has-of_turn numbers (edges_round m.0 t) k m.1.order_is ((a.items k).1 ((edges_at-Has ends t k).1 h)),
        ),
      )

  -- an order of an embedding may be turned
  IsEmbedded-turn : (xs ys : List ℕ) (bit : ℕ → Bool) → IsTurn xs ys → IsEmbedded (listed_part i es) t xs bit
      → IsEmbedded (listed_part i es) t ys bit
  IsEmbedded-turn xs ys bit turn m = (
    m.0,
    record {
      of_graph = m.1.of_graph;
      plane = m.1.plane;
      order_is = turn-trans ys xs (edges_round m.0 t) (turn-sym xs ys turn) m.1.order_is;
      lists_kept = m.1.lists_kept;
    },
  )

  -- an order of u has edges of u
  order_own : (order : List ℕ) → IsBlockOrder i u order → (f : ℕ) → Has f order → Contains (edges_of i u) f
  order_own order o f h =
      let live : Contains g.verts u = verts_in i is e es b u here in
      let arr = All-contains (λ v. ArrangesEdges (only o.inside g) v
      (o.lists v)) g.verts u o.rotation.rotation.arranged live in
      let c = Contains-permutation (o.lists u) (edges_at_named (only o.inside g) u) f
      (IsPermutation-sym (edges_at_named (only o.inside g) u) (o.lists u) arr)
      ((Has-Contains f (o.lists u)).0 (Has-of_turn (o.lists u) order f o.turn h)) in
      let w = edges_at-Contains (only o.inside g) u f c in
      Contains-edges_at g u f (kept_pair o.inside g.edges f w.0).0 w.1

  -- the tree of the number of u
  module _ (tree : PQTree) (is_tree : IsEmbeddingTree (listed_part i es) t tree) where
    -- the tree has a pair, so u has an order
    some_embedded : (word : List ℕ) × (bit : ℕ → Bool) × IsEmbedded (listed_part i es) t (tree.root ∷ word) bit
        × IsPermutation (leaves tree.body) word
    some_embedded =
        let p = is_tree.some_pair in
        let word = p.2.word in (
          word,
          bit_of p.1,
          (is_tree.exact word (bit_of p.1)).0 (p.1, subst (λ o. IsPair tree o p.1) p.2.order_is p.2, λ v lt. refl),
          read_leaves (given p.1) tree.body word p.2.reads,
        )

    -- some order
    pub tree-HasSomeOrder : HasSomeOrder i u
    tree-HasSomeOrder =
        let m = some_embedded in
        (map (slice_index es) (tree.root ∷ m.0), embedded-order (tree.root ∷ m.0) m.1 m.2)

    -- the root and the leaves are distinct
    pub tree_once : Distinct (tree.root ∷ leaves tree.body)
    tree_once =
        let m = some_embedded in
        let once = (embedded_items (tree.root ∷ m.0) m.1 m.2).0 in
        let back = IsPermutation-sym (leaves tree.body) m.0 m.3 in (
          Lacks-IsPermutation tree.root m.0 (leaves tree.body) back once.0,
          Distinct-IsPermutation m.0
              (leaves tree.body) back once.1,
        )

    -- and are the numbers of the edges of u
    pub tree_items : (k : ℕ) → Has k (tree.root ∷ leaves tree.body) ↔ ((k < length ends) × (touches ends t k ≡ true))
    tree_items k =
        let m = some_embedded in
        let items = (embedded_items (tree.root ∷ m.0) m.1 m.2).1 k in (
          λ h. items.0 (⊎_elim inl (λ l. inr (Has-IsPermutation k (leaves tree.body) m.0 m.3 l)) h),
          λ h. ⊎_elim inl (λ l. inr (Has-IsPermutation k m.0 (leaves tree.body)
              (IsPermutation-sym (leaves tree.body) m.0 m.3) l)) (items.1 h),
        )

    -- the names of the root and the leaves, each once
    names_once : Distinct (map (slice_index es) (tree.root ∷ leaves tree.body))
    names_once = Distinct-map_on (slice_index es) (tree.root ∷ leaves tree.body)
        (λ x y hx hy same.
        let wx = (tree_items x).0 hx in
        let wy = (tree_items y).0 hy in
        sym (rank_is es x (slice_index es x) es_once (omega (arith, wx.0, size i is e es b)) refl)
        ∙ rank_is es y (slice_index es x) es_once (omega (arith, wy.0, size i is e es b)) (sym same))
        tree_once

    -- are the edges of u
    names_items : (f : ℕ) → Has f (map (slice_index es) (tree.root ∷ leaves tree.body)) ↔ Contains (edges_of i u) f
    names_items f = (
      λ h.
          let w = map_on-Has (slice_index es) f (tree.root ∷ leaves tree.body) h in
          let k = (tree_items w.0).0 w.1 in
          subst (Contains (edges_of i u)) w.2 (touches_own w.0 k.0 k.1),
      λ c.
          let k = own_touches f c in
          subst (λ x. Has x (map (slice_index es) (tree.root ∷ leaves tree.body))) (rank_at es f (own_edges f c)).1
          (Has-map_on (slice_index es) (rank es f) (tree.root ∷ leaves tree.body) ((tree_items (rank es f)).1 k)),
    )

    -- so the names, rising, are the edges of u
    pub names-rising : rising (map (slice_index es) (tree.root ∷ leaves tree.body)) ≡ edges_of i u
    names-rising = rising_is (map (slice_index es) (tree.root ∷ leaves tree.body)) (edges_of i u) names_once own_rise
        (λ f h. (Has-Contains f (edges_of i u)).1 ((names_items f).0 h))
        (λ f h. (names_items f).1 ((Has-Contains f (edges_of i u)).0 h))

    -- the root is the number of the least edge of u
    pub root-least : take 1 (edges_of i u) ≡ slice_index es tree.root ∷ []
    root-least = first_is (edges_of i u) (slice_index es tree.root) own_rise
        ((Has-Contains (slice_index es tree.root) (edges_of i u)).1
        (touches_own tree.root is_tree.root.within is_tree.root.is_end))
        (λ f h.
        let c = (Has-Contains f (edges_of i u)).0 h in
        let k = own_touches f c in
        let le = is_tree.root.least (rank es f) k.0 k.1 in
        let p = rank_at es f (own_edges f c) in
        ⊎_elim
        (λ (same : tree.root ≡ rank es f). omega (arith, ap (slice_index es) same, p.1))
        (λ ne.
        let less = AllPairs-from_increasing es (edges_rise i is e es b) tree.root (rank es f) 0 (omega
        (arith, le, ne)) p.0 in
        omega (arith, less, p.1))
        (cases_eq tree.root (rank es f)))

    -- an order of an embedding, written from the root on, is one of a pair of the tree
    pair_of : (numbers : List ℕ) (bit : ℕ → Bool) → IsEmbedded (listed_part i es) t numbers bit
        → (word : List ℕ) × IsTurn numbers (tree.root ∷ word) × pairs_of (listed_part i es).graph.vertices tree word bit
    pair_of numbers bit m =
        let items = (embedded_items numbers bit m).1 tree.root in
        let turned = turn_to_item tree.root numbers (items.1 (is_tree.root.within, is_tree.root.is_end)) in (
          turned.0,
          turned.1,
          (is_tree.exact turned.0 bit).1 (IsEmbedded-turn numbers (tree.root ∷ turned.0) bit turned.1 m),
        )

    -- an order of u in a rotation of its block is admitted by the shape of the tree, in numbers
    pub order-Admits : (order : List ℕ) → IsBlockOrder i u order
        → shape.Admits (shape_of_tree tree) (map (rank es) order)
    order-Admits order o =
        let m = order-IsEmbedded order o in
        let w = pair_of (map (rank es) order) m.0 m.1 in
        (shape_of_tree-Admits tree (map (rank es) order)).1 (
          tree.root ∷ w.0,
          (w.0, refl, word_admitted tree w.0 w.2.0 w.2.1),
          turn-sym (map (rank es) order) (tree.root ∷ w.0) w.1,
        )

    -- an order of u, in numbers and back in names
    pub order-named : (order : List ℕ) → IsBlockOrder i u order → map (slice_index es) (map (rank es) order) ≡ order
    order-named order o = own_named order (order_own order o)

    -- a permutation of the leaves has numbers of edges, as the root has
    word_number : (word : List ℕ) → IsPermutation (leaves tree.body) word → (k : ℕ) → Has k (tree.root ∷ word)
        → k < length es
    word_number word perm k h =
        let w = (tree_items k).0 (⊎_elim inl (λ l. inr (Has-IsPermutation k word (leaves tree.body)
        (IsPermutation-sym (leaves tree.body) word perm) l)) h) in
        omega (arith, w.0, size i is e es b)

    -- where u has every order, the tree has
    pub every-tree : HasEveryOrder i u → tree_orders.HasEveryOrder tree
    every-tree every word perm =
        let line = tree.root ∷ word in
        let order = map (slice_index es) line in
        let whole : IsPermutation (edges_of i u) order =
        IsPermutation-trans (edges_of i u) (map (slice_index es) (tree.root ∷ leaves tree.body)) order
        (arranged (edges_of i u) (map (slice_index es) (tree.root ∷ leaves tree.body)) names-rising)
        (IsPermutation-map (slice_index es) (tree.root ∷ leaves tree.body) line
        (IsPermutation-cons tree.root (leaves tree.body) word perm)) in
        let m = order-IsEmbedded order (every order whole) in
        let back : map (rank es) order ≡ line = map_undone (slice_index es) (rank es) line
        (λ k h. rank_is es k (slice_index es k) es_once (word_number word perm k h) refl) in
        let pair = (is_tree.exact word m.0).1
        (subst (λ xs. IsEmbedded (listed_part i es) t xs m.0) back m.1) in
        (pair.0, pair.1)

    -- and back
    pub tree-every : tree_orders.HasEveryOrder tree → HasEveryOrder i u
    tree-every every order perm =
        let own : (f : ℕ) → Has f order → Contains (edges_of i u) f =
        λ f h. (Has-Contains f (edges_of i u)).0
        (Has-IsPermutation f order (edges_of i u) (IsPermutation-sym (edges_of i u) order perm) h) in
        let numbers = map (rank es) order in
        let once : Distinct numbers = Distinct-map_on (rank es) order
        (λ x y hx hy same. rank_one es x y (own_edges x (own x hx)) (own_edges y (own y hy)) same)
        (Distinct-IsPermutation (edges_of i u) order perm (rising_distinct (edges_of i u) own_rise)) in
        let items : (k : ℕ) → Has k numbers ↔ ((k < length ends) × (touches ends t k ≡ true)) =
        λ k. (
          λ h. let w = map_on-Has (rank es) k order h in
              subst (λ n. (n < length ends) × (touches ends t n ≡ true)) w.2 (own_touches w.0 (own w.0 w.1)),
          λ q.
              let f = slice_index es k in
              let c = touches_own k q.0 q.1 in
              subst (λ n. Has n numbers)
              (rank_is es k f es_once (omega (arith, q.0, size i is e es b)) refl)
              (Has-map_on (rank es) f order (Has-IsPermutation f (edges_of i u) order perm
              ((Has-Contains f (edges_of i u)).1 c))),
        ) in
        let turned = turn_to_item tree.root numbers ((items tree.root).1 (is_tree.root.within, is_tree.root.is_end)) in
        let word = turned.0 in
        let line_once : Distinct (tree.root ∷ word) = turn-Distinct numbers (tree.root ∷ word) turned.1 once in
        let words : IsPermutation (leaves tree.body) word =
        IsPermutation-from (leaves tree.body) word tree_once.1 line_once.1
        (λ k h. behind tree.root k word
        (turn-Has numbers (tree.root ∷ word) k turned.1 ((items k).1 ((tree_items k).0 (inr h))))
        (λ same. has_lacks tree.root (leaves tree.body) (subst (λ n. Has n (leaves tree.body))
        (sym same) h) tree_once.0))
        (λ k h. behind tree.root k (leaves tree.body)
        ((tree_items k).1 ((items k).0 (Has-of_turn numbers (tree.root ∷ word) k turned.1 (inr h))))
        (λ same. has_lacks tree.root word (subst (λ n. Has n word) (sym same) h) line_once.0)) in
        let pair = every word words in
        let m = (is_tree.exact word (bit_of pair.0)).0 (pair.0, pair.1, λ v lt. refl) in
        subst (IsBlockOrder i u) (own_named order own)
        (embedded-order numbers (bit_of pair.0)
        (IsEmbedded-turn (tree.root ∷ word) numbers (bit_of pair.0) (turn-sym numbers (tree.root ∷ word) turned.1) m))
      where
        -- an item other than the first stands behind it
        behind : (x k : ℕ) (xs : List ℕ) → Has k (x ∷ xs) → (x ≡ k → ⊥) → Has k xs
        behind x k xs h other = ⊎_elim (λ same. absurd (other same)) (λ r. r) h
