-- What a solution of an instance tells of its blocks: each has a rotation in the directions of the cells, and no two cross.
use Rattle.std.proofs.Common.{◌≡◌, ℕ, suc, zero, ◌+◌, ◌-◌, ◌*◌, ◌/◌, ◌<◌, Bool, true, false, eqb, List, [], ◌∷◌, length, drop, filter, map, reverse, slice_index, sym, refl, ap, ◌∙◌, subst, inl, inr, ⊎_elim, arith}
use Rattle.std.specs.Prelude.{Some, slice_index_or}
use Rattle.std.specs.List.{Contains}
use Rattle.std.specs.Option.{option_map_or}
use Rattle.std.proofs.lemmas.Bool.{eq-eqb, eqb-true, false≢true}
use Rattle.std.proofs.lemmas.List.{drop-drop, get_or-drop, get_or-map, length-drop, length-map, reverse-reverse}
use Rattle.cp_lists.specs.Crossings.{InOrder, NoCross}
use Rattle.cp_lists.specs.CyclicLists.{Has}
use Rattle.cp_lists.specs.Turns.{IsTurn}
use Rattle.cp_lists.proofs.Counting.{IsCount-le}
use Rattle.cp_lists.proofs.Crossings.{NoCross-turn}
use Rattle.cp_lists.proofs.DistinctLists.{Has-Contains}
use Rattle.cp_lists.proofs.FilteredLists.{filter_agree}
use Rattle.cp_lists.proofs.ReversedLists.{filter-reverse}
use Rattle.cp_lists.proofs.TurnedLists.{turn-filter, turn-sym}
use Rattle.cp_conn.specs.Blocks.{AreInOneBlock}
use Rattle.cp_conn.specs.NamedGraphs.{IsBlockOf, NamedGraph, rank}
use Rattle.cp_conn.specs.Numbering.{AreNumbered}
use Rattle.cp_conn.proofs.NamedGraphs.{rank_at}
use Rattle.cp_maps.specs.Blocks.{NoneCross}
use Rattle.cp_maplaw.specs.NamedDarts.{dart_list}
use Rattle.cp_sync.specs.Numbering.{numbered}
use Rattle.cp_board.specs.declared.parts.Kind.{Kind}
use Rattle.cp_board.specs.declared.parts.Kind.TheVariants.{P, Q}
use Rattle.cp_board.specs.declared.parts.Vert.{Vert}
use Rattle.cp_board.specs.Instances.{IsSynchronized, Synchronized, cell_at, graph, is_q, is_q_kind, kind_cell, kind_of, kind_psi, psi_at, vert_names}
use Rattle.cp_board.specs.Reasons.{HasNoCrossing, IsEmbeddable}
use Rattle.cp_board.specs.Rotations.{dart}
use Rattle.cp_board.specs.Solutions.{IsInDirection, Solves, directed}
use Rattle.cp_embed.specs.BoardBlocks.{AreBlockEdges, listed_part, part_with}
use Rattle.cp_embed.proofs.BoardBlocks.{live_ends}
use Rattle.cp_embed.proofs.NumberedBlocks.{one_number}
use Rattle.cp_flip.specs.DirectedBlocks.{CanBeDirected}
use Rattle.cp_flip.specs.DirectedRotations.{IsDirectedRotation}
use Rattle.cp_flip.proofs.BlockRotations.{kept-inside, rotation-IsDirectedBy}
use Rattle.cp_flip.proofs.BlocksTogether.{blocks-HasGenusZero, kept-arranged}
use Rattle.cp_flip.proofs.CrossingLists.{HaveCrossing-turns, crossing-is_q, crossing-live}
use Rattle.cp_flip.proofs.FlatBlocks.{dart_half}
use Rattle.cp_flip.proofs.EqualTests.{same_tests}
use Rattle.cp_flip.proofs.RotationsOfBlocks.{directed-HasRotation, none, row_kind}
use Rattle.cp_flip.proofs.UncrossedLists.{NoCross-reverse}

-- what is kept of a list in a direction is what is kept of it, in this direction
pub filter-directed : (p : ℕ → Bool) (back : Bool) (xs : List ℕ) → filter p (directed back xs) ≡ directed back (filter p xs)
filter-directed p true xs = filter-reverse p xs
filter-directed p false xs = refl

-- at each of some vertices no two classes stand crosswise
NoneCross-at : (class : ℕ → ℕ) (lists : ℕ → List ℕ) (names : List ℕ) (v : ℕ) → NoneCross class (map lists names)
    → Has v names
    → NoCross class (lists v)
NoneCross-at class lists [] v apart h = absurd h
NoneCross-at class lists (w ∷ names) v apart h = ⊎_elim
    (λ (e : w ≡ v). subst (λ u. NoCross class (lists u)) e apart.0)
    (λ k. NoneCross-at class lists names v apart.1 k)
    h

-- images stand in the order of the items
InOrder-map : (f : ℕ → ℕ) (ws xs : List ℕ) → InOrder ws xs → InOrder (map f ws) (map f xs)
InOrder-map f [] xs h = tt
InOrder-map f (w ∷ ws) [] h = absurd h
InOrder-map f (w ∷ ws) (x ∷ xs) h = ⊎_elim
    (λ p. inl (ap f p.0, InOrder-map f ws xs p.1))
    (λ k. inr (InOrder-map f (w ∷ ws) xs k))
    h

-- an item stands before those that stand in order behind its place
InOrder-at : (k : ℕ) (ws xs : List ℕ) → k < length xs → InOrder ws (drop (suc k) xs) → InOrder (slice_index xs k ∷ ws) xs
InOrder-at k ws [] lt h = absurd (omega (arith, lt))
InOrder-at zero ws (x ∷ xs) lt h = inl (refl, h)
InOrder-at (suc k) ws (x ∷ xs) lt h = inr (InOrder-at k ws xs (omega (arith, lt)) h)

-- and so it does behind an earlier place
InOrder-behind : (n k : ℕ) (ws xs : List ℕ) → n < k → k < length xs → InOrder ws (drop (suc k) xs)
    → InOrder (slice_index xs k ∷ ws) (drop (suc n) xs)
InOrder-behind n k ws xs less lt h =
    let j : ℕ = k - suc n in
    let sum : suc n + j ≡ k = omega (arith, less) in
    let size : length (drop (suc n) xs) ≡ length xs - suc n = length-drop (suc n) xs in
    let next : suc n + suc j ≡ suc k = omega (arith, sum) in
    let rest : InOrder ws (drop (suc j) (drop (suc n) xs)) =
    subst (InOrder ws) (sym (drop-drop (suc j) (suc n) xs)) (subst (λ (m : ℕ). InOrder ws (drop m xs)) (sym next) h) in
    let item : slice_index (drop (suc n) xs) j ≡ slice_index xs k =
    get_or-drop (suc n) xs j 0 ∙ ap (slice_index xs) sum in
    subst (λ x. InOrder (x ∷ ws) (drop (suc n) xs)) item
    (InOrder-at j ws (drop (suc n) xs) (omega (arith, size, sum, lt, less)) rest)

-- where images do not stand crosswise, items of the same classes do not
NoCross-of_map : (f class of : ℕ → ℕ) (xs : List ℕ) → ((x : ℕ) → class (f x) ≡ of x) → NoCross class (map f xs)
    → NoCross of xs
NoCross-of_map f class of xs same apart w x y z order one two =
    sym (same w)
    ∙ apart (f w) (f x) (f y) (f z) (InOrder-map f (w ∷ x ∷ y ∷ z ∷ []) xs order) (same w ∙ one ∙ sym (same y))
    (same x ∙ two ∙ sym (same z))
    ∙ same x

-- classes do not stand crosswise in a list where they do not so in one of its directions
NoCross-of_directed : (class : ℕ → ℕ) (back : Bool) (xs : List ℕ) → NoCross class (directed back xs) → NoCross class xs
NoCross-of_directed class true xs apart = subst (NoCross class) (reverse-reverse xs) (NoCross-reverse class (reverse xs) apart)
NoCross-of_directed class false xs apart = apart

module _ (i : Synchronized) (is : IsSynchronized i) (numbers : List ℕ)
    (are : AreNumbered (AreInOneBlock (numbered (graph i)).ends) (length (graph i).edges) numbers) where
  -- the graph
  abbrev g : NamedGraph
  g = graph i

  -- the number of the block of an edge
  abbrev pub number : ℕ → ℕ
  number f = slice_index numbers (rank g.edges f)

  -- the edges of the block of a number
  abbrev pub inside : ℕ → ℕ → Bool
  inside c f = eqb (number f) c

  -- the number of the block of an edge is below twice the number of edges
  pub number-bound : (e : ℕ) → Contains g.edges e → number e < 2 * length g.edges
  number-bound e c =
      let at = (rank_at g.edges e c).0 in
      let h = are.by_least (rank g.edges e) at in
      let le = IsCount-le _ h.least (number e) h.counted in
      let up = h.leads (rank g.edges e) h.related in
      omega (arith, le, up, at)

  -- the edges of the number of an edge are those of its block
  pub number-IsBlockOf : (e : ℕ) → Contains g.edges e → IsBlockOf g e (inside (number e))
  number-IsBlockOf e c = record {
    live = c;
    tells = λ f cf.
        let one = one_number i is (length g.edges) numbers refl are e f c cf in (
          λ t. one.0 (sym (eqb-true (number f) (number e) t)),
          λ o. eq-eqb (number f) (number e) (sym (one.1 o)),
        );
  }

  -- so the edges of its block are those that have its number
  pub number-edges : (e : ℕ) (es : List ℕ) → AreBlockEdges i e es → es ≡ filter (inside (number e)) g.edges
  number-edges e es b =
      let here = number-IsBlockOf e b.is_block.live in
      b.edges ∙ filter_agree b.inside (inside (number e)) g.edges (λ f h.
      let c = (Has-Contains f g.edges).0 h in
      same_tests (b.inside f) (inside (number e) f)
      (λ t. (here.tells f c).1 ((b.is_block.tells f c).0 t))
      (λ t. (b.is_block.tells f c).1 ((here.tells f c).0 t)))

  -- the block, told by its number
  abbrev pub by_number : (e : ℕ) (es : List ℕ) → AreBlockEdges i e es → AreBlockEdges i e es
  by_number e es b = record {
    inside = inside (number e);
    is_block = number-IsBlockOf e b.is_block.live;
    edges = number-edges e es b;
  }

  module _ (s : ℕ → List ℕ) (solves : Solves i s) where
    -- the direction of a vertex is that of its cell
    abbrev pub backs : ℕ → Bool
    backs v = solves.back (cell_at i v)

    -- a Q-vertex keeps its psi in this direction
    pub psi-kept : (v : ℕ) → Contains (vert_names i) v → is_q i v ≡ true → IsTurn (directed (backs v) (psi_at i v)) (s v)
    psi-kept v c q =
        let at = rank_at (vert_names i) v c in
        let k = rank (vert_names i) v in
        let lt : k < length i.verts = omega (arith, at.0, length-map i.verts (λ (x : Vert). x.name)) in
        let row = slice_index_or i.verts k none in
        let name : row.name ≡ v = sym (get_or-map (λ (x : Vert). x.name) i.verts k none 0 lt) ∙ at.1 in
        subst (λ u. is_q i u ≡ true → IsTurn (directed (backs u) (psi_at i u)) (s u)) name
        (by_kind row.name row.kind (row_kind i is k lt) (solves.in_direction k none lt)) q
      where
        by_kind : (u : ℕ) (k : Kind) → kind_of i u ≡ Some k → IsInDirection solves.back (s u) k → is_q i u ≡ true
            → IsTurn (directed (backs u) (psi_at i u)) (s u)
        by_kind u P e h q = absurd (false≢true (sym (ap is_q_kind e) ∙ q))
        by_kind u (Q cell psi) e h q =
            subst (λ d. IsTurn (directed (solves.back d) (psi_at i u)) (s u)) (sym (ap (λ o. option_map_or kind_cell o 0) e))
            (subst (λ xs. IsTurn (directed (solves.back cell) xs) (s u)) (sym (ap (λ o. option_map_or kind_psi o []) e)) h)

    -- what the lists have of the block of a number is a rotation of it in the directions of the cells
    pub kept-IsDirectedRotation : (c : ℕ) → c < 2 * length g.edges
        → IsDirectedRotation i (inside c) backs (λ v. filter (inside c) (s v))
    kept-IsDirectedRotation c lt = record {
      rotation = record {
        arranged = kept-arranged i is s solves.rotation.arranged numbers are c;
        flat = ((blocks-HasGenusZero i is s solves.rotation.arranged numbers are).0 solves.rotation.flat).0 c lt;
      };
      kept = λ v live q.
          subst (λ xs. IsTurn xs (filter (inside c) (s v))) (filter-directed (inside c) (backs v) (psi_at i v))
          (turn-filter (inside c) (directed (backs v) (psi_at i v)) (s v) (psi-kept v live q));
    }

    -- so each block can be directed by the bits of the cells
    pub block-CanBeDirected : (e : ℕ) (es : List ℕ) → AreBlockEdges i e es
        → CanBeDirected (listed_part i es) (λ k. backs (slice_index (part_with g es).verts k))
    block-CanBeDirected e es b =
        let c = number e in
        rotation-IsDirectedBy i is e es (by_number e es b) (inside c) backs (λ v. filter (inside c) (s v))
        (number-edges e es b) (λ v live q. kept-inside i is e es (by_number e es b) v live q)
        (kept-IsDirectedRotation c (number-bound e b.is_block.live))

    -- no block is without a rotation
    pub solved-IsEmbeddable : IsEmbeddable i
    solved-IsEmbeddable e u =
        let c = number e in
        directed-HasRotation i is e (filter (inside c) g.edges)
        (record { inside = inside c; is_block = number-IsBlockOf e u.live; edges = refl })
        backs (λ v. filter (inside c) (s v)) (kept-IsDirectedRotation c (number-bound e u.live)) u.none

    -- at no Q-vertex two blocks cross
    pub solved-HasNoCrossing : HasNoCrossing i
    solved-HasNoCrossing q h =
        let t = crossing-is_q i q h in
        let live = crossing-live i q h in
        let psi = psi_at i q in
        let turns = HaveCrossing-turns i is numbers are q live h in
        let in_darts : NoCross (λ d. slice_index numbers (d / 2)) (map (dart g q) (s q)) =
        NoneCross-at (λ d. slice_index numbers (d / 2)) (dart_list (dart g) s) g.verts q
        ((blocks-HasGenusZero i is s solves.rotation.arranged numbers are).0 solves.rotation.flat).1
        ((Has-Contains q g.verts).1 live) in
        let in_list : NoCross number (s q) =
        NoCross-of_map (dart g q) (λ d. slice_index numbers (d / 2)) number (s q)
        (λ e. ap (slice_index numbers) (dart_half g (λ f c. (live_ends i is f c).2) q e)) in_darts in
        let in_psi : NoCross number psi =
        NoCross-of_directed number (backs q) psi
        (NoCross-turn number (s q) (directed (backs q) psi)
        (turn-sym (directed (backs q) psi) (s q) (psi-kept q live t)) in_list) in
        let size : length (map number psi) ≡ length psi = length-map psi number in
        let l4 : turns.fourth < length psi = omega (arith, turns.in_order.3, size) in
        let l3 : turns.third < length psi = omega (arith, turns.in_order.2, l4) in
        let l2 : turns.second < length psi = omega (arith, turns.in_order.1, l3) in
        let l1 : turns.first < length psi = omega (arith, turns.in_order.0, l2) in
        let at = λ (k : ℕ) (lt : k < length psi). get_or-map number psi k 0 0 lt in
        turns.apart (at turns.first l1
        ∙ in_psi (slice_index psi turns.first) (slice_index psi turns.second) (slice_index psi turns.third)
        (slice_index psi turns.fourth)
        (InOrder-at turns.first (slice_index psi turns.second ∷ slice_index psi turns.third ∷ slice_index psi turns.fourth ∷ []) psi l1
        (InOrder-behind turns.first turns.second (slice_index psi turns.third ∷ slice_index psi turns.fourth ∷ []) psi turns.in_order.0 l2
        (InOrder-behind turns.second turns.third (slice_index psi turns.fourth ∷ []) psi turns.in_order.1 l3
        (InOrder-behind turns.third turns.fourth [] psi turns.in_order.2 l4 tt))))
        (sym (at turns.first l1) ∙ turns.one ∙ at turns.third l3)
        (sym (at turns.second l2) ∙ turns.other ∙ at turns.fourth l4)
        ∙ sym (at turns.second l2))
