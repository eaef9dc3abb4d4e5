-- What is cut out of a board for a vertex, and the order tree of it, tell the orders of the vertex.
use Rattle.std.proofs.Common.{◌≡◌, ℕ, zero, suc, ◌<◌, ◌≤◌, true, false, eqb, List, [], ◌∷◌, length, map, slice_index, sym, refl, ap, ◌∙◌, subst, inl, inr, ⊎_elim, arith}
use Rattle.std.specs.Prelude.{Some, None, find}
use Rattle.std.specs.List.{Contains}
use Rattle.std.specs.List.Sorted.{IsStrictlyIncreasing}
use Rattle.std.specs.Option.{option_map, option_map_or}
use Rattle.std.proofs.lemmas.Bool.{cases_Bool, cond-false, eqb-true, false≢true}
use Rattle.std.proofs.lemmas.List.{get_or_default, length-map}
use Rattle.std.proofs.lemmas.List.Elements.{Contains-get_or}
use Rattle.std.proofs.lemmas.List.Kept.{AllPairs-from_increasing}
use Rattle.cp_lists.specs.CyclicLists.{Distinct, Has}
use Rattle.cp_lists.proofs.DistinctLists.{Has-Contains}
use Rattle.cp_lists.proofs.MappedLists.{Distinct-map_on, map_on-Has}
use Rattle.cp_conn.proofs.DistinctSubsets.{subset_length}
use Rattle.cp_conn.specs.Bonds.{IsBond}
use Rattle.cp_conn.specs.NamedGraphs.{InOneBlock, IsCut, rank}
use Rattle.cp_pq.specs.Nodes.{leaves}
use Rattle.cp_board.specs.declared.parts.Kind.{Kind}
use Rattle.cp_board.specs.declared.parts.Vert.{Vert}
use Rattle.cp_board.specs.Blocks.{IsUnembeddable}
use Rattle.cp_board.specs.Instances.{IsPVertex, IsSynchronized, Synchronized, edges_of, graph, kind_in, names_of_verts}
use Rattle.cp_embed.specs.BoardBlocks.{AreBlockEdges, listed_part, part_with}
use Rattle.cp_embed.specs.Bonds.{as_named}
use Rattle.cp_embed.specs.Embeddings.{Embedding, HasTwoEdges, IsEmbeddingTree, IsNeverEmbedded}
use Rattle.cp_embed.specs.ListedBlocks.{ListedGraph, touches}
use Rattle.cp_embed.proofs.BoardBlocks.{edges_rise, rising_distinct}
use Rattle.cp_tree.specs.declared.end_tree.EndTree.{EndTree}
use Rattle.cp_tree.specs.declared.end_tree.EndTree.TheVariants as end
use Rattle.cp_tree.specs.EndTrees.{HasSomeOrder, IsEndTree}
use Rattle.cp_tree.specs.NamedTrees.{IsNamedTree}
use Rattle.cp_tree.proofs.BlockRotations.{rank_one}
use Rattle.cp_tree.proofs.EndOrders.{own-HasTwoEdges, own_edges, own_rise, own_touches, t_within, tree-HasSomeOrder, tree_items}
use Rattle.cp_tree.proofs.NamedEnds.{named-IsPoleOf, named-IsShapeOf, never-IsUnembeddable, pole_within}

-- a vertex of a kind is live
pub kind_live : (vs : List Vert) (n : ℕ) (kind : Kind) → kind_in vs n ≡ Some kind → Contains (names_of_verts vs) n
kind_live vs n kind e = (Has-Contains n (names_of_verts vs)).0 (live vs e)
  where
    none_some : (x : Kind) → None ≡ Some x → ⊥
    none_some x h = false≢true (ap (λ o. option_map_or (λ z. true) o false) h)

    live : (ws : List Vert) → kind_in ws n ≡ Some kind → Has n (names_of_verts ws)
    live [] f = absurd (none_some kind f)
    live (w ∷ ws) f =
        ⊎_elim
        (λ t. inl (eqb-true w.name n t))
        (λ u. inr (live ws
        (sym (ap (option_map (λ x. x.kind)) (cond-false (eqb w.name n) (Some w) (find (λ x. eqb x.name n) ws) u)) ∙ f)))
        (cases_Bool (eqb w.name n))

-- the first of rising numbers is the least
first_least : (xs : List ℕ) → IsStrictlyIncreasing xs → (y : ℕ) → Contains xs y → slice_index xs 0 ≤ y
first_least xs up y (zero, lt, at) = let h = get_or_default xs 0 0 y lt ∙ at in omega (arith, h)
first_least xs up y (suc k, lt, at) =
    let less = AllPairs-from_increasing xs up 0 (suc k) 0 (omega arith) lt in
    let h = get_or_default xs (suc k) 0 y lt ∙ at in
    omega (arith, less, h)

-- u: a P-vertex that is no cut vertex, with the edge e, and es: the edges of the block of e; what is cut out of them
-- has
-- the place of u
module _ (i : Synchronized) (is : IsSynchronized i) (u : ℕ) (free : IsPVertex i u) (uncut : IsCut (graph i) u → ⊥)
    (large : 4 ≤ length (edges_of i u)) (e : ℕ) (at : Contains (edges_of i u) e) (es : List ℕ)
    (b : AreBlockEdges i e es) (block : ListedGraph) (is_block : block ≡ listed_part i es) (verts : List ℕ)
    (is_verts : verts ≡ (part_with (graph i) es).verts) (place : ℕ) (is_place : place ≡ rank verts u) where
  -- the vertices of the block
  abbrev vs : List ℕ
  vs = (part_with (graph i) es).verts

  -- the place is the number of u
  place_is : place ≡ rank vs u
  place_is = is_place ∙ ap (λ (xs : List ℕ). rank xs u) is_verts

  -- it is the number of a vertex
  pub cut-within : place < block.graph.vertices
  cut-within = subst (λ (x : ListedGraph). place < x.graph.vertices) (sym is_block)
      (subst (λ (k : ℕ). k < (listed_part i es).graph.vertices) (sym place_is)
      (t_within i is u free uncut e at es b))

  -- with two edges
  pub cut-HasTwoEdges : HasTwoEdges block.graph.ends place
  cut-HasTwoEdges = subst (λ (x : ListedGraph). HasTwoEdges x.graph.ends place) (sym is_block)
      (subst (HasTwoEdges (listed_part i es).graph.ends) (sym place_is)
      (own-HasTwoEdges i is u free uncut e at es b (omega (arith, large))))

  -- the order tree of the place
  module _ (m : Embedding) (own : m.block ≡ block) (here_is : m.vertex ≡ place)
      (is_tree : IsEmbeddingTree block place m.tree) where
    -- it is that of the number of u
    tree_is : IsEmbeddingTree (listed_part i es) (rank vs u) m.tree
    tree_is = subst (λ (k : ℕ). IsEmbeddingTree (listed_part i es) k m.tree) place_is
        (subst (λ (x : ListedGraph). IsEmbeddingTree x place m.tree) is_block is_tree)

    -- a pole is the place of a vertex
    pub cut-poles : (owner : ℕ) → IsBond (as_named m.block.graph) m.vertex owner → owner < length verts
    cut-poles owner bond = subst (λ (xs : List ℕ). owner < length xs) (sym is_verts)
        (pole_within i is u free uncut e at es b owner
        (subst (λ (k : ℕ). IsBond (as_named (listed_part i es).graph) k owner) (here_is ∙ place_is)
        (subst (λ (x : ListedGraph). IsBond (as_named x.graph) m.vertex owner) (own ∙ is_block) bond)))

    -- there are at least three leaves
    many : 3 ≤ length (leaves m.tree.body)
    many =
        let all = subset_length (map (rank es) (edges_of i u)) (m.tree.root ∷ leaves m.tree.body) ranks_once (λ k h.
        let w = map_on-Has (rank es) k (edges_of i u) h in
        (tree_items i is u free uncut e at es b m.tree tree_is k).1
        (subst (λ n. (n < length (listed_part i es).graph.ends) × (touches (listed_part i es).graph.ends
        (rank vs u) n ≡ true))
        w.2 (own_touches i is u free uncut e at es b w.0 ((Has-Contains w.0 (edges_of i u)).0 w.1)))) in
        let few = length-map (edges_of i u) (rank es) in
        omega (arith, all, few, large)
      where
        ranks_once : Distinct (map (rank es) (edges_of i u))
        ranks_once = Distinct-map_on (rank es) (edges_of i u)
            (λ x y hx hy same. rank_one es x y
            (own_edges i is u free uncut e at es b x ((Has-Contains x (edges_of i u)).0 hx))
            (own_edges i is u free uncut e at es b y ((Has-Contains y (edges_of i u)).0 hy)) same)
            (rising_distinct (edges_of i u) (own_rise i is u free uncut e at es b))

    -- so what the tree tells in names is the end's tree
    pub cut-IsEndTree : (t : EndTree) → IsNamedTree verts es m t → IsEndTree i u t
    cut-IsEndTree (end.Pole v) p =
        named-IsPoleOf i is u free uncut e at es b m (own ∙ is_block) (here_is ∙ place_is) tree_is verts v is_verts p
    cut-IsEndTree (end.Shape s) p =
        named-IsShapeOf i is u free uncut e at es b m (own ∙ is_block) (here_is ∙ place_is) tree_is es s refl p.shape
        p.no_star (p.not_every many) p.formed

    -- and u has an order
    pub cut-HasSomeOrder : HasSomeOrder i u
    cut-HasSomeOrder = tree-HasSomeOrder i is u free uncut e at es b m.tree tree_is

  -- there is an edge
  pub cut-some : 0 < length es
  cut-some = let c = own_edges i is u free uncut e at es b e at in omega (arith, c.1)

  -- where the place is never embedded, the block has no rotation
  pub cut-IsUnembeddable : IsNeverEmbedded block place → (first : ℕ) → first ≡ slice_index es 0
      → IsUnembeddable i first × ((f : ℕ) → Contains (edges_of i u) f → InOneBlock (graph i) first f)
  cut-IsUnembeddable never first is_first =
      never-IsUnembeddable i is u free uncut e at es b
      (subst (IsNeverEmbedded (listed_part i es)) place_is
      (subst (λ (x : ListedGraph). IsNeverEmbedded x place) is_block never))
      first
      (subst (Contains es) (sym is_first) (Contains-get_or es 0 0 cut-some))
      (λ f c. subst (λ x. x ≤ f) (sym is_first) (first_least es (edges_rise i is e es b) f c))
