-- What the order tree of the number of a vertex says in names is what the orders of the vertex are.
use Rattle.std.proofs.Common.{◌≡◌, ℕ, ◌<◌, ◌≤◌, true, false, eqb, List, ◌∷◌, length, filter, map, slice_index, sym, ap, ◌∙◌, subst, ⊎_elim, arith}
use Rattle.std.specs.Prelude.{Some, None, slice_index_or}
use Rattle.std.specs.List.{Contains, range_with_len}
use Rattle.std.specs.Option.{option_map}
use Rattle.std.proofs.lemmas.Bool.{cases_Bool, cases_eq, cond-false, cond-true, eqb-true, false≢true, or_cases}
use Rattle.std.proofs.lemmas.List.{get_or-map, get_or_default, length-map}
use Rattle.std.proofs.lemmas.List.Elements.{Contains-get_or}
use Rattle.cp_base.specs.Graphs.{AreWithin}
use Rattle.cp_base.specs.declared.shape.Shape.{Shape}
use Rattle.cp_base.specs.Shapes as shape
use Rattle.cp_lists.proofs.DistinctLists.{Has-Contains}
use Rattle.cp_lists.proofs.TurnedLists.{turn-refl}
use Rattle.cp_conn.specs.Blocks.{HaveNoLoop}
use Rattle.cp_conn.specs.Bonds.{IsBond}
use Rattle.cp_conn.specs.NamedGraphs.{InOneBlock, IsBlockOf, IsCut, NamedGraph, edges_at, ends_at, far, pairs, rank}
use Rattle.cp_conn.proofs.BlockBonds.{block_bond, uncut_inside}
use Rattle.cp_conn.proofs.BlockClasses.{block-sym, block-trans}
use Rattle.cp_conn.proofs.CutVertices.{kept_of, kept_pair}
use Rattle.cp_conn.proofs.NamedGraphs.{Contains-edges_at, edges_at-Contains, rank_is}
use Rattle.cp_pq.specs.Trees.{IsWellFormed}
use Rattle.cp_force.specs.Owners.{IsSoleP}
use Rattle.cp_force.specs.Shapes.{branch_of, shape_of_tree}
use Rattle.cp_board.specs.declared.parts.Kind.{Kind}
use Rattle.cp_board.specs.declared.parts.Kind.TheVariants.{P, Q}
use Rattle.cp_board.specs.declared.parts.Vert.{Vert}
use Rattle.cp_board.specs.Blocks.{IsBlockOrder, IsUnembeddable}
use Rattle.cp_board.specs.Instances.{IsPVertex, IsSynchronized, Synchronized, edges_of, graph, is_q, is_q_kind, kind_of, psi_at, vert_names}
use Rattle.cp_board.specs.Names.{has, rising}
use Rattle.cp_board.proofs.NamedLists.{found_at, rises_from}
use Rattle.cp_embed.specs.BoardBlocks.{AreBlockEdges, list_among, listed_part, part_with}
use Rattle.cp_embed.specs.Bonds.{as_named}
use Rattle.cp_embed.specs.Embeddings.{Embedding, IsEmbeddingTree, IsNeverEmbedded}
use Rattle.cp_embed.specs.EveryOrder as tree_orders
use Rattle.cp_embed.specs.ListedBlocks.{ListedGraph, list_given}
use Rattle.cp_embed.proofs.BoardBlocks.{edges_in, edges_rise, ends_in, listed_part-IsListedBlock, live_ends, pairs-HaveNoLoop, rising_distinct, verts_in, verts_rise}
use Rattle.cp_tree.specs.EndTrees.{IsPoleOf, IsShapeOf}
use Rattle.cp_tree.specs.NamedTrees.{IsNamedPole}
use Rattle.cp_tree.specs.Naming.{renamed_shape}
use Rattle.cp_tree.proofs.EndOrders.{every-tree, here, names-rising, order-Admits, order-IsEmbedded, order-named, own_touches, root-least, tree-every}
use Rattle.cp_tree.proofs.NamedBonds.{IsBond-named}
use Rattle.cp_tree.proofs.RenamedShapes.{Admits-renamed, branches-renamed, leaves-renamed, star_before}
use Rattle.cp_tree.proofs.RoundEdges.{range-Has}
use Rattle.cp_tree.proofs.TreeShapes as trees

-- a live vertex that is no Q-vertex is a P-vertex
pub free_vertex : (i : Synchronized) → IsSynchronized i → (v : ℕ) → Contains (vert_names i) v → is_q i v ≡ false
    → IsPVertex i v
free_vertex i is v c p = by_kind row.kind kind
  where
    none : Vert
    none = record { name = 0; kind = P }

    row : Vert
    row = slice_index_or i.verts c.0 none

    within : c.0 < length i.verts
    within = omega (arith, c.1, length-map i.verts (λ (x : Vert). x.name))

    named : row.name ≡ v
    named = sym (get_or-map (λ (x : Vert). x.name) i.verts c.0 none 0 within)
        ∙ get_or_default (vert_names i) c.0 0 v c.1
        ∙ c.2

    kind : kind_of i v ≡ Some row.kind
    kind = sym (ap (kind_of i) named) ∙ ap (λ o. option_map (λ (x : Vert). x.kind) o)
        (found_at (λ (x : Vert). x.name) i.verts c.0 none (rises_from (vert_names i) is.verts_named.rise) within)

    by_kind : (k : Kind) → kind_of i v ≡ Some k → IsPVertex i v
    by_kind P e = e
    by_kind (Q cell psi) e = absurd (false≢true (sym p ∙ ap is_q_kind e))

-- a vertex of the block whose number has no list is no Q-vertex
unlisted_free : (i : Synchronized) (es : List ℕ) (k : ℕ) → k < length (part_with (graph i) es).verts
    → list_given (listed_part i es).lists k ≡ None → is_q i (slice_index (part_with (graph i) es).verts k) ≡ false
unlisted_free i es k lt none = ⊎_elim
    (λ q. absurd (some_none (sym (get_or-map (list_among i es) vs k 0 None lt
    ∙ cond-true (is_q i v) (Some (map (rank es) (filter (has es) (psi_at i v)))) None q) ∙ none)))
    (λ p. p)
    (cases_Bool (is_q i v))
  where
    vs : List ℕ
    vs = (part_with (graph i) es).verts

    v : ℕ
    v = slice_index vs k

    some_none : {xs : List ℕ} → Some xs ≡ None → ⊥
    some_none e = cc

-- u: a P-vertex that is no cut vertex, with the edge e, and es: the edges of the block of e
module _ (i : Synchronized) (is : IsSynchronized i) (u : ℕ) (free : IsPVertex i u) (uncut : IsCut (graph i) u → ⊥)
    (e : ℕ) (at : Contains (edges_of i u) e) (es : List ℕ) (b : AreBlockEdges i e es) where
  -- the graph of the instance
  abbrev g : NamedGraph
  g = graph i

  -- the vertices of the block
  abbrev vs : List ℕ
  vs = (part_with g es).verts

  -- a bond of the numbers of u and a vertex of the block is a bond
  bond_named : (v : ℕ) → Contains vs v → IsBond (as_named (listed_part i es).graph) (rank vs u) (rank vs v)
      → IsBond g u v
  bond_named v c bond =
      let part : IsBond (part_with g es) u v =
      IsBond-named (part_with g es) (rising_distinct vs (verts_rise i is e es b))
      (rising_distinct es (edges_rise i is e es b)) (ends_in i is e es b)
      (λ f cf. (live_ends i is f (edges_in i is e es b f cf)).2) u v (here i is u free uncut e at es b) c bond in
      let whole : IsBond (record { verts = g.verts; edges = es; ends = g.ends }) u v = record {
        differ = part.differ;
        no_loop = part.no_loop;
        one_each = part.one_each;
        reach = part.reach;
      } in
      block_bond g e u v b.inside (rising_distinct g.edges is.edges_named.rise) (pairs-HaveNoLoop i is) b.is_block
      (uncut_inside g e u b.inside (pairs-HaveNoLoop i is) b.is_block at uncut)
      (subst (λ (xs : List ℕ). IsBond (record { verts = g.verts; edges = xs; ends = g.ends }) u v) b.edges whole)

  -- a pole of the number of u is the number of a vertex
  pub pole_within : (pole : ℕ) → IsBond (as_named (listed_part i es).graph) (rank vs u) pole → pole < length vs
  pole_within pole bond =
      let G = as_named (listed_part i es).graph in
      let k = rank es e in
      let w = own_touches i is u free uncut e at es b e at in
      let c : Contains (edges_at G (rank vs u)) k = Contains-edges_at G (rank vs u) k (number_in
      (length ends) k w.0) w.1 in
      ⊎_elim
      (λ direct. subst (λ x. x < length vs) direct (far_within k (rank vs u) w.0))
      (λ other.
      let to = bond.reach k c other in
      let f = edges_at-Contains G pole to.0 to.1 in
      end_within to.0 pole (in_number (length ends) to.0 f.0) f.1)
      (cases_eq (far G (rank vs u) k) pole)
    where
      -- the ends of the block cut out are numbers of vertices
      ends : List (ℕ × ℕ)
      ends = (listed_part i es).graph.ends

      within : AreWithin (length vs) ends
      within = (listed_part-IsListedBlock i is e es b).within

      number_in : (n k : ℕ) → k < n → Contains (range_with_len 0 n) k
      number_in n k lt = (Has-Contains k (range_with_len 0 n)).0 ((range-Has k 0 n).1 (omega arith, omega (arith, lt)))

      in_number : (n k : ℕ) → Contains (range_with_len 0 n) k → k < n
      in_number n k c = let h = ((range-Has k 0 n).0 ((Has-Contains k (range_with_len 0 n)).1 c)).1 in omega (arith, h)

      far_within : (k v : ℕ) → k < length ends → far (as_named (listed_part i es).graph) v k < length vs
      far_within k v lt = ⊎_elim
          (λ t. subst (λ x. x < length vs)
          (sym (cond-true (eqb (slice_index_or ends k (0, 0)).0 v) (slice_index_or ends k (0, 0)).1
          (slice_index_or ends k (0, 0)).0 t)) (within k lt).1)
          (λ f. subst (λ x. x < length vs)
          (sym (cond-false (eqb (slice_index_or ends k (0, 0)).0 v) (slice_index_or ends k (0, 0)).1
          (slice_index_or ends k (0, 0)).0 f)) (within k lt).0)
          (cases_Bool (eqb (slice_index_or ends k (0, 0)).0 v))

      end_within : (k v : ℕ) → k < length ends → ends_at (as_named (listed_part i es).graph) v k ≡ true → v < length vs
      end_within k v lt t = ⊎_elim
          (λ p. subst (λ x. x < length vs) (eqb-true (slice_index_or ends k (0, 0)).0 v p) (within k lt).0)
          (λ p. subst (λ x. x < length vs) (eqb-true (slice_index_or ends k (0, 0)).1 v p) (within k lt).1)
          (or_cases (eqb (slice_index_or ends k (0, 0)).0 v) (eqb (slice_index_or ends k (0, 0)).1 v) t)

  -- the order tree of the number of u
  module _ (m : Embedding) (is_block : m.block ≡ listed_part i es) (is_vertex : m.vertex ≡ rank vs u)
      (is_tree : IsEmbeddingTree (listed_part i es) (rank vs u) m.tree) where
    -- where it is a pole, this is the pole of u
    pub named-IsPoleOf : (verts : List ℕ) (v : ℕ) → verts ≡ vs → IsNamedPole verts m v → IsPoleOf i u v
    named-IsPoleOf verts v is_verts p =
        let within : p.pole < length vs = subst (λ (xs : List ℕ). p.pole < length xs) is_verts p.within in
        let named : v ≡ slice_index vs p.pole = p.named ∙ ap (λ (xs : List ℕ). slice_index xs p.pole) is_verts in
        let c : Contains vs v = subst (Contains vs) (sym named) (Contains-get_or vs p.pole 0 within) in
        let place : rank vs v ≡ p.pole =
        rank_is vs p.pole v (rising_distinct vs (verts_rise i is e es b)) within (sym named) in
        record {
          bond = bond_named v c
              (subst (IsBond (as_named (listed_part i es).graph) (rank vs u)) (sym place)
              (subst (λ (t : ℕ). IsBond (as_named (listed_part i es).graph) t p.pole) is_vertex
              (subst (λ (x : ListedGraph). IsBond (as_named x.graph) m.vertex p.pole) is_block p.bond)));
          free = free_vertex i is v (verts_in i is e es b v c)
              (subst (λ (w : ℕ). is_q i w ≡ false) (sym named) (unlisted_free i es p.pole within
              (subst (λ (x : ListedGraph). list_given x.lists p.pole ≡ None) is_block p.unlisted)));
          every_order = tree-every i is u free uncut e at es b m.tree is_tree p.every_order;
        }

    -- where it is none, its shape in names admits the orders of u
    pub named-IsShapeOf : (edges : List ℕ) (s : Shape) → edges ≡ es
        → s ≡ renamed_shape (slice_index edges) (shape_of_tree m.tree)
        → ((owner : ℕ) → IsSoleP m.tree owner → ⊥) → (tree_orders.HasEveryOrder m.tree → ⊥) → IsWellFormed m.tree
        → IsShapeOf i u s
    named-IsShapeOf edges s is_edges is_shape no_sole not_every formed =
        subst (IsShapeOf i u) (sym (is_shape ∙ ap (λ (xs : List ℕ). renamed_shape (slice_index xs)
        (shape_of_tree m.tree)) is_edges))
        (record {
          branching = branches-renamed (slice_index es) (branch_of m.tree.body)
              ∙ trees.branch_of-branches m.tree.body formed.branching;
          leaves = ap (λ (xs : List ℕ). rising (slice_index es m.tree.root ∷ xs))
              (leaves-renamed (slice_index es) (branch_of m.tree.body)
              ∙ ap (map (slice_index es)) (trees.branch_of-leaves m.tree.body))
              ∙ names-rising i is u free uncut e at es b m.tree is_tree;
          least = root-least i is u free uncut e at es b m.tree is_tree;
          no_star = λ star.
              let w = trees.star_before m.tree.body (star_before (slice_index es) (branch_of m.tree.body) star) in
              no_sole w.0 (w.1, w.2);
          admits = λ order o.
              subst (shape.Admits (renamed_shape (slice_index es) (shape_of_tree m.tree)))
              (order-named i is u free uncut e at es b m.tree is_tree order o)
              (Admits-renamed (slice_index es) (shape_of_tree m.tree) (map (rank es) order)
              (order-Admits i is u free uncut e at es b m.tree is_tree order o));
          not_every = λ every. not_every (every-tree i is u free uncut e at es b m.tree is_tree every);
        })

  -- where the number of u is never embedded, the block has no rotation, and its first edge is the least
  pub never-IsUnembeddable : IsNeverEmbedded (listed_part i es) (rank vs u) → (first : ℕ) → Contains es first
      → ((f : ℕ) → Contains es f → first ≤ f)
      → IsUnembeddable i first × ((f : ℕ) → Contains (edges_of i u) f → InOneBlock g first f)
  never-IsUnembeddable never first c least = (
    record {
      live = edges_in i is e es b first c;
      least = λ f cf lt one.
          let le = least f (subst (λ xs. Contains xs f) (sym b.edges) (kept_of b.inside g.edges f cf
          ((b.is_block.tells f cf).1 (block-trans (pairs g) (rank g.edges e) (rank g.edges first) (rank g.edges f) none
          to_first one)))) in
          omega (arith, le, lt);
      none = λ inside s block r.
          let to_e = (block.tells e b.is_block.live).1
          (block-sym (pairs g) (rank g.edges e) (rank g.edges first) to_first) in
          let again : IsBlockOf g e inside = record {
            live = b.is_block.live;
            tells = λ f cf. (
              λ t. block-trans (pairs g) (rank g.edges e) (rank g.edges first) (rank g.edges f) none to_first
                  ((block.tells f cf).0 t),
              λ one. (block.tells f cf).1 (block-trans (pairs g) (rank g.edges first) (rank g.edges e) (rank g.edges f)
                  none (block-sym (pairs g) (rank g.edges e) (rank g.edges first) to_first) one),
            );
          } in
          let order : IsBlockOrder i u (s u) = record {
            edge = e;
            at = at;
            inside = inside;
            block = again;
            lists = s;
            rotation = r;
            turn = turn-refl (s u);
          } in
          let w = order-IsEmbedded i is u free uncut e at es b (s u) order in
          never (map (rank es) (s u)) w.0 w.1;
    },
    λ f cf.
        let inside = uncut_inside g e u b.inside none b.is_block at uncut f cf in
        block-trans (pairs g) (rank g.edges first) (rank g.edges e) (rank g.edges f) none
        (block-sym (pairs g) (rank g.edges e) (rank g.edges first) to_first)
        ((b.is_block.tells f (edges_at-Contains g u f cf).0).0 inside),
  )
    where
      -- no edge is a loop
      none : HaveNoLoop (pairs g)
      none = pairs-HaveNoLoop i is

      -- the first edge is of the block

      to_first : InOneBlock g e first
      to_first =
          let w = kept_pair b.inside g.edges first (subst (λ xs. Contains xs first) b.edges c) in
          (b.is_block.tells first w.0).0 w.1
