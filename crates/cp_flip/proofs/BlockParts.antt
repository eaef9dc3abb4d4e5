-- The lists of a block, as they are read from its tree, are those of a rotation of the block in the directions of the bits.
use Rattle.std.proofs.Common.{◌≡◌, ◌≢◌, ℕ, zero, suc, ◌<◌, Bool, true, false, cond, List, [], ◌∷◌, length, filter, map, replicate, slice_index, take, sym, refl, ap, ◌∙◌, subst, ⊎_elim, arith}
use Rattle.std.specs.Prelude.{Option, Some, None, slice_index_or}
use Rattle.std.specs.List.{All, Contains, list_any}
use Rattle.std.specs.List.Sorted.{IsStrictlyIncreasing}
use Rattle.std.proofs.lemmas.Bool.{cases_Bool, cases_eq, cond-false, cond-true, false≢true}
use Rattle.std.proofs.lemmas.List.{get_or-replicate, get_or-take, get_or_default, length-replicate}
use Rattle.cp_lists.specs.CyclicLists.{Has}
use Rattle.cp_lists.specs.Turns.{IsTurn}
use Rattle.cp_lists.proofs.DistinctLists.{Has-Contains}
use Rattle.cp_lists.proofs.FilteredLists.{Has-filter, filter-Has, filter_yes}
use Rattle.cp_lists.proofs.TurnedLists.{turn-Has, turn-refl}
use Rattle.cp_base.specs.Bits.{bit_of}
use Rattle.cp_conn.specs.Blocks.{AreInOneBlock}
use Rattle.cp_conn.specs.NamedGraphs.{ends_at, rank}
use Rattle.cp_conn.specs.Numbering.{AreNumbered}
use Rattle.cp_conn.proofs.NamedGraphs.{rank_at, rank_is}
use Rattle.cp_sync.specs.Numbering.{numbered}
use Rattle.cp_pq.specs.Trees.{PQTree, IsPair}
use Rattle.cp_board.specs.Instances.{IsSynchronized, Synchronized, graph, is_q, psi_at, vert_names}
use Rattle.cp_board.specs.Names.{has}
use Rattle.cp_board.specs.Solutions.{directed}
use Rattle.cp_embed.specs.BoardBlocks.{AreBlockEdges, ends_some, listed_part, part_with}
use Rattle.cp_embed.specs.Directions as embed
use Rattle.cp_embed.specs.ListedBlocks.{IsListedBlock, ListedGraph, list_given}
use Rattle.cp_embed.specs.Realisations.{edges_round}
use Rattle.cp_embed.specs.Unwound.{AreUnwound, IsTurnedPair}
use Rattle.cp_embed.proofs.BoardBlocks.{any_of, has-true, listed_part-IsListedBlock, of_any, rising_distinct, size, true-has, verts_in, verts_rise}
use Rattle.cp_embed.proofs.TurnedPairs.{pair-IsTurnedPair}
use Rattle.cp_flip.specs.BlockTrees.{IsEmbeddedBlock}
use Rattle.cp_flip.specs.CellEquations.{HasDirections}
use Rattle.cp_flip.specs.DirectedBlocks.{Directions, IsDirectedTree}
use Rattle.cp_flip.specs.DirectedRotations.{IsDirectedRotation}
use Rattle.cp_flip.specs.GluedLists.{AreBlockLists, AreDirectedLists, AreListsWithin, IsPart, MeetsTree, named_list}
use Rattle.cp_flip.proofs.BlockRotations.{directed-IsDirectedRotation, named_lists}
use Rattle.cp_flip.proofs.DirectedTrees.{KeepsDirection-turn, no_items}
use Rattle.cp_flip.proofs.EqualTests.{not_true}
use Rattle.cp_flip.proofs.RoundEdges.{edges_at-Has, round-IsArrangementOf}
use Rattle.cp_flip.proofs.SingleEdges.{lists, single-IsDirectedRotation}
use Rattle.cp_flip.proofs.SolvedBlocks.{by_number, inside, number, number-edges}

-- a pair of the tree with the list is, with the first bits, one of the first tree
pub pair-old : (block : ListedGraph) (t : ℕ) (old new : PQTree) (order : List ℕ) (bits : List Bool)
    → IsDirectedTree block t old new → IsPair new order bits
    → IsTurnedPair old order (take old.vars bits)
pair-old block t old new order bits d p = pair-IsTurnedPair old order (take old.vars bits) (d.pairs order bits p)

-- lists that are unwound from it are in the directions of the bits
pub unwound-AreDirectedLists : (block : ListedGraph) (t : ℕ) (old new : PQTree) (order : List ℕ) (bits : List Bool)
    (rows : List (List ℕ)) → IsDirectedTree block t old new → IsPair new order bits
    → AreUnwound block t order (bit_of (take old.vars bits)) rows
    → AreDirectedLists block bits rows
unwound-AreDirectedLists block t old new order bits rows d p u = record {
  system = u.system;
  directed_by = record {
    of_graph = u.realises.of_graph;
    plane = u.realises.plane;
    lists_kept = λ v lt. ⊎_elim
        (λ (same : v ≡ t).
        subst (λ w. embed.KeepsDirection (list_given block.lists w) (bit_of bits w) (edges_round u.system w)) (sym same)
        (KeepsDirection-turn (list_given block.lists t) (bit_of bits t) order (edges_round u.system t) (d.list_kept order bits p)
        u.realises.order_is))
        (λ (other : v ≢ t).
        subst (λ b. embed.KeepsDirection (list_given block.lists v) b (edges_round u.system v))
        (let vars = d.vars in get_or-take old.vars bits v false (omega (arith, lt, vars)))
        (u.realises.lists_kept v lt other))
        (cases_eq v t);
  };
  list_each = u.list_each;
  lists_are = u.lists_are;
}

-- of one item all are kept where it passes, and else none
single-kept : (p : ℕ → Bool) (es : List ℕ) → length es ≡ 1 → list_any p es ≡ true → filter p es ≡ slice_index es 0 ∷ []
single-kept p [] one t = absurd (omega (arith, one))
single-kept p (e ∷ []) one t =
    let w = of_any p (e ∷ []) t in
    filter_yes p e [] (⊎_elim (λ (same : e ≡ w.0). ap p same ∙ w.2) (λ k. absurd k) w.1)
single-kept p (e ∷ f ∷ es) one t = absurd (omega (arith, one))

-- where no item is wanted, the list of the wanted items is empty
single-none : (p : ℕ → Bool) (es : List ℕ) → list_any p es ≡ false → filter p es ≡ []
single-none p es f = no_items (filter p es) (λ e h.
    let w = filter-Has p e es h in absurd (false≢true (sym f ∙ any_of p es e w.0 w.1)))

module _ (i : Synchronized) (is : IsSynchronized i) (numbers : List ℕ)
    (are : AreNumbered (AreInOneBlock (numbered (graph i)).ends) (length (graph i).edges) numbers) (back : ℕ → Bool) where
  -- the lists of a block of one edge are those of a part
  single-IsPart : (verts es : List ℕ) (bits : List Bool) (rows : List (List ℕ)) → IsEmbeddedBlock i verts es None
      → rows ≡ replicate (length verts) (0 ∷ [])
      → IsPart i numbers back es (named_list verts es rows)
  single-IsPart verts es bits rows x rows_are = record {
    edge = e;
    live = x.block.1.is_block.live;
    number = number i is numbers are e;
    number_is = refl;
    edges_are = number-edges i is numbers are e es x.block.1;
    rotation = lists i is e es b x.directions;
    is_rotation = single-IsDirectedRotation i is e es b x.directions back;
    turns = λ v live. subst (IsTurn (lists i is e es b x.directions v)) (same v live)
        (turn-refl (lists i is e es b x.directions v));
  }
    where
      e : ℕ
      e = x.block.0

      b : AreBlockEdges i e es
      b = by_number i is numbers are e es x.block.1

      same : (v : ℕ) → Contains (vert_names i) v
          → filter (ends_at (graph i) v) es ≡ named_list verts es rows v
      same v live = ⊎_elim
          (λ t.
          let c : Contains verts v = (Has-Contains v verts).0 (true-has verts v t) in
          let at = rank_at verts v c in
          let in_part = subst (Has v) x.verts_are ((Has-Contains v verts).1 c) in
          let w = filter-Has (ends_some (graph i) es) v (vert_names i) in_part in
          single-kept (ends_at (graph i) v) es x.directions w.1
          ∙ ap (map (slice_index es)) (sym (ap (λ rs. slice_index_or rs (rank verts v) []) rows_are
          ∙ get_or-replicate {A = List ℕ} (length verts) (rank verts v) (0 ∷ []) [] at.0))
          ∙ sym (cond-true {A = List ℕ} (has verts v) (map (slice_index es) (slice_index_or rows (rank verts v) [])) [] t))
          (λ f.
          single-none (ends_at (graph i) v) es (not_true (list_any (ends_at (graph i) v) es) (λ t.
          let there = Has-filter (ends_some (graph i) es) v (vert_names i) ((Has-Contains v (vert_names i)).1 live) t in
          false≢true (sym f ∙ has-true verts v (subst (Has v) (sym x.verts_are) there))))
          ∙ sym (cond-false {A = List ℕ} (has verts v) (map (slice_index es) (slice_index_or rows (rank verts v) [])) [] f))
          (cases_Bool (has verts v))

  -- and so are those in the directions of bits
  directed-IsPart : (verts es : List ℕ) (d : Directions) (bits : List Bool) (rows : List (List ℕ))
      → IsEmbeddedBlock i verts es (Some d) → HasDirections i back verts bits (Some d)
      → AreDirectedLists d.embedding.block bits rows
      → IsPart i numbers back es (named_list verts es rows)
  directed-IsPart verts es d bits rows x h dl = record {
    edge = e;
    live = x.block.1.is_block.live;
    number = c;
    number_is = refl;
    edges_are = number-edges i is numbers are e es x.block.1;
    rotation = named_lists i is e es b row;
    is_rotation = record {
      rotation = dr.rotation;
      kept = λ v live q.
          subst (λ w. IsTurn (directed w (filter (inside i is numbers are c) (psi_at i v))) (named_lists i is e es b row v))
          (cond-true (is_q i v) (back v) (bit_of bits (rank vs v)) q) (dr.kept v live q);
    };
    turns = λ v live. subst (λ us. IsTurn (named_lists i is e es b row v) (named_list us es rows v)) (sym x.verts_are)
        (turn-refl (named_lists i is e es b row v));
  }
    where
      e : ℕ
      e = x.block.0

      c : ℕ
      c = number i is numbers are e

      vs : List ℕ
      vs = (part_with (graph i) es).verts

      b : AreBlockEdges i e es
      b = by_number i is numbers are e es x.block.1

      row : ℕ → List ℕ
      row k = slice_index_or rows k []

      backs : ℕ → Bool
      backs v = cond (is_q i v) (back v) (bit_of bits (rank vs v))

      own : AreDirectedLists (listed_part i es) bits rows
      own = subst (λ k. AreDirectedLists k bits rows) x.directions.0 dl

      agree : (k : ℕ) → k < length vs → bit_of bits k ≡ backs (slice_index vs k)
      agree k lt = ⊎_elim
          (λ q.
          let name : slice_index verts k ≡ slice_index vs k = ap (λ us. slice_index us k) x.verts_are in
          let within : k < length verts = let size = ap length x.verts_are in omega (arith, lt, size) in
          h.2 k within (ap (is_q i) name ∙ q) ∙ ap back name
          ∙ sym (cond-true (is_q i (slice_index vs k)) (back (slice_index vs k)) (bit_of bits (rank vs (slice_index vs k))) q))
          (λ p.
          ap (bit_of bits) (sym (rank_is vs k (slice_index vs k) (rising_distinct vs (verts_rise i is e es b)) lt refl))
          ∙ sym (cond-false (is_q i (slice_index vs k)) (back (slice_index vs k)) (bit_of bits (rank vs (slice_index vs k))) p))
          (cases_Bool (is_q i (slice_index vs k)))

      dr : IsDirectedRotation i (inside i is numbers are c) backs (named_lists i is e es b row)
      dr = directed-IsDirectedRotation i is e es b own.system (bit_of bits) backs own.directed_by agree row
          (λ k lt. own.lists_are k lt)

  -- the lists of a block by its bits are those of a part
  pub lists-IsPart : (verts es : List ℕ) (d : Option Directions) (bits : List Bool) (rows : List (List ℕ))
      → IsEmbeddedBlock i verts es d → HasDirections i back verts bits d → AreBlockLists (length verts) d bits rows
      → IsPart i numbers back es (named_list verts es rows)
  lists-IsPart verts es None bits rows x h rows_are = single-IsPart verts es bits rows x rows_are
  lists-IsPart verts es (Some d) bits rows x h dl = directed-IsPart verts es d bits rows x h dl

-- bits with directions meet the tree
pub directions-MeetsTree : (i : Synchronized) (back : ℕ → Bool) (verts : List ℕ) (bits : List Bool) (d : Option Directions)
    → HasDirections i back verts bits d
    → MeetsTree bits d
directions-MeetsTree i back verts bits None h = h
directions-MeetsTree i back verts bits (Some d) h = (h.0, h.1)

module _ (i : Synchronized) (is : IsSynchronized i) (verts es : List ℕ) (bits : List Bool) (rows : List (List ℕ)) where
  -- each vertex has a list
  lists-size : (d : Option Directions) → IsEmbeddedBlock i verts es d → AreBlockLists (length verts) d bits rows
      → length rows ≡ length verts
  lists-size None x rows_are = ap length rows_are ∙ length-replicate (length verts) (0 ∷ [])
  lists-size (Some d) x dl =
      dl.list_each ∙ ap (λ (k : ListedGraph). k.graph.vertices) x.directions.0 ∙ sym (ap length x.verts_are)

  -- whose items are places of edges
  lists-within : (d : Option Directions) → IsEmbeddedBlock i verts es d → AreBlockLists (length verts) d bits rows
      → (k : ℕ) → k < length rows
      → All (λ e. e < length es) (slice_index_or rows k [])
  lists-within None x rows_are k lt =
      let within : k < length verts = let n = lists-size None x rows_are in omega (arith, lt, n) in
      subst (All (λ e. e < length es)) (sym (ap (λ rs. slice_index_or rs k []) rows_are
      ∙ get_or-replicate {A = List ℕ} (length verts) k (0 ∷ []) [] within)) zero_within
    where
      zero_within : All (λ e. e < length es) (0 ∷ [])
      zero_within zero d l = let one = x.directions in omega (arith, one)
      zero_within (suc j) d l = absurd (omega (arith, l))
  lists-within (Some d) x dl k lt = λ j z l.
      let own = subst (λ g. AreDirectedLists g bits rows) x.directions.0 dl in
      let block = listed_part i es in
      let listed : IsListedBlock block = listed_part-IsListedBlock i is x.block.0 es x.block.1 in
      let within : k < block.graph.vertices = let n = own.list_each in omega (arith, lt, n) in
      let h : Has (slice_index_or (slice_index_or rows k []) j z) (slice_index_or rows k []) =
      (Has-Contains (slice_index_or (slice_index_or rows k []) j z) (slice_index_or rows k [])).1
      (j, l, get_or_default (slice_index_or rows k []) j (slice_index_or (slice_index_or rows k []) j z) z l) in
      let a = round-IsArrangementOf block.graph listed.no_loop own.system own.directed_by.of_graph k within in
      let w = (edges_at-Has block.graph.ends k (slice_index_or (slice_index_or rows k []) j z)).0
      ((a.items (slice_index_or (slice_index_or rows k []) j z)).0
      (turn-Has (slice_index_or rows k []) (edges_round own.system k) (slice_index_or (slice_index_or rows k []) j z)
      (own.lists_are k within) h)) in
      let n = size i is x.block.0 es x.block.1 in
      omega (arith, w.0, n)

  -- so they fit the vertices
  pub lists-AreListsWithin : (d : Option Directions) → IsEmbeddedBlock i verts es d → AreBlockLists (length verts) d bits rows
      → AreListsWithin (vert_names i) verts es rows
  lists-AreListsWithin d x are = record {
    all_rise = is.verts_named.rise;
    rise = subst IsStrictlyIncreasing (sym x.verts_are) (verts_rise i is x.block.0 es x.block.1);
    live = λ v c. verts_in i is x.block.0 es x.block.1 v (subst (λ us. Contains us v) x.verts_are c);
    list_each = lists-size d x are;
    within = lists-within d x are;
  }
