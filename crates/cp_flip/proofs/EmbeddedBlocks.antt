-- Blocks of an instance that are embedded, and the first one that is not.
use Rattle.std.proofs.Common.{◌≡◌, ◌≢◌, ℕ, ◌+◌, ◌<◌, ◌≤◌, Bool, false, eqb, List, [], ◌∷◌, ◌++◌, length, filter, get_or, map, slice_index, take, sym, refl, ap, ◌∙◌, subst, arith, append-nil, below_more}
use Rattle.std.specs.Prelude.{Option, Some, None, slice_index_or}
use Rattle.std.proofs.lemmas.Bool.{eq-eqb, ne_eqb}
use Rattle.std.proofs.lemmas.List.{get_or_read, map-append, take_all, take_more}
use Rattle.std.proofs.lemmas.List.Elements.{All-push, Contains-get_or, filter-append}
use Rattle.cp_lists.proofs.FilteredLists.{filter_no, filter_yes}
use Rattle.cp_conn.specs.Blocks.{AreInOneBlock}
use Rattle.cp_conn.specs.NamedGraphs.{rank}
use Rattle.cp_conn.specs.Numbering.{AreNumbered}
use Rattle.cp_conn.proofs.NamedGraphs.{rank_is}
use Rattle.cp_sync.specs.Numbering.{numbered}
use Rattle.cp_pq.specs.Bits.{bit_of}
use Rattle.cp_board.specs.Blocks.{HasNoRotation}
use Rattle.cp_board.specs.Instances.{IsSynchronized, Synchronized, edge_names, graph}
use Rattle.cp_embed.specs.BoardBlocks.{AreBlockEdges, AreEdgesOfBlock, listed_part}
use Rattle.cp_embed.proofs.BoardBlocks.{rising_distinct}
use Rattle.cp_flip.specs.declared.block_trees.BlockTree.{BlockTree}
use Rattle.cp_flip.specs.declared.fault.BlockFault.{BlockFault}
use Rattle.cp_flip.specs.declared.fault.BlockFault.TheVariants.{NotPlanar, Memory}
use Rattle.cp_flip.specs.BlockTrees.{AreBlocksNumbered, AreEmbeddedBlocks, AreEmbeddedUpTo, AreRowsByNumber, IsEmbeddedBlock, IsFirstUnembeddable, IsWithoutRotation, is_first, row_with}
use Rattle.cp_flip.specs.DirectedBlocks.{CanBeDirected, Directions}
use Rattle.cp_flip.proofs.CutBlocks.{some}
use Rattle.cp_flip.proofs.FirstBlocks.{first-IsFirstReason, none-IsEmbeddable, other-AreBlockEdges, other-embeddable, row-AreBlockEdges}
use Rattle.cp_flip.proofs.NumberedRows.{numbers-below}
use Rattle.cp_flip.proofs.RotationsOfBlocks.{directed-HasRotation, directed-rotation_of, undirected-HasNoRotation}
use Rattle.cp_flip.proofs.SingleEdges.{lists, single-IsDirectedRotation}

module _ (i : Synchronized) (is : IsSynchronized i) where
  -- a block that is embedded has a rotation
  pub embedded-HasRotation : (vs es : List ℕ) (d : Option Directions) (e : ℕ) → IsEmbeddedBlock i vs es d
      → AreBlockEdges i e es
      → HasNoRotation i e → ⊥
  embedded-HasRotation vs es None e x b lacking =
      directed-HasRotation i is e es b (λ v. false) (lists i is e es b x.directions)
      (single-IsDirectedRotation i is e es b x.directions (λ v. false)) lacking
  embedded-HasRotation vs es (Some d) e x b lacking =
      let p = x.directions.1.some_pair in
      directed-rotation_of i is e es b (bit_of p.1)
      ((x.directions.1.exact (bit_of p.1)).0 (p.0, p.1, p.2, λ v lt. refl)) lacking

  -- numbers of the blocks of edges are those of the blocks of the instance
  pub numbered-own : (names numbers : List ℕ) → AreBlocksNumbered i names numbers
      → AreNumbered (AreInOneBlock (numbered (graph i)).ends) (length (edge_names i)) numbers
  numbered-own names numbers n =
      subst (λ xs. AreNumbered (AreInOneBlock (numbered (graph i)).ends) (length xs) numbers) n.edges_are n.by_least

  -- a block that can be directed by no bits has no rotation
  pub never-HasNoRotation : (es : List ℕ) → AreEdgesOfBlock i es
      → ((bit : ℕ → Bool) → CanBeDirected (listed_part i es) bit → ⊥)
      → HasNoRotation i (slice_index es 0)
  never-HasNoRotation es block never =
      undirected-HasNoRotation i is (slice_index es 0) es
      (other-AreBlockEdges i is block.0 (slice_index es 0) es block.1 (Contains-get_or es 0 0 (some i is es block)))
      never

  module _ (numbers : List ℕ)
      (are : AreNumbered (AreInOneBlock (numbered (graph i)).ends) (length (edge_names i)) numbers) where
    -- the edges
    abbrev edges : List ℕ
    edges = edge_names i

    -- the row of the number of an edge has the edges of its block
    pub row-of_edge : (rows : List (List ℕ)) (k : ℕ) → AreRowsByNumber edges numbers (length edges) rows
        → k < length edges
        → slice_index_or rows (slice_index numbers k) [] ≡ row_with edges numbers (slice_index edges k)
    row-of_edge rows k by_number lt =
        let below = numbers-below (numbered (graph i)).ends (length edges) numbers are in
        by_number.row_of (slice_index numbers k) (below k 0 (omega (arith, are.one_each, lt)))
        ∙ ap (filter (λ e. eqb (slice_index numbers (rank edges e)) (slice_index numbers k)))
        (take_all (length edges) edges (omega arith))
        ∙ ap (λ n. filter (λ e. eqb (slice_index numbers (rank edges e)) n) edges)
        (ap (slice_index numbers)
        (sym (rank_is edges k (slice_index edges k) (rising_distinct edges is.edges_named.rise) lt refl)))

    -- the number of an edge has a row
    pub row-within : (names : List ℕ) (rows : List (List ℕ)) (k : ℕ) → names ≡ edges
        → AreRowsByNumber names numbers (length names) rows → k < length names
        → slice_index numbers k < length rows
    row-within names rows k same by_number lt =
        let below = numbers-below (numbered (graph i)).ends (length edges) numbers are in
        let size = ap length same in
        let h = below k 0 (omega (arith, are.one_each, lt, size)) in
        omega (arith, h, by_number.row_each, size)

    -- and what is read there is the edges of its block
    pub row-read : (names : List ℕ) (rows : List (List ℕ)) (k : ℕ) (row at : List ℕ) → names ≡ edges
        → AreRowsByNumber names numbers (length names) rows → k < length names
        → at ≡ get_or rows (slice_index numbers k) at → row ≡ at
        → row ≡ row_with edges numbers (slice_index edges k)
    row-read names rows k row at same by_number lt at_is row_is =
        row_is
        ∙ get_or_read rows (slice_index numbers k) at (row-within names rows k same by_number lt) at_is []
        ∙ row-of_edge rows k (subst (λ xs. AreRowsByNumber xs numbers (length xs) rows) same by_number)
        (let size = ap length same in omega (arith, lt, size))

    -- none are those of no edges
    pub AreEmbeddedUpTo-none : {T : Type 0} → AreEmbeddedUpTo {T = T} i edges numbers 0 []
    AreEmbeddedUpTo-none = record {
      edges_are = refl;
      each = λ k d lt. absurd (omega (arith, lt));
      embeddable = λ j lt. absurd (omega (arith, lt));
    }

    -- with the block of an edge that is the first of it, they are those of one edge more
    pub AreEmbeddedUpTo-first : {T : Type 0} (k : ℕ) (blocks : List (BlockTree T)) (t : BlockTree T) → k < length edges
        → slice_index (row_with edges numbers (slice_index edges k)) 0 ≡ slice_index edges k
        → t.edges ≡ row_with edges numbers (slice_index edges k)
        → IsEmbeddedBlock i t.verts t.edges t.directed
        → AreEmbeddedUpTo i edges numbers k blocks
        → AreEmbeddedUpTo i edges numbers (k + 1) (blocks ++ t ∷ [])
    AreEmbeddedUpTo-first {T = T} k blocks t lt first own x so = record {
      edges_are =
          map-append (λ (b : BlockTree T). b.edges) blocks (t ∷ [])
          ∙ ap (λ xs. xs ++ t.edges ∷ []) so.edges_are
          ∙ ap (λ r. map (row_with edges numbers) before ++ r ∷ []) own
          ∙ sym (ap (map (row_with edges numbers)) more ∙ map-append (row_with edges numbers) before (edge ∷ []));
      each = All-push (λ (b : BlockTree T). IsEmbeddedBlock i b.verts b.edges b.directed) blocks t so.each x;
      embeddable = below_more _ k so.embeddable (λ u.
          embedded-HasRotation t.verts t.edges t.directed edge x
          (subst (AreBlockEdges i edge) (sym own) (row-AreBlockEdges i is numbers are k lt)) u.none);
    }
      where
        edge : ℕ
        edge = slice_index edges k

        before : List ℕ
        before = filter (is_first edges numbers) (take k edges)

        more : filter (is_first edges numbers) (take (k + 1) edges) ≡ before ++ edge ∷ []
        more = ap (filter (is_first edges numbers)) (take_more edges k 0 lt)
            ∙ filter-append (is_first edges numbers) (take k edges) (edge ∷ [])
            ∙ ap (λ xs. before ++ xs) (filter_yes (is_first edges numbers) edge []
            (eq-eqb (slice_index (row_with edges numbers edge) 0) edge first))

    -- an edge that is not the first of its block tells no block
    pub AreEmbeddedUpTo-other : {T : Type 0} (k : ℕ) (blocks : List (BlockTree T)) → k < length edges
        → slice_index (row_with edges numbers (slice_index edges k)) 0 ≢ slice_index edges k
        → AreEmbeddedUpTo i edges numbers k blocks
        → AreEmbeddedUpTo i edges numbers (k + 1) blocks
    AreEmbeddedUpTo-other k blocks lt other so = record {
      edges_are = so.edges_are ∙ ap (map (row_with edges numbers)) (sym same);
      each = so.each;
      embeddable = below_more _ k so.embeddable (other-embeddable i is numbers are k lt other);
    }
      where
        edge : ℕ
        edge = slice_index edges k

        before : List ℕ
        before = filter (is_first edges numbers) (take k edges)

        same : filter (is_first edges numbers) (take (k + 1) edges) ≡ before
        same = ap (filter (is_first edges numbers)) (take_more edges k 0 lt)
            ∙ filter-append (is_first edges numbers) (take k edges) (edge ∷ [])
            ∙ ap (λ xs. before ++ xs) (filter_no (is_first edges numbers) edge []
            (ne_eqb (slice_index (row_with edges numbers edge) 0) edge other))
            ∙ append-nil before

    -- the blocks of all edges are all blocks
    pub AreEmbeddedUpTo-all : {T : Type 0} (k : ℕ) (blocks : List (BlockTree T)) → length edges ≤ k
        → AreEmbeddedUpTo i edges numbers k blocks
        → AreEmbeddedBlocks i numbers blocks
    AreEmbeddedUpTo-all k blocks le so = record {
      edges = so.edges_are ∙ ap (λ xs. map (row_with edges numbers) (filter (is_first edges numbers) xs)) (take_all k edges le);
      each = so.each;
      embeddable = none-IsEmbeddable i is numbers are (λ j lt. so.embeddable j (omega (arith, lt, le)));
    }

    -- the first block that is not embedded is the first without a rotation
    pub fault-IsFirstUnembeddable : {T : Type 0} (k : ℕ) (blocks : List (BlockTree T)) (fault : BlockFault) → k < length edges
        → slice_index (row_with edges numbers (slice_index edges k)) 0 ≡ slice_index edges k
        → AreEmbeddedUpTo i edges numbers k blocks
        → IsWithoutRotation i (row_with edges numbers (slice_index edges k)) fault
        → IsFirstUnembeddable i fault
    fault-IsFirstUnembeddable k blocks Memory lt first so without = tt
    fault-IsFirstUnembeddable k blocks (NotPlanar e) lt first so without =
        let own : e ≡ slice_index edges k = without.0 ∙ first in
        let reason = first-IsFirstReason i is numbers are k lt first so.embeddable
        (subst (HasNoRotation i) own without.1) in
        subst (λ f. IsFirstUnembeddable i (NotPlanar f)) (sym own) reason
