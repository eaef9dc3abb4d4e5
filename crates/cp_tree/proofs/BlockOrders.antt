-- The orders of a P-vertex in the rotations of its block are its orders in the embeddings of the block cut out.
use Rattle.std.proofs.Common.{◌≡◌, ℕ, ◌<◌, Bool, true, false, cond, eqb, List, [], length, filter, map, slice_index, sym, refl, ap, ◌∙◌, subst, ⊎_elim}
use Rattle.std.specs.List.{Contains}
use Rattle.std.proofs.lemmas.Bool.{cases_eq, cond-false, cond-true, eq-eqb, false≢true, ne_eqb}
use Rattle.std.proofs.lemmas.List.Sorted.{Contains-permutation, IsPermutation-sym}
use Rattle.cp_lists.specs.Turns.{IsTurn}
use Rattle.cp_lists.proofs.Counting.{same_tests}
use Rattle.cp_lists.proofs.DistinctLists.{Has-Contains}
use Rattle.cp_lists.proofs.FilteredLists.{filter_agree}
use Rattle.cp_lists.proofs.TurnedLists.{turn-map, turn-refl, turn-sym}
use Rattle.cp_conn.specs.NamedGraphs.{IsBlockOf, edges_at, rank}
use Rattle.cp_conn.proofs.NamedGraphs.{edges_at-Contains, rank_at, rank_is}
use Rattle.cp_rot.specs.Systems.{System}
use Rattle.cp_board.specs.Blocks.{IsBlockOrder, IsBlockRotation}
use Rattle.cp_board.specs.Instances.{IsSynchronized, Synchronized, edge_names, edges_of, graph, is_q, psi_at, vert_names}
use Rattle.cp_board.specs.Names.{has}
use Rattle.cp_board.specs.Rotations.{system}
use Rattle.cp_embed.specs.BoardBlocks.{AreBlockEdges, listed_part, part_with}
use Rattle.cp_embed.specs.Embeddings.{IsEmbedded}
use Rattle.cp_embed.specs.Realisations.{Realises, edges_round}
use Rattle.cp_embed.specs.ListedBlocks.{list_given}
use Rattle.cp_embed.proofs.BoardBlocks.{has-true, psi-ArrangesEdges, rising_distinct, verts_rise}
use Rattle.cp_tree.proofs.BlockRotations.{IsDirectedBy, directed-IsDirectedRotation, kept-inside, keeps-by_name, named_lists, rotation-IsDirectedBy, round-is}
use Rattle.cp_tree.proofs.RotationsOfBlocks.{directed-rotation, rotation-directed}

-- the edges es of a block, and a P-vertex u that has one of them
module _ (i : Synchronized) (is : IsSynchronized i) (e : ℕ) (es : List ℕ) (b : AreBlockEdges i e es) (u : ℕ)
    (here : Contains (part_with (graph i) es).verts u) (free : is_q i u ≡ false) where
  -- the vertices of the block
  abbrev vs : List ℕ
  vs = (part_with (graph i) es).verts

  -- the number of u
  abbrev t : ℕ
  t = rank vs u

  -- is that of no Q-vertex
  not_q : (k : ℕ) → k ≡ t → is_q i (slice_index vs k) ≡ false
  not_q k same = ap (λ n. is_q i (slice_index vs n)) same ∙ ap (is_q i) (rank_at vs u here).1 ∙ free

  -- two tests for one block agree on edges
  agree : (inside : ℕ → Bool) → IsBlockOf (graph i) e inside → (f : ℕ) → Contains (edge_names i) f
      → b.inside f ≡ inside f
  agree inside block f c = same_tests (b.inside f) (inside f)
      (λ p. (block.tells f c).1 ((b.is_block.tells f c).0 p))
      (λ p. (b.is_block.tells f c).1 ((block.tells f c).0 p))

  -- an order that u has in a rotation of the block is one that it has in an embedding
  pub rotation-IsEmbedded : (inside : ℕ → Bool) (s : ℕ → List ℕ) (order : List ℕ) → IsBlockOf (graph i) e inside
      → IsBlockRotation i inside s → IsTurn (s u) order
      → (bit : ℕ → Bool) × IsEmbedded (listed_part i es) t (map (rank es) order) bit
  rotation-IsEmbedded inside s order block r turn =
      let d = rotation-directed i is inside s r in
      let is_es : es ≡ filter inside (edge_names i) =
      b.edges ∙ filter_agree b.inside inside (edge_names i)
      (λ f h. agree inside block f ((Has-Contains f (edge_names i)).0 h)) in
      let is_kept : (v : ℕ) → Contains (vert_names i) v → is_q i v ≡ true
      → filter (has es) (psi_at i v) ≡ filter inside (psi_at i v) =
      λ v c q. kept-inside i is e es b v c q
      ∙ filter_agree b.inside inside (psi_at i v) (λ f h. agree inside block f
      (edges_at-Contains (graph i) v f (Contains-permutation (psi_at i v) (edges_at (graph i) v) f
      (IsPermutation-sym (edges_at (graph i) v) (psi_at i v) (psi-ArrangesEdges i is v c q))
      ((Has-Contains f (psi_at i v)).0 h))).0) in
      let at = rank_at vs u here in
      let by : IsDirectedBy (listed_part i es) (λ k. d.0 (slice_index vs k)) (system (part_with (graph i) es) s) =
      rotation-IsDirectedBy i is e es b inside d.0 s is_es is_kept d.1 in
      let round = round-is i is e es b inside d.0 s is_es is_kept d.1 t at.0 in (
        λ k. d.0 (slice_index vs k),
        (
          system (part_with (graph i) es) s,
          record {
            of_graph = by.of_graph;
            plane = by.plane;
            order_is =
                subst (IsTurn (map (rank es) order)) (sym round)
                (turn-map (rank es) order (s (slice_index vs t))
                (subst (λ v. IsTurn order (s v)) (sym at.1) (turn-sym (s u) order turn)));
            lists_kept = λ k lt other. by.lists_kept k lt;
          },
        ),
      )

  -- an order that u has in an embedding is one that it has in a rotation of the block
  pub embedded-IsBlockOrder : (numbers : List ℕ) (bit : ℕ → Bool) → Contains (edges_of i u) e
      → IsEmbedded (listed_part i es) t numbers bit → IsBlockOrder i u (map (slice_index es) numbers)
  embedded-IsBlockOrder numbers bit at m =
      record {
        edge = e;
        at = at;
        inside = b.inside;
        block = b.is_block;
        lists = named_lists i is e es b rows;
        rotation = directed-rotation i is b.inside back (named_lists i is e es b rows)
            (directed-IsDirectedRotation i is e es b r bit back directed same rows turns);
        turn = subst (IsTurn (named_lists i is e es b rows u)) list_u
            (turn-refl (named_lists i is e es b rows u));
      }
    where
      -- the system
      r : System
      r = m.0

      real : Realises (listed_part i es).graph (list_given (listed_part i es).lists) t numbers bit r
      real = m.1

      -- the directions by name
      back : ℕ → Bool
      back v = bit (rank vs v)

      same : (k : ℕ) → k < length vs → bit k ≡ back (slice_index vs k)
      same k lt =
          ap bit (sym (rank_is vs k (slice_index vs k) (rising_distinct vs (verts_rise i is e es b)) lt refl))

      -- its lists, with the order at u
      rows : ℕ → List ℕ
      rows k = cond (eqb k t) numbers (edges_round r k)

      turns : (k : ℕ) → k < length vs → IsTurn (rows k) (edges_round r k)
      turns k lt = ⊎_elim
          (λ here. subst (λ xs. IsTurn xs (edges_round r k))
          (sym (cond-true (eqb k t) numbers (edges_round r k) (eq-eqb k t here)))
          (subst (λ n. IsTurn numbers (edges_round r n)) (sym here) real.order_is))
          (λ other. subst (λ xs. IsTurn xs (edges_round r k))
          (sym (cond-false (eqb k t) numbers (edges_round r k) (ne_eqb k t other))) (turn-refl (edges_round r k)))
          (cases_eq k t)

      -- u keeps any direction
      directed : IsDirectedBy (listed_part i es) bit r
      directed = record {
        of_graph = real.of_graph;
        plane = real.plane;
        lists_kept = λ k lt. ⊎_elim
            (λ here. keeps-by_name i is e es b k (bit k) (edges_round r k) lt
            (λ q. absurd (false≢true (sym (not_q k here) ∙ q))))
            (λ other. real.lists_kept k lt other)
            (cases_eq k t);
      }

      -- the list of u
      list_u : named_lists i is e es b rows u ≡ map (slice_index es) numbers
      list_u =
          cond-true (has vs u) (map (slice_index es) (rows t)) [] (has-true vs u ((Has-Contains u vs).1 here))
          ∙ ap (map (slice_index es)) (cond-true (eqb t t) numbers (edges_round r t) (eq-eqb t t refl))
