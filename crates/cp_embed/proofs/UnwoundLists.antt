-- Vertices taken back one after another, from the last frame to the first: the lists that they are given are those of a
-- rotation system.
use Rattle.std.proofs.Common.{◌≡◌, ◌≢◌, ℕ, suc, ◌+◌, ◌-◌, ◌*◌, ◌<◌, ◌≤◌, Bool, true, false, not, List, [], ◌∷◌, ◌++◌, length, map, set, get_or, slice_index, slice_index_or, take, reverse, min, sym, refl, ap, ◌∙◌, subst, inl, inr, ⊎_elim, arith, length-set}
use Rattle.std.proofs.Math.Seq.{take-suc, take-length}
use Rattle.std.proofs.lemmas.Bool.{cases_eq, cases_Bool}
use Rattle.std.proofs.lemmas.List.{reverse-append, get_or-take, get_or-set_same, get_or-set_other, length-take-le, length-take, length-reverse}
use Rattle.cp_lists.specs.CyclicLists.{Has, Lacks, Distinct}
use Rattle.cp_lists.specs.Turns.{IsTurn}
use Rattle.cp_lists.proofs.DistinctLists.{has_lacks, Has-append_left, Distinct-apart, Distinct-once, Exactly-Distinct, Has_at}
use Rattle.cp_lists.proofs.FilteredLists.{filter-Has}
use Rattle.cp_lists.proofs.MappedLists.{Has-map_on}
use Rattle.cp_lists.proofs.TurnedLists.{turn-trans, turn_to_item-unique, turn-Distinct, turn-sym, Has-of_turn}
use Rattle.cp_faces.specs.Twins.{twin}
use Rattle.cp_faces.proofs.Twins.{twin-twin, half_twin}
use Rattle.cp_conn.specs.Darts.{start}
use Rattle.cp_pq.specs.Bits.{bit_of}
use Rattle.cp_pq.specs.Nodes.{leaves}
use Rattle.cp_pq.specs.Promises.{ReadsPart}
use Rattle.cp_pq.specs.Readings.{given}
use Rattle.cp_pq.specs.Trees.{PQTree, IsPair}
use Rattle.cp_pq.proofs.PermutedLists.{Has-IsPermutation}
use Rattle.cp_pq.proofs.ReadingLaws.{read_leaves}
use Rattle.cp_force.specs.Words.{part_word}
use Rattle.cp_force.proofs.PartWords.{ReadsPart-by_bits, given-Lets}
use Rattle.std.proofs.lemmas.List.Sorted.{IsPermutation-sym}
use Rattle.cp_embed.specs.declared.taking.Frame.{Frame}
use Rattle.cp_embed.specs.Arrangements.{IsArrangementOf}
use Rattle.cp_embed.specs.BuiltTrees.{IsBuilt, IsUnwindable}
use Rattle.cp_embed.specs.Directions.{edge_of}
use Rattle.cp_embed.specs.Embeddings.{IsLeastEdge, IsEmbeddingTree}
use Rattle.cp_embed.specs.ListedBlocks.{ListedGraph, IsListedBlock, touches, edges_at}
use Rattle.cp_embed.specs.Realisations.{edges_round}
use Rattle.cp_embed.specs.Sweeps.{outs_of, LeadsInto}
use Rattle.cp_embed.specs.Unwound.{IsTurnedPair, AreUnwound, HasEdgesAsRun, IsTakenOutOf}
use Rattle.cp_embed.specs.VertexOrders.{IsTakingOrder, enters, edges_out, taken_at, last_of, dart_at}
use Rattle.cp_embed.proofs.BuiltTrees.{built-IsStageTree, built-stage, tree_root}
use Rattle.cp_embed.proofs.DartLists.{outs_of-Has}
use Rattle.cp_embed.proofs.EdgeDarts.{edges_at-Has, dart-touches, other_end-is}
use Rattle.cp_embed.proofs.StageTrees.{taken_more, taken_is, order-within, order-long, outs_are, place-IsFreshSet}
use Rattle.cp_embed.proofs.Sweeps.{twin_within}
use Rattle.cp_embed.proofs.TakingOrders.{root-edge, root-least}
use Rattle.cp_embed.proofs.UnwoundStages.{IsUnwound, pair-Distinct, frame-IsTakenBack, run_back, unwound-Realises}

-- the items of a pair are the leaves of its tree
pair-leaf : (tree : PQTree) (word : List ℕ) (bits : List Bool) → IsPair tree (tree.root ∷ word) bits → (k : ℕ)
    → Has k word → Has k (leaves tree.body)
pair-leaf tree word bits p k h =
    Has-IsPermutation k p.word (leaves tree.body)
    (IsPermutation-sym (leaves tree.body) p.word (read_leaves (given bits) tree.body p.word p.reads))
    (subst (Has k) (ap (λ ws. tail_of ws) p.order_is) h)
  where
    tail_of : List ℕ → List ℕ
    tail_of [] = []
    tail_of (x ∷ xs) = xs

-- a block, and the order in which its vertices are taken
module _ (block : ListedGraph) (well : IsListedBlock block) (order later : List ℕ) (root : ℕ)
    (ord : IsTakingOrder block.graph order later root) where
  -- where the darts stand
  abbrev at : ℕ → ℕ
  at = start block.graph.ends

  -- how many edges there are
  abbrev e : ℕ
  e = length block.graph.ends

  -- the dart of the least edge at the last vertex
  abbrev r : ℕ
  r = dart_at block.graph.ends (last_of order) root

  -- at two places of the order stand two vertices
  order-apart : (i j : ℕ) → i < length order → j < length order → i ≢ j → slice_index order i ≢ slice_index order j
  order-apart i j li lj ne same = ne (Distinct-once order
      (Exactly-Distinct block.graph.vertices (λ v. true) order ord.bipolar.each_once) i j li lj same)

  -- what is left to take back of a pair: a pair of the tree of an earlier stage, and whatever lists have those that
  -- were
  -- given so far and come from the earlier pair come from the pair
  pub record IsLeft (frames : List Frame) (tree : PQTree) (built : IsBuilt block order later root frames tree)
      (bits : List Bool) (word : List ℕ) (lists : List (List ℕ)) (rest : List Frame) (left : List ℕ) : Type 0 where
    pub old : PQTree
    pub old_built : IsBuilt block order later root rest old
    pub old_bits : List Bool
    pub pair : IsPair old (old.root ∷ left) old_bits
    pub bits_same : (v : ℕ) → v < length old_bits → bit_of old_bits v ≡ bit_of bits v
    pub goes_on : (all : ℕ → List ℕ) → ((i : ℕ) → length rest < i → suc i < length order
        → all (slice_index order i) ≡ slice_index_or lists (slice_index order i) [])
        → IsUnwound block well order later root ord all rest old old_built old_bits left
        → IsUnwound block well order later root ord all frames tree built bits word

  -- an edge of a vertex that is taken that leads to one that is not is one of its edges to vertices behind it
  touched-outs : (x y : ℕ) (others : List ℕ) (d : ℕ) → LeadsInto at e (x ∷ y ∷ others) d
      → touches block.graph.ends x (edge_of d) ≡ true → Has (edge_of d) (map edge_of (outs_of at e (y ∷ others) x))
  touched-outs x y others d q t =
      let here = dart-touches block.graph.ends well.no_loop d (at d) q.within refl in
      let there : at (twin d) ≡ x =
      here.2 ∙ other_end-is block.graph.ends well.no_loop (at d) x (edge_of d) t here.1 q.outside.0
      in
      subst (λ k. Has k (map edge_of (outs_of at e (y ∷ others) x))) (half_twin d)
      (Has-map_on edge_of (twin d) (outs_of at e (y ∷ others) x) ((outs_of-Has at e (y ∷ others) x (twin d)).1 (
        twin_within at e r d q.within,
        there,
        subst (λ z. Lacks (at z) (y ∷ others)) (sym (twin-twin d)) q.outside.1,
      )))

  -- in the word of a pair the edges of the vertex that was taken last are a run
  pub left-HasEdgesAsRun : (frame : Frame) (frames : List Frame) (tree : PQTree)
      (built : IsBuilt block order later root (frame ∷ frames) tree) (bits : List Bool) (word : List ℕ)
      → suc (suc (length frames)) < length order → IsPair tree (tree.root ∷ word) bits
      → HasEdgesAsRun block.graph.ends frame.vertex frame.outs.items word
  left-HasEdgesAsRun frame frames tree built bits word lt p =
      let j : ℕ = length frames in
      let x : ℕ = slice_index order (suc j) in
      let y : ℕ = slice_index order j in
      let others : List ℕ = taken_at order j in
      let less : suc j + 1 < length order = omega (arith, lt) in
      let back = frame-IsTakenBack block well order later root ord (λ v. []) frame frames tree built bits word lt p in
      let fresh = place-IsFreshSet block well order later root ord j less built.0
      (built-IsStageTree block well order later root ord frames built.0 built.1)
      in
      let once : Distinct word =
      (pair-Distinct block well order later root ord (λ v. []) (taken_at order (suc (suc j))) tree built.3 word bits
      p).1
      in
      let leads : (k : ℕ) → Has k word → (d : ℕ) × (edge_of d ≡ k) × LeadsInto at e (x ∷ y ∷ others) d =
      λ k h. let w = (built.3.leaves_are k).0 (inr (pair-leaf tree word bits p k h)) in (
        w.0,
        w.1,
        subst (λ us. LeadsInto at e us w.0) (taken_more block well order later root ord (suc j) (omega (arith, lt))
            ∙ ap (λ us. x ∷ us) (taken_is block well order later root ord j less)) w.2,
      )
      in
      let in_outs : (k : ℕ) → Has k word → touches block.graph.ends x k ≡ true → Has k back.run =
      λ k h t. let w = leads k h in
      (back.run_is.items k).1 ((outs_are block well order later root ord j less k).1
      (subst (λ z. Has z (map edge_of (outs_of at e (y ∷ others) x))) w.1
      (touched-outs x y others w.0 w.2 (subst (λ z. touches block.graph.ends x z ≡ true) (sym w.1) t))))
      in
      record {
        front = back.front;
        run = back.run;
        behind = back.behind;
        word_is = back.word_is;
        run_is = subst (IsArrangementOf back.run) (sym built.2.outs) back.run_is;
        outs_is = subst (λ us. IsArrangementOf us us) (sym built.2.outs)
            (record { distinct = fresh.once; items = λ d. ((λ h. h), (λ h. h)) });
        some = λ none. fresh.not_empty (sym built.2.outs ∙ none);
        within = λ k h. let w = leads k h in edge_below w.0 k w.1 w.2.within;
        front_apart = λ k h. subst (λ v. touches block.graph.ends v k ≡ false) (sym built.2.vertex)
            (⊎_elim
            (λ t. absurd (has_lacks k (back.run ++ back.behind)
            (Has-append_left k back.run back.behind
            (in_outs k (subst (Has k) (sym back.word_is) (Has-append_left k back.front (back.run ++ back.behind) h)) t))
            (Distinct-apart k back.front (back.run ++ back.behind) (subst Distinct back.word_is once) h)))
            (λ f. f)
            (cases_Bool (touches block.graph.ends x k)));
        run_touches = λ k h. subst (λ v. touches block.graph.ends v k ≡ true) (sym built.2.vertex)
            ((edges_at-Has block.graph.ends x k).0
            (filter-Has (λ i. not (enters later x i)) k (edges_at block.graph.ends x) ((back.run_is.items k).0 h)).0).1;
      }
    where
      edge_below : (d k : ℕ) → edge_of d ≡ k → d < 2 * e → k < e
      edge_below d k is lt = omega (arith, is, lt)

  -- at first all is left
  pub IsLeft-all : (frames : List Frame) (tree : PQTree) (built : IsBuilt block order later root frames tree)
      (bits : List Bool) (word : List ℕ) (lists : List (List ℕ)) → IsPair tree (tree.root ∷ word) bits
      → IsLeft frames tree built bits word lists frames word
  IsLeft-all frames tree built bits word lists p = record {
    old = tree;
    old_built = built;
    old_bits = bits;
    pair = p;
    bits_same = λ v lt. refl;
    goes_on = λ all same u. u;
  }

  -- a pair of a tree that is built, and the lists that were given to some vertices
  module _ (frames : List Frame) (tree : PQTree) (built : IsBuilt block order later root frames tree) (bits : List Bool)
      (word : List ℕ) where
    -- the word of what is left has the edges of the vertex of the last frame as a run
    pub IsLeft-run : (lists : List (List ℕ)) (frame : Frame) (rest : List Frame) (left : List ℕ)
        → suc (suc (length rest)) < length order → IsLeft frames tree built bits word lists (frame ∷ rest) left
        → HasEdgesAsRun block.graph.ends frame.vertex frame.outs.items left
    IsLeft-run lists frame rest left lt z = left-HasEdgesAsRun frame rest z.old z.old_built z.old_bits left lt z.pair

    -- the vertex is the one at its place
    pub IsLeft-vertex : (lists : List (List ℕ)) (frame : Frame) (rest : List Frame) (left : List ℕ)
        → IsLeft frames tree built bits word lists (frame ∷ rest) left
        → frame.vertex ≡ slice_index order (suc (length rest))
    IsLeft-vertex lists frame rest left z = z.old_built.2.vertex

    -- a vertex is taken back, and its list is given
    pub IsLeft-step : (lists more : List (List ℕ)) (frame : Frame) (rest : List Frame) (left new list : List ℕ)
        → suc (suc (length rest)) < length order → length lists ≡ block.graph.vertices
        → IsLeft frames tree built bits word lists (frame ∷ rest) left
        → IsTakenOutOf left frame.outs.items (part_word bits frame.part) new list → more ≡ set lists frame.vertex list
        → IsLeft frames tree built bits word more rest new
    IsLeft-step lists more frame rest left new list lt each z out more_is =
        let x : ℕ = slice_index order (suc (length rest)) in
        let inc : List ℕ = part_word bits frame.part in
        let some = (frame-IsTakenBack block well order later root ord (λ v. []) frame rest z.old z.old_built
        z.old_bits left
        lt z.pair).some
        in
        let reads : ReadsPart (given z.old_bits) frame.part inc =
        ReadsPart-by_bits (given z.old_bits) bits (given-Lets z.old_bits bits z.bits_same) frame.part some.0 some.1
        in
        let run_is : IsArrangementOf out.run (edges_out block.graph.ends later x) =
        subst (IsArrangementOf out.run) z.old_built.2.outs out.run_is
        in
        let pair = (run_back block well order later root ord (λ v. []) frame rest z.old z.old_built z.old_bits left lt
        z.pair
        out.front inc out.run out.behind out.word_is run_is reads).0
        in
        let set_is : more ≡ set lists x list = more_is ∙ ap (λ v. set lists v list) z.old_built.2.vertex in
        let x_within : x < length lists =
        subst (λ n. x < n) (sym each) ((order-within block well order later root ord x).0
        (Has_at order (suc (length rest)) (omega (arith, lt))))
        in
        record {
          old = z.old_built.0;
          old_built = z.old_built.1;
          old_bits = take z.old_built.0.vars z.old_bits;
          pair = subst (λ ws. IsPair z.old_built.0 (z.old_built.0.root ∷ ws) (take z.old_built.0.vars z.old_bits))
              (sym out.before_is) pair;
          bits_same = λ v below. first_bits z.old_built.0.vars z.old_bits v below z.bits_same;
          goes_on = λ all same u. z.goes_on all
              (λ i past within. same i (omega (arith, past)) within
              ∙ ap (λ rows. slice_index_or rows (slice_index order i) []) set_is
              ∙ get_or-set_other lists x (slice_index order i) list [] (order-apart i (suc (length rest))
              (omega (arith, within)) (omega (arith, lt)) (omega (arith, past)))) (
                out.front,
                inc,
                out.run,
                out.behind,
                out.word_is,
                run_is,
                reads,
                same (suc (length rest)) (omega arith) (omega (arith, lt))
                    ∙ ap (λ rows. slice_index_or rows x []) set_is ∙ get_or-set_same lists x list [] x_within
                    ∙ out.list_is,
                subst (IsUnwound block well order later root ord all rest z.old_built.0 z.old_built.1
                    (take z.old_built.0.vars z.old_bits)) out.before_is u,
              );
        }
      where
        -- the first bits of bits that begin as others
        first_bits : (m : ℕ) (old : List Bool) (v : ℕ) → v < length (take m old)
            → ((w : ℕ) → w < length old → bit_of old w ≡ bit_of bits w) → bit_of (take m old) v ≡ bit_of bits v
        first_bits m old v below same =
            let both : v < min m (length old) = subst (λ n. v < n) (length-take m old) below in
            get_or-take m old v false (omega (arith, both)) ∙ same v (omega (arith, both))

    -- at last the first vertex and the last get theirs
    pub IsLeft-none : (lists more : List (List ℕ)) (left cyclic first_list : List ℕ)
        → suc (suc (length frames)) ≡ length order → length lists ≡ block.graph.vertices
        → IsPair tree (tree.root ∷ word) bits → IsLeft frames tree built bits word lists [] left
        → IsTurn cyclic (root ∷ word) → first_list ≡ root ∷ reverse left
        → more ≡ set (set lists (slice_index order 0) first_list) (last_of order) cyclic
        → AreUnwound block (last_of order) cyclic (bit_of bits) more
    IsLeft-none lists more left cyclic first_list all each p z turn first_is more_is =
        let s : ℕ = slice_index order 0 in
        let t : ℕ = last_of order in
        let long : 1 < length order = order-long block well order later root ord in
        let s_within : s < length lists =
        subst (λ n. s < n) (sym each) ((order-within block well order later root ord s).0
        (Has_at order 0 (omega (arith, long))))
        in
        let t_within : t < length (set lists s first_list) =
        subst (λ n. t < n) (sym (length-set lists s first_list
        ∙ each)) ((order-within block well order later root ord t).0
        (Has_at order (length order - 1) (omega (arith, long))))
        in
        let other : (v : ℕ) → v ≢ t → v ≢ s → slice_index_or more v [] ≡ slice_index_or lists v [] =
        λ v not_t not_s. ap (λ rows. slice_index_or rows v []) more_is
        ∙ get_or-set_other (set lists s first_list) t v cyclic [] not_t
        ∙ get_or-set_other lists s v first_list [] not_s
        in
        let at_s : slice_index_or more s [] ≡ root ∷ reverse left =
        ap (λ rows. slice_index_or rows s []) more_is
        ∙ get_or-set_other (set lists s first_list) t s cyclic []
        (order-apart 0 (length order - 1) (omega (arith, long)) (omega (arith, long)) (omega (arith, long)))
        ∙ get_or-set_same lists s first_list [] s_within ∙ first_is
        in
        let at_t : slice_index_or more t [] ≡ cyclic =
        ap (λ rows. slice_index_or rows t []) more_is
        ∙ get_or-set_same (set lists s first_list) t cyclic [] t_within
        in
        let w = unwound-Realises block well order later root ord (λ v. slice_index_or more v []) frames tree built
        bits word
        all p
        (z.goes_on (λ v. slice_index_or more v [])
        (λ i past within. other (slice_index order i)
        (order-apart i (length order - 1) (omega (arith, within)) (omega (arith, long)) (omega (arith, within)))
        (order-apart i 0 (omega (arith, within)) (omega (arith, long)) (omega (arith, past))))
        (at_end z.old_built z.old_bits at_s))
        in
        record {
          list_each = ap length more_is ∙ length-set (set lists s first_list) t cyclic ∙ length-set lists s first_list
              ∙ each;
          system = w.0;
          realises = record {
            of_graph = w.1.of_graph;
            plane = w.1.plane;
            order_is = turn-trans cyclic (root ∷ word) (edges_round w.0 t) turn w.1.order_is;
            lists_kept = w.1.lists_kept;
          };
          lists_are = λ v lt. ⊎_elim {C = IsTurn (slice_index_or more v []) (edges_round w.0 v)}
              (λ same. subst (λ u. IsTurn (slice_index_or more u []) (edges_round w.0 u)) (sym same)
              (subst (λ us. IsTurn us (edges_round w.0 t)) (sym at_t)
              (turn-trans cyclic (root ∷ word) (edges_round w.0 t) turn w.1.order_is)))
              (λ ne. w.2 v lt ne)
              (cases_eq v t);
        }
      where
        at_end : {old : PQTree} (old_built : IsBuilt block order later root [] old) (old_bits : List Bool)
            → slice_index_or more (slice_index order 0) [] ≡ root ∷ reverse left
            → IsUnwound block well order later root ord (λ v. slice_index_or more v []) [] old old_built old_bits left
        at_end old_built old_bits e = e

-- what the code holds: the pair of the tree, and what is left of it at a place of the frames
pub record IsUnwoundTo (block : ListedGraph) (t first : ℕ) (frames : List Frame) (tree : PQTree) (bits : List Bool)
    (order : List ℕ) (root : ℕ) (lists : List (List ℕ)) (left : ℕ) (word : List ℕ) : Type 0 where
  pub way : IsUnwindable block t first frames tree
  pub root_is : root ≡ way.root
  pub begin : List ℕ
  pub turn : IsTurn order (root ∷ begin)
  pub pair : IsPair tree (tree.root ∷ begin) bits
  pub within : left ≤ length frames
  pub list_each : length lists ≡ block.graph.vertices
  pub rest : IsLeft block way.well way.order way.later way.root way.order_is (reverse frames) tree way.built bits
      begin lists
      (reverse (take left frames)) word

-- the frames up to a place, from the last
rest_is : (frames : List Frame) (left next : ℕ) (frame : Frame) → suc next ≡ left → left ≤ length frames
    → frame ≡ get_or frames next frame → reverse (take left frames) ≡ frame ∷ reverse (take next frames)
rest_is frames left next frame is le frame_is =
    ap (λ n. reverse (take n frames)) (sym is) ∙ ap reverse (take-suc frames next frame (omega (arith, is, le)))
    ∙ reverse-append (take next frames) (get_or frames next frame ∷ [])
    ∙ ap (λ (f : Frame). f ∷ reverse (take next frames)) (sym frame_is)

-- how many they are
rest_length : (frames : List Frame) (next : ℕ) → next ≤ length frames → length (reverse (take next frames)) ≡ next
rest_length frames next le = length-reverse (take next frames) ∙ length-take-le next frames le

-- the least edge of a vertex is one
least_same : (ends : List (ℕ × ℕ)) (v a b : ℕ) → IsLeastEdge ends v a → IsLeastEdge ends v b → a ≡ b
least_same ends v a b p q = omega (arith, p.least b q.within q.is_end, q.least a p.within p.is_end)

-- a block, a vertex of it, and the tree of this vertex
module _ (block : ListedGraph) (t first : ℕ) (frames : List Frame) (tree : PQTree) (bits : List Bool) (order : List ℕ)
    (root : ℕ) where
  -- the vertex is one of the block
  pub way-within : (way : IsUnwindable block t first frames tree) → t < block.graph.vertices
  way-within way = subst (λ v. v < block.graph.vertices) way.last
      ((order-within block way.well way.order way.later way.root way.order_is (last_of way.order)).0
      (Has_at way.order (length way.order - 1) (omega (arith, way.frame_each))))

  -- the least edge of the vertex is the root of the tree
  root-least_edge : (way : IsUnwindable block t first frames tree)
      → IsEmbeddingTree block t tree → root ≡ slice_index (edges_at block.graph.ends t) 0 → root ≡ tree.root
  root-least_edge way exact root_is =
      let lt = way-within way in
      let edge = root-edge block way.well t lt in
      root_is ∙ least_same block.graph.ends t (slice_index (edges_at block.graph.ends t) 0) tree.root
      (record { within = edge.0; is_end = edge.1; least = root-least block way.well t lt }) exact.root

  -- the order of a pair has it
  pub pair-Has_root : (way : IsUnwindable block t first frames tree)
      → IsEmbeddingTree block t tree → root ≡ slice_index (edges_at block.graph.ends t) 0
      → IsTurnedPair tree order bits → Has root order
  pair-Has_root way exact root_is p =
      Has-of_turn order (tree.root ∷ p.word) root p.turn (inl (sym (root-least_edge way exact root_is)))

  -- at first all is left
  pub IsUnwoundTo-all : (way : IsUnwindable block t first frames tree)
      → IsEmbeddingTree block t tree → root ≡ slice_index (edges_at block.graph.ends t) 0
      → IsTurnedPair tree order bits → (word : List ℕ) → IsTurn order (root ∷ word) → (lists : List (List ℕ)) (left : ℕ)
      → length lists ≡ block.graph.vertices → left ≡ length frames
      → IsUnwoundTo block t first frames tree bits order root lists left word
  IsUnwoundTo-all way exact root_is p word turn lists left each left_is =
      let tree_root_is : tree.root ≡ way.root =
      tree_root block way.well way.order way.later way.root way.order_is frames tree way.frame_each way.built
      in
      let same_root : root ≡ tree.root = root-least_edge way exact root_is in
      let stage = built-stage block way.well way.order way.later way.root way.order_is frames tree
      (length way.order - 1) (omega (arith, way.frame_each)) way.built
      in
      let once : Distinct (tree.root ∷ p.word) =
      pair-Distinct block way.well way.order way.later way.root way.order_is (λ v. []) (taken_at way.order (length
      way.order - 1))
      tree stage p.word bits p.pair
      in
      let same : p.word ≡ word =
      turn_to_item-unique tree.root order p.word word
      (turn-Distinct (tree.root ∷ p.word) order (turn-sym order (tree.root ∷ p.word) p.turn) once) p.turn
      (subst (λ k. IsTurn order (k ∷ word)) same_root turn)
      in
      let pair : IsPair tree (tree.root ∷ word) bits = subst (λ ws. IsPair tree (tree.root ∷ ws) bits) same p.pair in
      record {
        way = way;
        root_is = same_root ∙ tree_root_is;
        begin = word;
        turn = turn;
        pair = pair;
        within = omega (arith, left_is);
        list_each = each;
        rest = subst (λ fs. IsLeft block way.well way.order way.later way.root way.order_is (reverse frames) tree
            way.built bits
            word lists fs word) (sym (ap (λ n. reverse (take n frames)) left_is ∙ ap reverse (take-length frames)))
            (IsLeft-all block way.well way.order way.later way.root way.order_is (reverse frames) tree way.built bits
            word lists
            pair);
      }

  -- one frame more
  module _ (lists : List (List ℕ)) (left next : ℕ) (is : suc next ≡ left) (word : List ℕ)
      (z : IsUnwoundTo block t first frames tree bits order root lists left word) (frame : Frame)
      (frame_is : frame ≡ get_or frames next frame) where
    -- what is left begins with it
    left_frame : IsLeft block z.way.well z.way.order z.way.later z.way.root z.way.order_is (reverse frames) tree
        z.way.built
        bits z.begin lists (frame ∷ reverse (take next frames)) word
    left_frame = subst (λ fs. IsLeft block z.way.well z.way.order z.way.later z.way.root z.way.order_is (reverse
        frames) tree
        z.way.built bits z.begin lists fs word) (rest_is frames left next frame is z.within frame_is) z.rest

    -- its place is in front of the last
    place_within : suc (suc (length (reverse (take next frames)))) < length z.way.order
    place_within = omega (arith, rest_length frames next (omega (arith, is, z.within)), is, z.within, z.way.frame_each)

    -- the edges of its vertex are a run of the word
    pub IsUnwoundTo-run : HasEdgesAsRun block.graph.ends frame.vertex frame.outs.items word
    IsUnwoundTo-run = IsLeft-run block z.way.well z.way.order z.way.later z.way.root z.way.order_is (reverse frames)
        tree
        z.way.built bits z.begin lists frame (reverse (take next frames)) word place_within left_frame

    -- its vertex has a list
    pub IsUnwoundTo-vertex : frame.vertex < length lists
    IsUnwoundTo-vertex = subst (λ n. frame.vertex < n) (sym z.list_each)
        (subst (λ v. v < block.graph.vertices)
        (sym (IsLeft-vertex block z.way.well z.way.order z.way.later z.way.root z.way.order_is (reverse frames) tree
        z.way.built bits z.begin lists frame (reverse (take next frames)) word left_frame))
        ((order-within block z.way.well z.way.order z.way.later z.way.root z.way.order_is
        (slice_index z.way.order (suc (length (reverse (take next frames)))))).0
        (Has_at z.way.order (suc (length (reverse (take next frames)))) (omega (arith, place_within)))))

    -- it is taken back
    pub IsUnwoundTo-step : (new list : List ℕ) (more : List (List ℕ))
        → IsTakenOutOf word frame.outs.items (part_word bits frame.part) new list → more ≡ set lists frame.vertex list
        → IsUnwoundTo block t first frames tree bits order root more next new
    IsUnwoundTo-step new list more out more_is = record {
      way = z.way;
      root_is = z.root_is;
      begin = z.begin;
      turn = z.turn;
      pair = z.pair;
      within = omega (arith, is, z.within);
      list_each = ap length more_is ∙ length-set lists frame.vertex list ∙ z.list_each;
      rest = IsLeft-step block z.way.well z.way.order z.way.later z.way.root z.way.order_is (reverse frames) tree
          z.way.built
          bits z.begin lists more frame (reverse (take next frames)) word new list place_within z.list_each left_frame
          out
          more_is;
    }

  -- at last nothing is left
  module _ (lists : List (List ℕ)) (left : ℕ) (none : left ≡ 0) (word : List ℕ)
      (z : IsUnwoundTo block t first frames tree bits order root lists left word) where
    -- the first vertex has a list
    pub IsUnwoundTo-first : first < length lists
    IsUnwoundTo-first = subst (λ n. first < n) (sym z.list_each)
        (subst (λ v. v < block.graph.vertices) z.way.first_is
        ((order-within block z.way.well z.way.order z.way.later z.way.root z.way.order_is (slice_index z.way.order 0)).0
        (Has_at z.way.order 0 (omega (arith, z.way.frame_each)))))

    -- with their lists all are there
    pub IsUnwoundTo-none : (first_list : List ℕ) (more : List (List ℕ)) → first_list ≡ root ∷ reverse word
        → more ≡ set (set lists first first_list) t order → AreUnwound block t order (bit_of bits) more
    IsUnwoundTo-none first_list more first_list_is more_is =
        subst (λ v. AreUnwound block v order (bit_of bits) more) z.way.last
        (IsLeft-none block z.way.well z.way.order z.way.later z.way.root z.way.order_is (reverse frames) tree
        z.way.built bits
        z.begin lists more word order first_list
        (ap (λ n. suc (suc n)) (length-reverse frames) ∙ z.way.frame_each) z.list_each z.pair
        (subst (λ fs. IsLeft block z.way.well z.way.order z.way.later z.way.root z.way.order_is (reverse frames) tree
        z.way.built bits z.begin lists fs word) (ap (λ n. reverse (take n frames)) none) z.rest)
        (subst (λ k. IsTurn order (k ∷ z.begin)) z.root_is z.turn)
        (subst (λ k. first_list ≡ k ∷ reverse word) z.root_is first_list_is)
        (subst (λ s. more ≡ set (set lists s first_list) (last_of z.way.order) order) (sym z.way.first_is)
        (subst (λ u. more ≡ set (set lists first first_list) u order) (sym z.way.last) more_is)))
