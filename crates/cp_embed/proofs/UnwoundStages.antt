-- From a pair of a tree that is built back to lists: frame by frame the run of a vertex's edges to vertices behind it
-- is
-- exchanged for a reading of its part, and the two are its list; the pair is one of these lists.
use Rattle.std.proofs.Common.{◌≡◌, ◌≢◌, ℕ, suc, ◌+◌, ◌-◌, ◌<◌, Bool, false, List, [], ◌∷◌, ◌++◌, length, map, slice_index, take, reverse, sym, refl, ap, ap₂, ◌∙◌, subst, inl, ⊎_elim, arith}
use Rattle.std.proofs.lemmas.List.{reverse-reverse, get_or-take}
use Rattle.cp_lists.specs.CyclicLists.{Has, Distinct}
use Rattle.cp_lists.proofs.DistinctLists.{has_lacks}
use Rattle.cp_conn.specs.Darts.{start}
use Rattle.cp_lists.specs.Turns.{IsTurn}
use Rattle.cp_rot.specs.Systems.{System}
use Rattle.cp_pq.specs.Bits.{bit_of}
use Rattle.cp_pq.specs.Promises.{ReadsPart}
use Rattle.cp_pq.specs.Readings.{given}
use Rattle.cp_pq.specs.Trees.{PQTree, IsPair}
use Rattle.cp_embed.specs.declared.taking.Frame.{Frame}
use Rattle.cp_embed.specs.Arrangements.{IsArrangementOf}
use Rattle.cp_embed.specs.BuiltTrees.{IsBuilt}
use Rattle.cp_embed.specs.Directions.{KeepsDirection, edge_of}
use Rattle.cp_embed.specs.ListedBlocks.{ListedGraph, IsListedBlock, list_given}
use Rattle.cp_embed.specs.Realisations.{Realises, edges_round}
use Rattle.cp_embed.specs.Sweeps.{ins_of, outs_of, IsStagePair}
use Rattle.cp_embed.specs.TreeSteps.{IsStageTree}
use Rattle.cp_embed.specs.VertexOrders.{IsTakingOrder, edges_in, edges_out, taken_at, last_of, dart_at}
use Rattle.cp_embed.proofs.Arrangements.{IsArrangementOf-items, IsArrangementOf-reverse}
use Rattle.cp_embed.proofs.BipolarSweeps.{last_stage-IsRealised, last_taken-Has}
use Rattle.cp_embed.proofs.BuiltTrees.{built-IsStageTree}
use Rattle.cp_embed.proofs.Directions.{KeepsDirection-turn}
use Rattle.cp_embed.proofs.FirstOrders.{first_taken, first_sweep}
use Rattle.cp_embed.proofs.FirstPairs.{IsStagePair-first}
use Rattle.cp_embed.proofs.ReplacedPairs.{same_run}
use Rattle.cp_embed.proofs.StageSteps.{IsPair-Admits}
use Rattle.cp_embed.proofs.StageTrees.{root_dart, no_loops, taken_more, given_arranges, taken_is, sweep, ins_are, outs_are, some_in, some_out, place-within, place-IsLeafSet, place-IsFreshSet}
use Rattle.cp_embed.proofs.TakenTrees.{Admits-Distinct}
use Rattle.cp_embed.proofs.Unwinding.{all_given, unwound-first, unwound-step}
use Rattle.cp_embed.proofs.UnwoundSteps.{IsTakenBack, step-IsTakenBack}

-- a block, the order in which its vertices are taken, and a list for each vertex
module _ (block : ListedGraph) (well : IsListedBlock block) (order later : List ℕ) (root : ℕ)
    (ord : IsTakingOrder block.graph order later root) (lists : ℕ → List ℕ) where
  -- where the darts stand
  abbrev at : ℕ → ℕ
  at = start block.graph.ends

  -- how many edges there are
  abbrev e : ℕ
  e = length block.graph.ends

  -- the dart of the least edge at the last vertex
  abbrev r : ℕ
  r = dart_at block.graph.ends (last_of order) root

  -- all bits are false
  abbrev forward : ℕ → Bool
  forward v = false

  -- the lists are those that the frames, the last one first, give for a word with bits: at each frame a run of the word
  -- is exchanged for a reading of the part, and the first vertex has what is left, in reverse behind the root
  abbrev pub IsUnwound : (frames : List Frame) (tree : PQTree) → IsBuilt block order later root frames tree → List Bool
      → List ℕ → Type 0
  IsUnwound [] tree built bits word = lists (slice_index order 0) ≡ root ∷ reverse word
  IsUnwound (frame ∷ frames) tree built bits word = (front : List ℕ) × (inc : List ℕ) × (run : List ℕ)
      × (behind : List ℕ) × (word ≡ front ++ (run ++ behind))
      × IsArrangementOf run (edges_out block.graph.ends later (slice_index order (suc (length frames))))
      × ReadsPart (given bits) frame.part inc
      × (lists (slice_index order (suc (length frames))) ≡ inc ++ reverse run)
      × IsUnwound frames built.0 built.1 (take built.0.vars bits) (front ++ (inc ++ behind))

  -- no pair of the tree of a stage has an edge twice
  pub pair-Distinct : (taken : List ℕ) (tree : PQTree) → IsStageTree block r taken tree
      → (word : List ℕ) (bits : List Bool)
      → IsPair tree (tree.root ∷ word) bits → Distinct (tree.root ∷ word)
  pair-Distinct taken tree stage word bits p =
      Admits-Distinct tree (tree.root ∷ word) stage.formed (IsPair-Admits tree (tree.root ∷ word) bits p)

  -- a frame for a pair: the step that it tells of is taken back
  pub frame-IsTakenBack : (frame : Frame) (frames : List Frame) (tree : PQTree)
      (built : IsBuilt block order later root (frame ∷ frames) tree) (bits : List Bool) (word : List ℕ)
      → suc (suc (length frames)) < length order → IsPair tree (tree.root ∷ word) bits
      → IsTakenBack (list_given block.lists (slice_index order (suc (length frames))))
      (slice_index order (suc (length frames)))
      (edges_in block.graph.ends later (slice_index order (suc (length frames))))
      (edges_out block.graph.ends later (slice_index order (suc (length frames)))) built.0 frame.part bits word
  frame-IsTakenBack frame frames tree built bits word lt p =
      let j : ℕ = length frames in
      let x : ℕ = slice_index order (suc j) in
      let old : PQTree = built.0 in
      let less : suc j + 1 < length order = omega (arith, lt) in
      let ins : List ℕ = edges_in block.graph.ends later x in
      let outs : List ℕ = edges_out block.graph.ends later x in
      let stage : IsStageTree block r (taken_at order (suc j)) old =
      built-IsStageTree block well order later root ord frames old built.1
      in
      let one = some_in block well order later root ord j less in
      let other = some_out block well order later root ord j less in
      let root_out : Has old.root ins → ⊥ =
      λ h. has_lacks old.root _ ((place-IsLeafSet block well order later root ord j less old stage).leaves_of old.root
      h)
      stage.formed.distinct.0
      in
      let root_apart : Has old.root outs → ⊥ =
      λ h. (place-IsFreshSet block well order later root ord j less old stage).fresh old.root h (inl refl)
      in
      step-IsTakenBack x ins outs old tree frame.part one.0 other.0 one.1 other.1 root_out root_apart
      (pair-Distinct (taken_at order (suc j)) old stage) word bits p (list_given block.lists x)
      (λ list is. (given_arranges block well order later root ord x (place-within block well order later root ord j
      less)
      list is).distinct) built.2.step

  -- where a run of the word arranges the vertex's edges to vertices behind it, each reading of the part in its place
  -- gives a pair of the tree before and arranges the edges to what is taken, and the two are a list that is kept
  pub run_back : (frame : Frame) (frames : List Frame) (tree : PQTree)
      (built : IsBuilt block order later root (frame ∷ frames) tree) (bits : List Bool) (word : List ℕ)
      → suc (suc (length frames)) < length order → IsPair tree (tree.root ∷ word) bits
      → (front inc run behind : List ℕ) → word ≡ front ++ (run ++ behind)
      → IsArrangementOf run (edges_out block.graph.ends later (slice_index order (suc (length frames))))
      → ReadsPart (given bits) frame.part inc
      → IsPair built.0 (built.0.root ∷ (front ++ (inc ++ behind))) (take built.0.vars bits)
      × IsArrangementOf inc (edges_in block.graph.ends later (slice_index order (suc (length frames))))
      × KeepsDirection (list_given block.lists (slice_index order (suc (length frames))))
      (bit_of bits (slice_index order (suc (length frames)))) (inc ++ reverse run)
  run_back frame frames tree built bits word lt p front inc run behind word_is run_is reads =
      let j : ℕ = length frames in
      let x : ℕ = slice_index order (suc j) in
      let old : PQTree = built.0 in
      let other = some_out block well order later root ord j (let less : suc j + 1 < length order = omega (arith, lt)
      in less) in
      let back = frame-IsTakenBack frame frames tree built bits word lt p in
      let same = same_run back.front back.run back.behind front run behind other.0
      (subst Distinct back.word_is (pair-Distinct (taken_at order (suc (suc j))) tree built.3 word bits p).1)
      (sym back.word_is ∙ word_is) ((back.run_is.items other.0).1 other.1)
      (λ d. (
        (λ h. (run_is.items d).1 ((back.run_is.items d).0 h)),
        (λ h. (back.run_is.items d).1 ((run_is.items d).0
            h)),
      ))
      in (
        subst (λ ws. IsPair old (old.root ∷ ws) (take old.vars bits))
            (ap₂ (λ us vs. us ++ (inc ++ vs)) same.0 same.2) (back.pair inc reads),
        back.arranges inc reads,
        subst (KeepsDirection (list_given block.lists x) (bit_of bits x)) (ap (λ us. inc ++ reverse us) same.1)
            (back.list_kept inc reads),
      )

  -- a frame for a pair: the pair of the tree before, whose word has the reading of the part, which arranges the edges
  -- to
  -- what is taken, and the list of the vertex is kept
  frame_back : (frame : Frame) (frames : List Frame) (tree : PQTree)
      (built : IsBuilt block order later root (frame ∷ frames) tree) (bits : List Bool) (word : List ℕ)
      → suc (suc (length frames)) < length order → IsPair tree (tree.root ∷ word) bits
      → (u : IsUnwound (frame ∷ frames) tree built bits word)
      → IsPair built.0 (built.0.root ∷ (u.0 ++ (u.1 ++ u.3))) (take built.0.vars bits)
      × IsArrangementOf u.1 (edges_in block.graph.ends later (slice_index order (suc (length frames))))
      × KeepsDirection (list_given block.lists (slice_index order (suc (length frames))))
      (bit_of bits (slice_index order (suc (length frames)))) (lists (slice_index order (suc (length frames))))
  frame_back frame frames tree built bits word lt p u =
      let w = run_back frame frames tree built bits word lt p u.0 u.1 u.2 u.3 u.4 u.5 u.6 in (
        w.0,
        w.1,
        subst (KeepsDirection (list_given block.lists (slice_index order (suc (length frames))))
            (bit_of bits (slice_index order (suc (length frames))))) (sym u.7) w.2,
      )

  -- the word of the pair is an order of the stage in which each vertex has its list
  pub unwound-IsStagePair : (frames : List Frame) (tree : PQTree) (built : IsBuilt block order later root frames tree)
      (bits : List Bool) (word : List ℕ) → suc (length frames) < length order → IsPair tree (tree.root ∷ word) bits
      → IsUnwound frames tree built bits word
      → IsStagePair at e (all_given lists) r (taken_at order (suc (length frames))) word forward
  unwound-IsStagePair [] tree built bits word lt p u =
      let rd = root_dart block well order later root ord in
      let taken : taken_at order 1 ≡ slice_index order 0 ∷ [] = first_taken block well order later root ord in
      let q : IsStagePair at e (list_given block.lists) r (slice_index order 0 ∷ []) word (bit_of bits) =
      subst (λ us. IsStagePair at e (list_given block.lists) r us word (bit_of bits)) taken
      ((built.0.pairs word (bit_of bits)).0 (bits, p, λ v less. refl))
      in
      subst (λ us. IsStagePair at e (all_given lists) r us word forward) (sym taken)
      (unwound-first at e r lists forward (λ v. refl) (no_loops block well order later root ord) (slice_index order 0)
      rd.1 (first_sweep block well order later root ord) word
      ((IsStagePair-first at e r (list_given block.lists) (no_loops block well order later root ord) rd.1
      (slice_index order 0) (first_sweep block well order later root ord) word (bit_of bits)).0 q).0
      (subst (λ k. lists (slice_index order 0) ≡ k ∷ reverse word) (sym rd.2) u))
  unwound-IsStagePair (frame ∷ frames) tree built bits word lt p u =
      let j : ℕ = length frames in
      let x : ℕ = slice_index order (suc j) in
      let old : PQTree = built.0 in
      let less : suc j + 1 < length order = omega (arith, lt) in
      let ins : List ℕ = edges_in block.graph.ends later x in
      let outs : List ℕ = edges_out block.graph.ends later x in
      let back = frame_back frame frames tree built bits word lt p u in
      let before = subst (λ us. IsStagePair at e (all_given lists) r us (u.0 ++ (u.1 ++ u.3)) forward)
      (taken_is block well order later root ord j less)
      (unwound-IsStagePair frames old built.1 (take old.vars bits) (u.0 ++ (u.1 ++ u.3)) (omega (arith, lt)) back.0 u.8)
      in
      subst (λ us. IsStagePair at e (all_given lists) r us word forward)
      (sym (taken_more block well order later root ord (suc j) (omega (arith, lt))
      ∙ ap (λ us. x ∷ us) (taken_is block well order later root ord j less)))
      (subst (λ ws. IsStagePair at e (all_given lists) r (x ∷ slice_index order j ∷ taken_at order j) ws forward)
      (ap (λ us. u.0 ++ (us ++ u.3)) (reverse-reverse u.2) ∙ sym u.4)
      (unwound-step at e r lists forward (λ v. refl) (no_loops block well order later root ord) x (slice_index order j)
      (taken_at order j) (sweep block well order later root ord j less) u.0 u.1 (reverse u.2) u.3
      (IsArrangementOf-items u.1 ins (map edge_of (ins_of at e (slice_index order j ∷ taken_at order j) x))
      back.1 (ins_are block well order later root ord j less))
      (IsArrangementOf-items (reverse u.2) outs (map edge_of (outs_of at e (slice_index order j ∷ taken_at order j) x))
      (IsArrangementOf-reverse u.2 outs u.5) (outs_are block well order later root ord j less))
      u.7 before))

  -- a bit among the first ones
  bit-take : (m v : ℕ) (bits : List Bool) → v < m → bit_of (take m bits) v ≡ bit_of bits v
  bit-take m v bits lt = get_or-take m bits v false lt

  -- each vertex that is taken has its given list in the direction of its bit
  pub unwound-kept : (frames : List Frame) (tree : PQTree) (built : IsBuilt block order later root frames tree)
      (bits : List Bool) (word : List ℕ) → suc (length frames) < length order → IsPair tree (tree.root ∷ word) bits
      → IsUnwound frames tree built bits word → (v : ℕ) → v < block.graph.vertices
      → Has v (taken_at order (suc (length frames)))
      → KeepsDirection (list_given block.lists v) (bit_of bits v) (lists v)
  unwound-kept [] tree built bits word lt p u v less h =
      let rd = root_dart block well order later root ord in
      let taken : taken_at order 1 ≡ slice_index order 0 ∷ [] = first_taken block well order later root ord in
      let q : IsStagePair at e (list_given block.lists) r (slice_index order 0 ∷ []) word (bit_of bits) =
      subst (λ us. IsStagePair at e (list_given block.lists) r us word (bit_of bits)) taken
      ((built.0.pairs word (bit_of bits)).0 (bits, p, λ w below. refl))
      in
      let kept : KeepsDirection (list_given block.lists (slice_index order 0)) (bit_of bits (slice_index order 0))
      (lists (slice_index order 0)) =
      subst (KeepsDirection (list_given block.lists (slice_index order 0)) (bit_of bits (slice_index order 0)))
      (ap (λ k. k ∷ reverse word) rd.2 ∙ sym u)
      ((IsStagePair-first at e r (list_given block.lists) (no_loops block well order later root ord) rd.1
      (slice_index order 0) (first_sweep block well order later root ord) word (bit_of bits)).0 q).1
      in
      ⊎_elim
      (λ same. subst (λ w. KeepsDirection (list_given block.lists w) (bit_of bits w) (lists w)) same kept)
      (λ none. absurd none)
      (subst (Has v) taken h)
  unwound-kept (frame ∷ frames) tree built bits word lt p u v less h =
      let back = frame_back frame frames tree built bits word lt p u in
      let vars : v < built.0.vars =
      omega (arith, less, (built-IsStageTree block well order later root ord frames built.0 built.1).vars)
      in
      ⊎_elim
      (λ same. subst (λ w. KeepsDirection (list_given block.lists w) (bit_of bits w) (lists w)) same back.2)
      (λ before. subst (λ b. KeepsDirection (list_given block.lists v) b (lists v)) (bit-take built.0.vars v bits vars)
      (unwound-kept frames built.0 built.1 (take built.0.vars bits) (u.0 ++ (u.1 ++ u.3)) (omega (arith, lt)) back.0 u.8
      v less before))
      (subst (Has v) (taken_more block well order later root ord (suc (length frames)) (omega (arith, lt))) h)

  -- where all vertices but the last are taken, the lists are those of a rotation system of the block in the plane that
  -- has the order at the last vertex and keeps the given lists of the others by the bits
  pub unwound-Realises : (frames : List Frame) (tree : PQTree) (built : IsBuilt block order later root frames tree)
      (bits : List Bool) (word : List ℕ) → suc (suc (length frames)) ≡ length order
      → IsPair tree (tree.root ∷ word) bits → IsUnwound frames tree built bits word
      → (s : System) × Realises block.graph (list_given block.lists) (last_of order) (root ∷ word) (bit_of bits) s
      × ((v : ℕ) → v < block.graph.vertices → v ≢ last_of order → IsTurn (lists v) (edges_round s v))
  unwound-Realises frames tree built bits word all p u =
      let rd = root_dart block well order later root ord in
      let pair = subst (λ i. IsStagePair at e (all_given lists) r (taken_at order i) word forward)
      (let same : suc (length frames) ≡ length order - 1 = omega (arith, all) in same)
      (unwound-IsStagePair frames tree built bits word (omega (arith, all)) p u)
      in
      let z = (last_stage-IsRealised block.graph well.within well.no_loop (slice_index order 0) (last_of order) order
      ord.bipolar r rd.1 rd.3 rd.0 (all_given lists) word forward).0 pair
      in (
        z.0,
        record {
          of_graph = z.1.of_graph;
          plane = z.1.plane;
          order_is = subst (λ k. IsTurn (k ∷ word) (edges_round z.0 (last_of order))) rd.2 z.1.order_is;
          lists_kept = λ v lt ne. KeepsDirection-turn (list_given block.lists v) (bit_of bits v) (lists v)
              (edges_round z.0 v) (z.1.lists_kept v lt ne)
              (unwound-kept frames tree built bits word (omega (arith, all)) p u v lt
              (subst (λ i. Has v (taken_at order i))
              (let same : length order - 1 ≡ suc (length frames) = omega (arith, all) in same)
              ((last_taken-Has block.graph well.within well.no_loop (slice_index order 0) (last_of order) order
              ord.bipolar r rd.1 rd.3 rd.0 v).1 (lt, ne))));
        },
        z.1.lists_kept,
      )
