-- How the order tree of a vertex is built: one step more, a step that is refused, and the end.
use Rattle.std.proofs.Common.{◌≡◌, ℕ, zero, suc, ◌+◌, ◌-◌, ◌<◌, ◌≤◌, ◌↔◌, true, List, [], ◌∷◌, ◌++◌, length, slice_index, reverse, sym, ap, ◌∙◌, subst, arith}
use Rattle.std.proofs.lemmas.List.{reverse-append, length-reverse}
use Rattle.cp_lists.proofs.TurnedLists.{turn_to_item}
use Rattle.cp_pq.specs.Promises.{IsLeafSet}
use Rattle.cp_pq.specs.Trees.{PQTree, IsWellFormed}
use Rattle.cp_embed.specs.declared.taking.Frame.{Frame}
use Rattle.cp_embed.specs.BuiltTrees.{IsBuilt, IsUnwindable}
use Rattle.cp_embed.specs.Embeddings.{IsLeastEdge, IsEmbeddingTree, IsEmbedded, IsNeverEmbedded, HasSomePair}
use Rattle.cp_embed.specs.ListedBlocks.{ListedGraph, IsListedBlock, list_given, touches}
use Rattle.cp_embed.specs.TreePairs.{pairs_of}
use Rattle.cp_embed.specs.TreeSteps.{IsStageTree, IsTreeStep, IsRefusedStep, IsFreshSet}
use Rattle.cp_embed.specs.VertexOrders.{IsTakingOrder, edges_in, edges_out, taken_at, last_of, dart_at}
use Rattle.cp_embed.proofs.BipolarSweeps.{IsRealised-turn}
use Rattle.cp_embed.proofs.StageTrees.{root_dart, root_in, place-within, place-IsLeafSet, place-IsFreshSet, place-step, place-refused, none-IsNeverEmbedded, last-exact}

-- a block, and the order in which its vertices are taken
module _ (block : ListedGraph) (well : IsListedBlock block) (order later : List ℕ) (root : ℕ)
    (ord : IsTakingOrder block.graph order later root) where
  -- the dart of the least edge at the last vertex
  abbrev r : ℕ
  r = dart_at block.graph.ends (last_of order) root

  -- a tree that is built, the last frame first, is that of the stage behind the frames
  pub built-IsStageTree : (frames : List Frame) (tree : PQTree) → IsBuilt block order later root frames tree
      → IsStageTree block r (taken_at order (suc (length frames))) tree
  built-IsStageTree [] tree built = built.0
  built-IsStageTree (frame ∷ frames) tree built = built.3

  -- in the order of the frames
  pub built-stage : (frames : List Frame) (tree : PQTree) (place : ℕ) → suc (length frames) ≡ place
      → IsBuilt block order later root (reverse frames) tree → IsStageTree block r (taken_at order place) tree
  built-stage frames tree place is built =
      subst (λ i. IsStageTree block r (taken_at order i) tree)
      (ap (λ n. suc n) (length-reverse frames) ∙ is)
      (built-IsStageTree (reverse frames) tree built)

  -- a step more
  pub built_more : (frames : List Frame) (frame : Frame) (old new : PQTree) (place : ℕ) → suc (length frames) ≡ place
      → place + 1 < length order → IsBuilt block order later root (reverse frames) old → IsWellFormed new
      → frame.vertex ≡ slice_index order place
      → frame.outs.items ≡ edges_out block.graph.ends later (slice_index order place)
      → IsTreeStep (list_given block.lists (slice_index order place)) (slice_index order place)
      (edges_in block.graph.ends later (slice_index order place))
      (edges_out block.graph.ends later (slice_index order place)) old new frame.part
      → IsBuilt block order later root (reverse (frames ++ frame ∷ [])) new
  built_more frames frame old new place is lt built formed vertex outs step =
      let j : ℕ = length (reverse frames) in
      let place_is : place ≡ suc j = sym is ∙ ap (λ n. suc n) (sym (length-reverse frames)) in
      let step_is : IsTreeStep (list_given block.lists (slice_index order (suc j))) (slice_index order (suc j))
      (edges_in block.graph.ends later (slice_index order (suc j)))
      (edges_out block.graph.ends later (slice_index order (suc j))) old new frame.part =
      subst (λ i. IsTreeStep (list_given block.lists (slice_index order i)) (slice_index order i)
      (edges_in block.graph.ends later (slice_index order i))
      (edges_out block.graph.ends later (slice_index order i)) old new frame.part) place_is step
      in
      subst (λ fs. IsBuilt block order later root fs new) (sym (reverse-append frames (frame ∷ []))) (
        old,
        built,
        record {
          vertex = vertex ∙ ap (slice_index order) place_is;
          outs = outs ∙ ap (λ i. edges_out block.graph.ends later (slice_index order i)) place_is;
          step = step_is;
        },
        place-step block well order later root ord j (omega (arith, lt, place_is)) old
            (built-IsStageTree (reverse frames) old built) new frame.part formed step_is,
      )

  -- a step that is refused
  pub refused-IsNeverEmbedded : (old : PQTree) (place : ℕ) → 0 < place → place + 1 < length order
      → IsStageTree block r (taken_at order place) old
      → IsRefusedStep (list_given block.lists (slice_index order place))
      (edges_in block.graph.ends later (slice_index order place))
      (edges_out block.graph.ends later (slice_index order place)) old → IsNeverEmbedded block (last_of order)
  refused-IsNeverEmbedded old zero some lt stage refused = absurd (omega arith)
  refused-IsNeverEmbedded old (suc j) some lt stage refused =
      none-IsNeverEmbedded block well order later root ord (suc j) (omega (arith, lt))
      (place-refused block well order later root ord j lt old stage refused)

  -- a place between the first and the last, with the tree of the stage before
  module _ (old : PQTree) (place : ℕ) (some : 0 < place) (lt : place + 1 < length order)
      (stage : IsStageTree block r (taken_at order place) old) where
    -- the vertex is one of the graph
    pub place-vertex : slice_index order place < block.graph.vertices
    place-vertex = by_place place some lt
      where
        by_place : (i : ℕ) → 0 < i → i + 1 < length order → slice_index order i < block.graph.vertices
        by_place zero some lt = absurd (omega arith)
        by_place (suc j) some lt = place-within block well order later root ord j lt

    -- its edges to vertices before are leaves of the tree
    pub place-leaves : IsLeafSet (edges_in block.graph.ends later (slice_index order place)) old
    place-leaves = by_place place some lt stage
      where
        by_place : (i : ℕ) → 0 < i → i + 1 < length order → IsStageTree block r (taken_at order i) old
            → IsLeafSet (edges_in block.graph.ends later (slice_index order i)) old
        by_place zero some lt stage = absurd (omega arith)
        by_place (suc j) some lt stage = place-IsLeafSet block well order later root ord j lt old stage

    -- and its others may come into it
    pub place-fresh : IsFreshSet (edges_out block.graph.ends later (slice_index order place)) old
    place-fresh = by_place place some lt stage
      where
        by_place : (i : ℕ) → 0 < i → i + 1 < length order → IsStageTree block r (taken_at order i) old
            → IsFreshSet (edges_out block.graph.ends later (slice_index order i)) old
        by_place zero some lt stage = absurd (omega arith)
        by_place (suc j) some lt stage = place-IsFreshSet block well order later root ord j lt old stage

  -- the last tree
  module _ (frames : List Frame) (tree : PQTree) (all : suc (suc (length frames)) ≡ length order)
      (built : IsBuilt block order later root (reverse frames) tree) where
    -- it is that of the last stage
    last_stage : IsStageTree block r (taken_at order (length order - 1)) tree
    last_stage = built-stage frames tree (length order - 1) (omega (arith, all)) built

    -- its root
    pub tree_root : tree.root ≡ root
    tree_root = last_stage.root ∙ (root_dart block well order later root ord).2

    -- where it has a pair, it is the tree of the last vertex
    pub built-IsEmbeddingTree : ((k : ℕ) → k < length block.graph.ends
        → touches block.graph.ends (last_of order) k ≡ true → root ≤ k) → HasSomePair tree
        → IsEmbeddingTree block (last_of order) tree
    built-IsEmbeddingTree least some = record {
      root = subst (IsLeastEdge block.graph.ends (last_of order)) (sym tree_root)
          (record { within = ord.root_within; is_end = ord.root_at_last; least = least });
      vars = last_stage.vars;
      exact = λ word bit. subst (λ k. pairs_of block.graph.vertices tree word bit
          ↔ IsEmbedded block (last_of order) (k ∷ word) bit) (sym tree_root)
          (last-exact block well order later root ord tree last_stage word bit);
      some_pair = some;
    }

    -- where it has none, nothing is embedded
    pub pairless-IsNeverEmbedded : (HasSomePair tree → ⊥) → IsNeverEmbedded block (last_of order)
    pairless-IsNeverEmbedded none other bit z =
        let w = turn_to_item root other (root_in block well order later root ord other bit z) in
        let p = (last-exact block well order later root ord tree last_stage w.0 bit).1
        (IsRealised-turn block.graph (list_given block.lists) (last_of order) other (root ∷ w.0) bit w.1 z)
        in
        none (tree.root ∷ w.0, p.0, p.1)

    -- a copy of the block with the tree and the frames can be unwound
    pub built-IsUnwindable : (copy : ListedGraph) (t first : ℕ) → copy ≡ block → last_of order ≡ t
        → first ≡ slice_index order 0 → IsUnwindable copy t first frames tree
    built-IsUnwindable copy t first same last first_is = subst (λ b. IsUnwindable b t first frames tree) (sym same) (record {
      well = well;
      order = order;
      later = later;
      root = root;
      order_is = ord;
      last = last;
      first_is = sym first_is;
      frame_each = all;
      built = built;
    })
