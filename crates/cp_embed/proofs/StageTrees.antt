-- The stages of an embedding along the order in which the vertices are taken.
use Rattle.std.proofs.Common.{◌≡◌, ◌≢◌, ℕ, suc, ◌+◌, ◌-◌, ◌*◌, ◌<◌, ◌≤◌, ◌↔◌, Bool, not, Option, Some, List, ◌∷◌, length, map, slice_index, sym, refl, ap, ◌∙◌, subst, arith}
use Rattle.std.specs.Prelude.{◌==◌}
use Rattle.std.specs.List.{range_with_len}
use Rattle.std.proofs.lemmas.Bool.{eq-eqb}
use Rattle.std.specs.List.Sorted.{IsStrictlyIncreasing}
use Rattle.std.proofs.lemmas.List.FromFn.{length-range_with_len, get_or-range_with_len}
use Rattle.std.proofs.lemmas.List.Kept.{IsStrictlyIncreasing-filter}
use Rattle.cp_lists.specs.CyclicLists.{Has, Distinct}
use Rattle.cp_lists.proofs.DistinctLists.{Has_at, Exactly-Has}
use Rattle.cp_lists.proofs.FilteredLists.{filter-Distinct}
use Rattle.cp_lists.proofs.MappedLists.{Has-map_on}
use Rattle.cp_lists.proofs.TurnedLists.{turn_to_item, Has-of_turn}
use Rattle.cp_faces.specs.Twins.{twin}
use Rattle.cp_conn.specs.Darts.{start}
use Rattle.cp_pq.specs.declared.part.Part.{Part}
use Rattle.cp_pq.specs.Promises.{IsLeafSet}
use Rattle.cp_pq.specs.Trees.{PQTree, IsWellFormed}
use Rattle.cp_rot.specs.Systems.{darts, vertex_of, list_of}
use Rattle.cp_embed.specs.Arrangements.{IsArrangementOf}
use Rattle.cp_embed.specs.Directions.{edge_of}
use Rattle.cp_embed.specs.Embeddings.{IsEmbedded, IsNeverEmbedded}
use Rattle.cp_embed.specs.ListedBlocks.{ListedGraph, IsListedBlock, MayBeGiven, list_given, touches, edges_at}
use Rattle.cp_embed.specs.Realisations.{IsRealised, edges_round}
use Rattle.cp_embed.specs.Sweeps.{ins_of, outs_of, IsStagePair, IsSweep}
use Rattle.cp_embed.specs.TreePairs.{pairs_of}
use Rattle.cp_embed.specs.TreeSteps.{IsTreeStep, IsRefusedStep, IsStageTree, IsFreshSet}
use Rattle.cp_embed.specs.VertexOrders.{IsTakingOrder, enters, edges_in, edges_out, taken_at, last_of, dart_at}
use Rattle.cp_embed.proofs.BipolarSweeps.{darts_differ, bipolar-IsSweep, upto_more, order_long, order_all, last_stage-IsRealised, none_later, IsRealised-turn}
use Rattle.cp_embed.proofs.DartLists.{range-Distinct}
use Rattle.cp_embed.proofs.EdgeDarts.{dart_at-start, edges_in-ins, edges_out-outs}
use Rattle.cp_embed.proofs.StageSteps.{ins-leaf, outs-fresh, step-IsStageTree, refused_step-none}

-- a range rises
range-rising : (n : ℕ) → IsStrictlyIncreasing (range_with_len 0 n)
range-rising n k lt =
    let long : length (range_with_len 0 n) ≡ n = length-range_with_len 0 n in
    let one : slice_index (range_with_len 0 n) k ≡ 0 + k = get_or-range_with_len 0 n k 0 (omega (arith, lt, long)) in
    let two : slice_index (range_with_len 0 n) (k + 1) ≡ 0 + (k + 1) =
    get_or-range_with_len 0 n (k + 1) 0 (omega (arith, lt, long))
    in
    omega (arith, one, two)

-- the edges of a vertex rise
pub edges_at-rising : (ends : List (ℕ × ℕ)) (v : ℕ) → IsStrictlyIncreasing (edges_at ends v)
edges_at-rising ends v = IsStrictlyIncreasing-filter (touches ends v) (range_with_len 0 (length ends))
    (range-rising (length ends))

-- and are distinct
pub edges_at-Distinct : (ends : List (ℕ × ℕ)) (v : ℕ) → Distinct (edges_at ends v)
edges_at-Distinct ends v = filter-Distinct (touches ends v) (range_with_len 0 (length ends))
    (range-Distinct 0 (length ends))

-- a block, and the order in which its vertices are taken
module _ (block : ListedGraph) (well : IsListedBlock block) (order later : List ℕ) (root : ℕ)
    (ord : IsTakingOrder block.graph order later root) where
  -- the ends of its edges
  abbrev ends : List (ℕ × ℕ)
  ends = block.graph.ends

  -- how many edges there are
  abbrev e : ℕ
  e = length ends

  -- where the darts stand
  abbrev at : ℕ → ℕ
  at = start ends

  -- what is given
  abbrev psi : ℕ → Option (List ℕ)
  psi = list_given block.lists

  -- the first vertex
  abbrev s : ℕ
  s = slice_index order 0

  -- the last vertex
  abbrev t : ℕ
  t = last_of order

  -- the dart of the least edge at the last vertex
  abbrev r : ℕ
  r = dart_at ends t root

  -- where it stands, and its twin
  pub root_dart : (at r ≡ t) × (r < 2 * e) × (edge_of r ≡ root) × (at (twin r) ≡ s)
  root_dart =
      let d = dart_at-start ends well.no_loop t root ord.root_within ord.root_at_last in
      (d.0, d.1, d.2, d.3 ∙ ord.root_to_first)

  -- no dart leads back to its vertex
  pub no_loops : (d : ℕ) → d < 2 * e → at (twin d) ≢ at d
  no_loops = darts_differ block.graph well.within well.no_loop s t order ord.bipolar r root_dart.1 root_dart.3 root_dart.0

  -- there are two vertices at least
  pub order-long : 1 < length order
  order-long = order_long block.graph well.within well.no_loop s t order ord.bipolar r root_dart.1 root_dart.3 root_dart.0

  -- the vertices of the order are those of the graph
  pub order-within : (v : ℕ) → Has v order ↔ (v < block.graph.vertices)
  order-within v = order_all block.graph well.within well.no_loop s t order ord.bipolar r root_dart.1 root_dart.3
      root_dart.0 v

  -- one vertex more is taken
  pub taken_more : (i : ℕ) → i < length order → taken_at order (suc i) ≡ slice_index order i ∷ taken_at order i
  taken_more i lt = upto_more block.graph well.within well.no_loop s t order ord.bipolar r root_dart.1 root_dart.3
      root_dart.0 i lt

  -- the vertices up to a place make a sweep
  pub sweep_to : (i : ℕ) → suc i < length order → IsSweep at e r (taken_at order (suc i))
  sweep_to i lt = bipolar-IsSweep block.graph well.within well.no_loop s t order ord.bipolar r root_dart.1 root_dart.3
      root_dart.0 i lt

  -- a given list has its edges once, and all of them
  pub given_arranges : (v : ℕ) → v < block.graph.vertices → (list : List ℕ) → psi v ≡ Some list
      → IsArrangementOf list (edges_at ends v)
  given_arranges v lt list is = subst (MayBeGiven ends v) is (well.arranged v lt)

  -- a place between the first and the last: what stands there, taken behind y and others
  module _ (j : ℕ) (lt : suc j + 1 < length order) where
    -- the vertex at the place
    abbrev x : ℕ
    x = slice_index order (suc j)

    -- the one before it
    abbrev y : ℕ
    y = slice_index order j

    -- and those before that
    abbrev others : List ℕ
    others = taken_at order j

    -- all of these
    pub taken_is : taken_at order (suc j) ≡ y ∷ others
    taken_is = taken_more j (omega (arith, lt))

    -- they make a sweep
    pub sweep : IsSweep at e r (x ∷ y ∷ others)
    sweep = subst (IsSweep at e r) (taken_more (suc j) (omega (arith, lt)) ∙ ap (λ us. x ∷ us) taken_is)
        (sweep_to (suc j) (omega (arith, lt)))

    -- the vertex is one of the graph
    pub place-within : x < block.graph.vertices
    place-within = (order-within x).0 (Has_at order (suc j) (omega (arith, lt)))

    -- the edges of which it is the later end are its edges to what is taken
    pub ins_are : (k : ℕ) → Has k (edges_in ends later x) ↔ Has k (map edge_of (ins_of at e (y ∷ others) x))
    ins_are = subst (λ us. (k : ℕ) → Has k (edges_in ends later x) ↔ Has k (map edge_of (ins_of at e us x))) taken_is
        (edges_in-ins ends well.no_loop order later ord.bipolar.each_once.each_once ord.later_ends (suc j)
        (omega (arith, lt)))

    -- its other edges are those to what is not taken
    pub outs_are : (k : ℕ) → Has k (edges_out ends later x) ↔ Has k (map edge_of (outs_of at e (y ∷ others) x))
    outs_are = subst (λ us. (k : ℕ) → Has k (edges_out ends later x) ↔ Has k (map edge_of (outs_of at e us x))) taken_is
        (edges_out-outs ends well.no_loop order later ord.bipolar.each_once.each_once ord.later_ends (suc j)
        (omega (arith, lt)))

    -- one edge leads to what is taken
    pub some_in : (k : ℕ) × Has k (edges_in ends later x)
    some_in = (
      edge_of sweep.0.enters.0,
      (ins_are (edge_of sweep.0.enters.0)).1
          (Has-map_on edge_of sweep.0.enters.0 (ins_of at e (y ∷ others) x) sweep.0.enters.1),
    )

    -- and one to what is not
    pub some_out : (k : ℕ) × Has k (edges_out ends later x)
    some_out = (
      edge_of sweep.0.leaves.0,
      (outs_are (edge_of sweep.0.leaves.0)).1
          (Has-map_on edge_of sweep.0.leaves.0 (outs_of at e (y ∷ others) x) sweep.0.leaves.1),
    )

    -- the tree of the stage before
    module _ (old : PQTree) (stage : IsStageTree block r (taken_at order (suc j)) old) where
      -- in the terms of the sweep
      stage_is : IsStageTree block r (y ∷ others) old
      stage_is = subst (λ us. IsStageTree block r us old) taken_is stage

      -- the edges to what is taken are leaves of it
      pub place-IsLeafSet : IsLeafSet (edges_in ends later x) old
      place-IsLeafSet = record {
        rising = IsStrictlyIncreasing-filter (enters later x) (edges_at ends x) (edges_at-rising ends x);
        not_empty = λ none. subst (Has some_in.0) none some_in.1;
        leaves_of = ins-leaf block r no_loops root_dart.1 x y others sweep old stage_is (edges_in ends later x)
            (edges_out ends later x) ins_are outs_are;
      }

      -- the others may come into it
      pub place-IsFreshSet : IsFreshSet (edges_out ends later x) old
      place-IsFreshSet = record {
        not_empty = λ none. subst (Has some_out.0) none some_out.1;
        once = filter-Distinct (λ k. not (enters later x k)) (edges_at ends x) (edges_at-Distinct ends x);
        fresh = outs-fresh block r no_loops root_dart.1 x y others sweep old stage_is (edges_in ends later x)
            (edges_out ends later x) ins_are outs_are;
      }

      -- a step gives the tree of the next stage
      pub place-step : (new : PQTree) (part : Part) → IsWellFormed new
          → IsTreeStep (psi x) x (edges_in ends later x) (edges_out ends later x) old new part
          → IsStageTree block r (taken_at order (suc (suc j))) new
      place-step new part formed step =
          subst (λ us. IsStageTree block r us new) (sym (taken_more (suc j) (omega (arith, lt))
          ∙ ap (λ us. x ∷ us) taken_is))
          (step-IsStageTree block r no_loops root_dart.1 x y others sweep old stage_is (edges_in ends later x)
          (edges_out ends later x) ins_are outs_are new part (psi x) refl
          (λ list is. (given_arranges x place-within list is).distinct) place-within formed step)

      -- where it is refused, the next stage has no pair
      pub place-refused : IsRefusedStep (psi x) (edges_in ends later x) (edges_out ends later x) old → (word : List ℕ)
          (bit : ℕ → Bool) → IsStagePair at e psi r (taken_at order (suc (suc j))) word bit → ⊥
      place-refused never word bit p =
          refused_step-none block r no_loops root_dart.1 x y others sweep old stage_is (edges_in ends later x)
          (edges_out ends later x) ins_are outs_are (psi x) refl
          (λ list is. (given_arranges x place-within list is).distinct) never word bit
          (subst (λ us. IsStagePair at e psi r us word bit) (taken_more (suc j) (omega (arith, lt))
          ∙ ap (λ us. x ∷ us) taken_is) p)

  -- the orders of a realisation have the least edge
  pub root_in : (other : List ℕ) (bit : ℕ → Bool) → IsRealised block.graph psi t other bit → Has root other
  root_in other bit z =
      let made = z.1.of_graph in
      let within : r < darts z.0 = omega (arith, root_dart.1, made.rotation.paired, made.edges_are) in
      let lt_t : t < z.0.vertices =
      subst (λ v. v < z.0.vertices) (made.at_ends r within ∙ root_dart.0) (made.rotation.placed r within)
      in
      Has-of_turn other (edges_round z.0 t) root z.1.order_is
      (subst (λ k. Has k (edges_round z.0 t)) root_dart.2 (Has-map_on edge_of r (list_of z.0 t)
      ((Exactly-Has (darts z.0) (λ d. vertex_of z.0 d == t) (list_of z.0 t) (made.rotation.arranged t lt_t) r).1
      (within, eq-eqb (vertex_of z.0 r) t (made.at_ends r within ∙ root_dart.0)))))

  -- where a stage has no pair, the block is not embedded
  pub none-IsNeverEmbedded : (i : ℕ) → suc i + 1 ≤ length order
      → ((word : List ℕ) (bit : ℕ → Bool) → IsStagePair at e psi r (taken_at order (suc i)) word bit → ⊥)
      → IsNeverEmbedded block t
  none-IsNeverEmbedded i le none other bit z =
      let w = turn_to_item root other (root_in other bit z) in
      none_later block.graph well.within well.no_loop s t order ord.bipolar r root_dart.1 root_dart.3 root_dart.0 psi bit
      (length order - (suc i + 1)) i (omega (arith, le)) (λ word. none word bit) w.0
      (subst (λ k. IsRealised block.graph psi t (k ∷ w.0) bit) (sym root_dart.2)
      (IsRealised-turn block.graph psi t other (root ∷ w.0) bit w.1 z))

  -- the pairs of the last tree are the embeddings
  pub last-exact : (tree : PQTree) → IsStageTree block r (taken_at order (length order - 1)) tree → (word : List ℕ)
      (bit : ℕ → Bool) → pairs_of block.graph.vertices tree word bit ↔ IsEmbedded block t (root ∷ word) bit
  last-exact tree stage word bit =
      let last = last_stage-IsRealised block.graph well.within well.no_loop s t order ord.bipolar r root_dart.1 root_dart.3
      root_dart.0 psi word bit
      in (
        λ p. subst (λ k. IsRealised block.graph psi t (k ∷ word) bit) root_dart.2 (last.0 ((stage.pairs word bit).0 p)),
        λ z. (stage.pairs word bit).1
            (last.1 (subst (λ k. IsRealised block.graph psi t (k ∷ word) bit) (sym root_dart.2) z)),
      )
