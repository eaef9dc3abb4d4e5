-- The tree of the first vertex of the order in which the vertices are taken.
use Rattle.std.proofs.Common.{◌≡◌, ◌≢◌, ℕ, ◌<◌, Bool, true, false, Some, None, List, [], ◌∷◌, ◌++◌, length, replicate, slice_index, reverse, refl, sym, ap, ◌∙◌, subst, append-nil, arith}
use Rattle.std.proofs.lemmas.List.{length-replicate}
use Rattle.std.proofs.lemmas.List.Sorted.{length_permutation}
use Rattle.cp_lists.specs.CyclicLists.{Has, Lacks, Distinct, but}
use Rattle.cp_lists.specs.Turns.{IsTurn}
use Rattle.cp_lists.proofs.DistinctLists.{Has_at, Lacks-from, has_lacks, but-Lacks}
use Rattle.cp_lists.proofs.ReversedLists.{Has-reverse, reverse-Has, Distinct-reverse}
use Rattle.cp_pq.specs.declared.node.Node.{Node}
use Rattle.cp_pq.specs.declared.node.Node.TheVariants.{P}
use Rattle.cp_pq.specs.Bits.{bit_of}
use Rattle.cp_pq.specs.Nodes.{leaves, IsIn}
use Rattle.cp_pq.specs.Promises.{IsStar, IsForced, IsNeverInRow, in_direction}
use Rattle.cp_pq.specs.Trees.{PQTree, IsPair, IsWellFormed}
use Rattle.cp_embed.specs.Arrangements.{IsArrangementOf}
use Rattle.cp_embed.specs.Embeddings.{HasTwoEdges, IsNeverEmbedded}
use Rattle.cp_embed.specs.ListedBlocks.{ListedGraph, IsListedBlock, list_given, edges_at}
use Rattle.cp_conn.specs.Darts.{start}
use Rattle.cp_embed.specs.Sweeps.{IsStagePair, IsSweep}
use Rattle.cp_embed.specs.TreeSteps.{IsStageTree}
use Rattle.cp_embed.specs.VertexOrders.{IsTakingOrder, taken_at, last_of, dart_at}
use Rattle.cp_embed.proofs.Arrangements.{IsArrangementOf-reverse}
use Rattle.cp_embed.proofs.EdgeDarts.{edges_at-Has}
use Rattle.cp_embed.proofs.FirstEdges.{rest-some, root-touches_first}
use Rattle.cp_embed.proofs.FirstTrees.{rest-Distinct, star_vars, star_leaves-are, free_first-IsStageTree, behind-arranges, listed_first-IsStageTree, listed_first-none}
use Rattle.cp_embed.proofs.OneReading.{forced-no_P}
use Rattle.cp_embed.proofs.RowNodes.{IsPermutation-arranges}
use Rattle.cp_embed.proofs.StageTrees.{root_dart, no_loops, order-long, order-within, taken_more, sweep_to, given_arranges, none-IsNeverEmbedded}
use Rattle.cp_embed.proofs.TakenTrees.{some_item}

-- a block, and the order in which its vertices are taken
module _ (block : ListedGraph) (well : IsListedBlock block) (order later : List ℕ) (root : ℕ)
    (ord : IsTakingOrder block.graph order later root) where
  -- the ends of its edges
  abbrev ends : List (ℕ × ℕ)
  ends = block.graph.ends

  -- the first vertex
  abbrev s : ℕ
  s = slice_index order 0

  -- the dart of the least edge at the last vertex
  abbrev r : ℕ
  r = dart_at ends (last_of order) root

  -- how many vertices there are
  abbrev n : ℕ
  n = block.graph.vertices

  -- the first vertex alone is taken
  pub first_taken : taken_at order 1 ≡ s ∷ []
  first_taken = taken_more block well order later root ord 0 (omega (arith, order-long block well order later root ord))

  -- it makes a sweep
  pub first_sweep : IsSweep (start ends) (length ends) r (s ∷ [])
  first_sweep = subst (IsSweep (start ends) (length ends) r) first_taken
      (sweep_to block well order later root ord 0 (omega (arith, order-long block well order later root ord)))

  -- it is a vertex of the graph
  pub first-within : s < n
  first-within = (order-within block well order later root ord s).0
      (Has_at order 0 (omega (arith, order-long block well order later root ord)))

  -- the edges of the star
  pub star-distinct : Distinct (root ∷ but root (edges_at ends s))
  star-distinct = rest-Distinct block well r (no_loops block well order later root ord)
      (root_dart block well order later root ord).1 s first_sweep root (root_dart block well order later root ord).2

  -- a star and its leaves
  module _ (star : PQTree) (is : IsStar root (but root (edges_at ends s)) s n star) (formed : IsWellFormed star) where
    -- the first tree, where no list is given
    pub first_free : list_given block.lists s ≡ None → IsStageTree block r (taken_at order 1) star
    first_free none = subst (λ us. IsStageTree block r us star) (sym first_taken)
        (free_first-IsStageTree block well r (no_loops block well order later root ord)
        (root_dart block well order later root ord).1 s first_sweep root (root_dart block well order later root ord).2
        star is formed none)

    -- how many vars it has
    pub first_vars : s < star.vars
    first_vars = omega (
      arith,
      first-within,
      star_vars block well r (no_loops block well order later root ord)
          (root_dart block well order later root ord).1 s first_sweep root (root_dart block well order later root ord).2
          star is formed,
    )

    -- a given list, and the reverse of what stands behind the root in it
    module _ (list row : List ℕ) (given : list_given block.lists s ≡ Some list)
        (turned : (rest : List ℕ) × (row ≡ reverse rest) × IsTurn list (root ∷ rest)) where
      -- the list has its edges
      arranges : IsArrangementOf list (edges_at ends s)
      arranges = given_arranges block well order later root ord s first-within list given

      -- what stands behind the root arranges the leaves of the star
      rest_is : IsArrangementOf turned.0 (but root (edges_at ends s))
      rest_is = behind-arranges block well r (no_loops block well order later root ord)
          (root_dart block well order later root ord).1 s first_sweep root (root_dart block well order later root ord).2
          star is formed list turned.0 given arranges turned.2 first-within

      -- the row is distinct
      pub row-distinct : Distinct row
      row-distinct = subst Distinct (sym turned.1) (Distinct-reverse turned.0 rest_is.distinct)

      -- it has leaves of the star
      pub row-leaves : (x : ℕ) → Has x row → Has x (leaves star.body)
      row-leaves x h = subst (Has x) (sym (star_leaves-are block well r (no_loops block well order later root ord)
          (root_dart block well order later root ord).1 s first_sweep root (root_dart block well order later root ord).2
          star is formed))
          ((rest_is.items x).0 (reverse-Has x turned.0 (subst (Has x) turned.1 h)))

      -- it is not empty
      pub row-some : HasTwoEdges ends (last_of order) → row ≢ []
      row-some two none =
          let w = some_item (but root (edges_at ends s)) (rest-some block well order later root ord two) in
          subst (Has w.0) (sym turned.1 ∙ none) (Has-reverse w.0 turned.0 ((rest_is.items w.0).1 w.1))

      -- the first tree, where a list is given
      pub first_listed : (new : PQTree) → IsForced row s star new → IsWellFormed new
          → IsStageTree block r (taken_at order 1) new
      first_listed new forced new_formed = subst (λ us. IsStageTree block r us new) (sym first_taken)
          (listed_first-IsStageTree block well r (no_loops block well order later root ord)
          (root_dart block well order later root ord).1 s first_sweep root (root_dart block well order later root ord).2
          star is formed list turned.0 given arranges turned.2 first-within new
          (subst (λ us. IsForced us s star new) turned.1 forced) new_formed)

      -- where it is refused, the block is not embedded
      pub first_refused : IsNeverInRow row star → IsNeverEmbedded block (last_of order)
      first_refused never = none-IsNeverEmbedded block well order later root ord 0
          (omega (arith, order-long block well order later root ord))
          (λ word bit p. listed_first-none block well r (no_loops block well order later root ord)
          (root_dart block well order later root ord).1 s first_sweep root (root_dart block well order later root ord).2
          star is formed list turned.0 given arranges turned.2 first-within
          (subst (λ us. IsNeverInRow us star) turned.1 never) word bit
          (subst (λ us. IsStagePair (start ends) (length ends) (list_given block.lists) r us word bit) first_taken p))

      -- where a list is given, no P-node is in the first tree
      pub first-no_P : (new : PQTree) → IsForced row s star new → IsWellFormed new → (owner : ℕ) (kids : List Node)
          → IsIn (P owner kids) new.body → ⊥
      first-no_P new forced new_formed = forced-no_P row s star new forced new_formed lacks size pair
        where
          -- the edges of the star
          rest : List ℕ
          rest = but root (edges_at ends s)

          row_is : IsArrangementOf row rest
          row_is = subst (λ us. IsArrangementOf us rest) (sym turned.1) (IsArrangementOf-reverse turned.0 rest rest_is)

          lacks : Lacks star.root row
          lacks = subst (λ k. Lacks k row) (sym (ap (λ (t : PQTree). t.root) is.tree_is))
              (Lacks-from root row (λ h. has_lacks root rest ((row_is.items root).0 h)
              (but-Lacks root (edges_at ends s))))

          size : length (leaves star.body) ≡ length row
          size = ap length (star_leaves-are block well r (no_loops block well order later root ord)
              (root_dart block well order later root ord).1 s first_sweep root
              (root_dart block well order later root ord).2 star is formed)
              ∙ sym (length_permutation rest row ((IsPermutation-arranges rest row star-distinct.1).1 row_is))

          directed_is : (b : Bool) → IsArrangementOf (in_direction b row) rest
          directed_is false = row_is
          directed_is true = IsArrangementOf-reverse row rest row_is

          pair : (order : List ℕ) × (bits : List Bool) × IsPair new order bits
          pair =
              let bits : List Bool = replicate n false in
              let there : List ℕ = in_direction (bit_of bits s) row in
              let more = forced.keeps (root ∷ there) bits
              ((is.pairs (root ∷ there) bits).1 (
                length-replicate n false,
                (
                  there,
                  refl,
                  (IsPermutation-arranges rest there star-distinct.1).1 (directed_is (bit_of bits s)),
                ),
              ))
              (root ∷ [], [], ap (λ us. root ∷ us) (sym (append-nil there))) in
              (root ∷ there, bits ++ more.0, more.1)

  -- a given list of the first vertex has the root
  pub root-listed : (list : List ℕ) → list_given block.lists s ≡ Some list → Has root list
  root-listed list given =
      ((given_arranges block well order later root ord s first-within list given).items root).1
      ((edges_at-Has ends s root).1 (ord.root_within, root-touches_first block well order later root ord))
