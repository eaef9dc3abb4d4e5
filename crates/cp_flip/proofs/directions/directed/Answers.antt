-- The list of the vertex is that of the forced tree.
use Rattle.std.proofs.Common.{◌≡◌, ℕ, ◌<◌, List, ◌∷◌, length, slice_index, sym, ap, ◌∙◌, subst}
use Rattle.std.proofs.lemmas.Result.{err_from_is_err_and}
use Rattle.cp_lists.specs.CyclicLists.{Has}
use Rattle.cp_lists.specs.Turns.{IsTurn}
use Rattle.cp_pq.specs.Trees.{PQTree}
use Rattle.cp_embed.specs.Embeddings.{HasTwoEdges, IsEmbeddingTree, IsLeastEdge}
use Rattle.cp_embed.specs.ListedBlocks.{ListedGraph, edges_at}
use Rattle.cp_flip.specs.DirectedBlocks.{IsDirectedTree}
use Rattle.cp_flip.proofs.DirectedTrees.{first-edge, first-in-list, first-root, forced-IsDirectedTree, free-IsDirectedTree, never-directed, refused-never, row-Distinct, row-leaves, row-some}
use Rattle.cp_flip.proofs.directions.directed.Goals as goal

-- the list turned to the root, in the code's own terms
turn_own : (ends : List (ℕ × ℕ)) (t root : ℕ) (edges list items row slice : List ℕ) → HasTwoEdges ends t
    → IsLeastEdge ends t root → edges ≡ edges_at ends t → items ≡ list → slice ≡ row
    → IsTurn items (slice_index edges 0 ∷ row) → IsTurn list (root ∷ slice)
turn_own ends t root edges list items row slice two least edges_are items_are slice_is turn =
    subst (λ xs. IsTurn list (root ∷ xs)) (sym slice_is)
    (subst (λ x. IsTurn list (x ∷ row)) (ap (λ es. slice_index es 0) edges_are ∙ first-root ends t root two least)
    (subst (λ xs. IsTurn xs (slice_index edges 0 ∷ row)) items_are turn))

-- the tree, in the embedding's own terms
tree_own : (block own : ListedGraph) (t v : ℕ) (mid old new : PQTree) → own ≡ block → v ≡ t → mid ≡ old
    → IsDirectedTree block t mid new → IsDirectedTree own v old new
tree_own block own t v mid old new is_block is_vertex is_tree d =
    subst (λ b. IsDirectedTree b v old new) (sym is_block)
    (subst (λ u. IsDirectedTree block u old new) (sym is_vertex)
    (subst (λ m. IsDirectedTree block t m new) is_tree d))

pub bounds-edges_at-0 : goal.bounds-edges_at-0
bounds-edges_at-0 g c = subst (λ us. 0 < length us) (sym c.edges_at.ensures.value)
    (first-edge c.args.block.now.graph.ends c.args.t c.requires.two_edges)

pub returns-in_err-embedded-clause-refused : goal.returns-in_err-embedded-clause-refused
returns-in_err-embedded-clause-refused g c =
    let p = err_from_is_err_and c.from_residual.result c.from_residual.ensures.1 in
    rw (p.1, p.2) (λ fault. never-directed c.args.block.now c.args.t (c.in_err-embedded.ensures.refused fault))

pub invariant_of-result : goal.invariant_of-result
invariant_of-result g c =
    let tree = c.in_ok-tree.ensures ∙ c.tree.ensures.value in
    tree_own c.args.block.now c.in_ok-embedded.embedded.block c.args.t c.in_ok-embedded.embedded.vertex
    (g.T.OrderTree.tree c.in_ok-tree.tree) c.in_ok-embedded.embedded.tree (g.T.OrderTree.tree c.in_ok-tree.tree)
    c.in_ok-embedded.ensures.block c.in_ok-embedded.ensures.vertex tree
    (free-IsDirectedTree c.args.block.now c.edges_at.ensures.block c.args.t c.requires.within
    (g.T.OrderTree.tree c.in_ok-tree.tree)
    (subst (IsEmbeddingTree c.args.block.now c.args.t) (sym tree) c.in_ok-embedded.ensures.tree) c.in-None.ensures)

pub returns-in-None-clause-tree : goal.returns-in-None-clause-tree
returns-in-None-clause-tree g c =
    let tree = c.in_ok-tree.ensures ∙ c.tree.ensures.value in
    subst (λ m. IsDirectedTree c.args.block.now c.args.t m (g.T.OrderTree.tree c.in_ok-tree.tree)) tree
    (free-IsDirectedTree c.args.block.now c.edges_at.ensures.block c.args.t c.requires.within
    (g.T.OrderTree.tree c.in_ok-tree.tree)
    (subst (IsEmbeddingTree c.args.block.now c.args.t) (sym tree) c.in_ok-embedded.ensures.tree) c.in-None.ensures)

pub rest_behind-requires : goal.rest_behind-requires
rest_behind-requires g c =
    subst (Has (slice_index c.edges_at.result.now 0)) (sym c.items.ensures)
    (subst (λ es. Has (slice_index es 0) c.in-Some.list.now) (sym c.edges_at.ensures.value)
    (first-in-list c.args.block.now c.edges_at.ensures.block c.args.t c.requires.within c.in-Some.list.now
    c.in-Some.ensures c.requires.two_edges))

pub forced-requires-clause-not_empty : goal.forced-requires-clause-not_empty
forced-requires-clause-not_empty g c =
    let tree = c.in_ok-tree.ensures ∙ c.tree.ensures.value in
    let own = g.T.OrderTree.tree c.in_ok-tree.tree in
    let is : IsEmbeddingTree c.args.block.now c.args.t own =
    subst (IsEmbeddingTree c.args.block.now c.args.t) (sym tree) c.in_ok-embedded.ensures.tree in
    let turn : IsTurn c.in-Some.list.now (own.root ∷ c.as_slice.result.now) =
    turn_own c.args.block.now.graph.ends c.args.t own.root c.edges_at.result.now c.in-Some.list.now c.items.result.now
    c.in_ok-row-in-Some.row.items c.as_slice.result.now c.requires.two_edges is.root c.edges_at.ensures.value
    c.items.ensures c.as_slice.ensures.value c.in_ok-row-in-Some.ensures in
    row-some c.args.block.now c.edges_at.ensures.block c.args.t c.requires.within own is c.in-Some.list.now
    c.as_slice.result.now c.in-Some.ensures turn c.requires.two_edges

pub forced-requires-clause-distinct : goal.forced-requires-clause-distinct
forced-requires-clause-distinct g c =
    let tree = c.in_ok-tree.ensures ∙ c.tree.ensures.value in
    let own = g.T.OrderTree.tree c.in_ok-tree.tree in
    let is : IsEmbeddingTree c.args.block.now c.args.t own =
    subst (IsEmbeddingTree c.args.block.now c.args.t) (sym tree) c.in_ok-embedded.ensures.tree in
    let turn : IsTurn c.in-Some.list.now (own.root ∷ c.as_slice.result.now) =
    turn_own c.args.block.now.graph.ends c.args.t own.root c.edges_at.result.now c.in-Some.list.now c.items.result.now
    c.in_ok-row-in-Some.row.items c.as_slice.result.now c.requires.two_edges is.root c.edges_at.ensures.value
    c.items.ensures c.as_slice.ensures.value c.in_ok-row-in-Some.ensures in
    row-Distinct c.args.block.now c.edges_at.ensures.block c.args.t c.requires.within own is c.in-Some.list.now
    c.as_slice.result.now c.in-Some.ensures turn

pub forced-requires-clause-leaves_of : goal.forced-requires-clause-leaves_of
forced-requires-clause-leaves_of g c =
    let tree = c.in_ok-tree.ensures ∙ c.tree.ensures.value in
    let own = g.T.OrderTree.tree c.in_ok-tree.tree in
    let is : IsEmbeddingTree c.args.block.now c.args.t own =
    subst (IsEmbeddingTree c.args.block.now c.args.t) (sym tree) c.in_ok-embedded.ensures.tree in
    let turn : IsTurn c.in-Some.list.now (own.root ∷ c.as_slice.result.now) =
    turn_own c.args.block.now.graph.ends c.args.t own.root c.edges_at.result.now c.in-Some.list.now c.items.result.now
    c.in_ok-row-in-Some.row.items c.as_slice.result.now c.requires.two_edges is.root c.edges_at.ensures.value
    c.items.ensures c.as_slice.ensures.value c.in_ok-row-in-Some.ensures in
    row-leaves c.args.block.now c.edges_at.ensures.block c.args.t c.requires.within own is c.in-Some.list.now
    c.as_slice.result.now c.in-Some.ensures turn

pub returns-in_err-tree-in-Some-clause-refused : goal.returns-in_err-tree-in-Some-clause-refused
returns-in_err-tree-in-Some-clause-refused g c =
    let tree = c.in_ok-tree.ensures ∙ c.tree.ensures.value in
    let own = g.T.OrderTree.tree c.in_ok-tree.tree in
    let is : IsEmbeddingTree c.args.block.now c.args.t own =
    subst (IsEmbeddingTree c.args.block.now c.args.t) (sym tree) c.in_ok-embedded.ensures.tree in
    let turn : IsTurn c.in-Some.list.now (own.root ∷ c.as_slice.result.now) =
    turn_own c.args.block.now.graph.ends c.args.t own.root c.edges_at.result.now c.in-Some.list.now c.items.result.now
    c.in_ok-row-in-Some.row.items c.as_slice.result.now c.requires.two_edges is.root c.edges_at.ensures.value
    c.items.ensures c.as_slice.ensures.value c.in_ok-row-in-Some.ensures in
    let p = err_from_is_err_and c.from_residual-in_err-tree-in-Some.result
    c.from_residual-in_err-tree-in-Some.ensures.1 in
    rw (p.1, p.2) (λ fault. refused-never c.args.block.now c.edges_at.ensures.block c.args.t c.requires.within own is c.in-Some.list.now
    c.as_slice.result.now c.in-Some.ensures turn
    (c.in_err-tree-in-Some.ensures.refused fault))

pub invariant_of-result-in-Some : goal.invariant_of-result-in-Some
invariant_of-result-in-Some g c =
    let tree = c.in_ok-tree.ensures ∙ c.tree.ensures.value in
    let own = g.T.OrderTree.tree c.in_ok-tree.tree in
    let is : IsEmbeddingTree c.args.block.now c.args.t own =
    subst (IsEmbeddingTree c.args.block.now c.args.t) (sym tree) c.in_ok-embedded.ensures.tree in
    let turn : IsTurn c.in-Some.list.now (own.root ∷ c.as_slice.result.now) =
    turn_own c.args.block.now.graph.ends c.args.t own.root c.edges_at.result.now c.in-Some.list.now c.items.result.now
    c.in_ok-row-in-Some.row.items c.as_slice.result.now c.requires.two_edges is.root c.edges_at.ensures.value
    c.items.ensures c.as_slice.ensures.value c.in_ok-row-in-Some.ensures in
    tree_own c.args.block.now c.in_ok-embedded.embedded.block c.args.t c.in_ok-embedded.embedded.vertex own
    c.in_ok-embedded.embedded.tree (g.T.OrderTree.tree c.in_ok-tree-in-Some.tree)
    c.in_ok-embedded.ensures.block c.in_ok-embedded.ensures.vertex tree
    (forced-IsDirectedTree c.args.block.now c.edges_at.ensures.block c.args.t c.requires.within own is c.in-Some.list.now
    c.as_slice.result.now c.in-Some.ensures turn
    (g.T.OrderTree.tree c.in_ok-tree-in-Some.tree) c.in_ok-tree-in-Some.ensures.forced
    c.in_ok-tree-in-Some.ensures.some)

pub returns-in_ok-tree-in-Some-clause-tree : goal.returns-in_ok-tree-in-Some-clause-tree
returns-in_ok-tree-in-Some-clause-tree g c =
    let tree = c.in_ok-tree.ensures ∙ c.tree.ensures.value in
    let own = g.T.OrderTree.tree c.in_ok-tree.tree in
    let is : IsEmbeddingTree c.args.block.now c.args.t own =
    subst (IsEmbeddingTree c.args.block.now c.args.t) (sym tree) c.in_ok-embedded.ensures.tree in
    let turn : IsTurn c.in-Some.list.now (own.root ∷ c.as_slice.result.now) =
    turn_own c.args.block.now.graph.ends c.args.t own.root c.edges_at.result.now c.in-Some.list.now c.items.result.now
    c.in_ok-row-in-Some.row.items c.as_slice.result.now c.requires.two_edges is.root c.edges_at.ensures.value
    c.items.ensures c.as_slice.ensures.value c.in_ok-row-in-Some.ensures in
    subst (λ m. IsDirectedTree c.args.block.now c.args.t m (g.T.OrderTree.tree c.in_ok-tree-in-Some.tree)) tree
    (forced-IsDirectedTree c.args.block.now c.edges_at.ensures.block c.args.t c.requires.within own is c.in-Some.list.now
    c.as_slice.result.now c.in-Some.ensures turn
    (g.T.OrderTree.tree c.in_ok-tree-in-Some.tree) c.in_ok-tree-in-Some.ensures.forced
    c.in_ok-tree-in-Some.ensures.some)
