-- The star of the other edges of the first vertex, forced to its given list where there is one.
use Rattle.std.proofs.Common.{◌≡◌, ℕ, ◌<◌, Some, None, List, ◌∷◌, length, slice_index, get_or, reverse, sym, ap, ◌∙◌, subst, arith}
use Rattle.std.proofs.lemmas.List.{get_or_read}
use Rattle.std.proofs.lemmas.Result.{err_from_is_err_and}
use Rattle.cp_lists.specs.CyclicLists.{Distinct, but}
use Rattle.cp_lists.specs.Turns.{IsTurn}
use Rattle.cp_base.specs.Graphs.{PlainGraph}
use Rattle.cp_pq.specs.Promises.{IsStar, IsForced}
use Rattle.cp_pq.specs.Trees.{PQTree}
use Rattle.cp_embed.specs.ListedBlocks.{edges_at, list_given}
use Rattle.cp_embed.proofs.FirstEdges.{rest-some}
use Rattle.cp_embed.proofs.FirstOrders.{star-distinct, first_free, first_vars, first-no_P, row-distinct, row-leaves, row-some, first_listed, first_refused, root-listed}
use Rattle.cp_embed.proofs.FreeOwners.{owner-HasFreeOwners}
use Rattle.cp_embed.proofs.OwnedTrees.{star-HaveOwner, kept-HaveOwner}
use Rattle.cp_embed.proofs.StageTrees.{order-long}
use Rattle.cp_embed.proofs.first_tree.first_tree.Goals as goal

-- what is read at a place stands there
vertex_is : (xs : List ℕ) (i v : ℕ) → i < length xs → v ≡ get_or xs i v → v ≡ slice_index xs i
vertex_is xs i v lt is = get_or_read xs i v lt is 0

-- the star in the terms of the order
star_own : (root : ℕ) (us rest : List ℕ) (v s m n : ℕ) (star : PQTree) → us ≡ rest → v ≡ s → m ≡ n
    → IsStar root us v m star → IsStar root rest s n star
star_own root us rest v s m n star us_is v_is m_is is =
    subst (λ k. IsStar root rest s k star) m_is (subst (λ u. IsStar root rest u m star) v_is
    (subst (λ ws. IsStar root ws v m star) us_is is))

-- what stands behind the root, in the terms of the slice
rest_own : (list : List ℕ) (root : ℕ) (back row : List ℕ) → row ≡ back
    → ((rest : List ℕ) × (back ≡ reverse rest) × IsTurn list (root ∷ rest))
    → (rest : List ℕ) × (row ≡ reverse rest) × IsTurn list (root ∷ rest)
rest_own list root back row same w = (w.0, same ∙ w.1, w.2)

pub star-requires-clause-not_empty : goal.star-requires-clause-not_empty
star-requires-clause-not_empty g c =
    let first_is : c.index-first.result.now ≡ slice_index c.args.order.now.vertices.items 0 =
    vertex_is c.args.order.now.vertices.items 0 c.index-first.result.now
    (omega (arith, order-long c.args.block.now c.edges_at.ensures.block c.args.order.now.vertices.items c.args.order.now.later.items c.args.order.now.root c.requires.order))
    c.index-first.ensures in
    let rest_is : c.as_slice.result.now ≡ but c.args.order.now.root (edges_at c.args.block.now.graph.ends (slice_index c.args.order.now.vertices.items 0)) =
    c.as_slice.ensures.value ∙ c.in_ok-others.ensures ∙ ap (but c.args.order.now.root) c.edges_at.ensures.value
    ∙ ap (λ v. but c.args.order.now.root (edges_at c.args.block.now.graph.ends v)) first_is in
    λ none. rest-some c.args.block.now c.edges_at.ensures.block c.args.order.now.vertices.items c.args.order.now.later.items c.args.order.now.root c.requires.order c.requires.two_edges (sym rest_is ∙ none)

pub star-requires-clause-distinct : goal.star-requires-clause-distinct
star-requires-clause-distinct g c =
    let first_is : c.index-first.result.now ≡ slice_index c.args.order.now.vertices.items 0 =
    vertex_is c.args.order.now.vertices.items 0 c.index-first.result.now
    (omega (arith, order-long c.args.block.now c.edges_at.ensures.block c.args.order.now.vertices.items c.args.order.now.later.items c.args.order.now.root c.requires.order))
    c.index-first.ensures in
    let rest_is : c.as_slice.result.now ≡ but c.args.order.now.root (edges_at c.args.block.now.graph.ends (slice_index c.args.order.now.vertices.items 0)) =
    c.as_slice.ensures.value ∙ c.in_ok-others.ensures ∙ ap (but c.args.order.now.root) c.edges_at.ensures.value
    ∙ ap (λ v. but c.args.order.now.root (edges_at c.args.block.now.graph.ends v)) first_is in
    subst (λ us. Distinct (c.args.order.now.root ∷ us)) (sym rest_is) (star-distinct c.args.block.now c.edges_at.ensures.block c.args.order.now.vertices.items c.args.order.now.later.items c.args.order.now.root c.requires.order)

pub returns-in-None-clause-stage : goal.returns-in-None-clause-stage
returns-in-None-clause-stage g c =
    let first_is : c.index-first.result.now ≡ slice_index c.args.order.now.vertices.items 0 =
    vertex_is c.args.order.now.vertices.items 0 c.index-first.result.now
    (omega (arith, order-long c.args.block.now c.edges_at.ensures.block c.args.order.now.vertices.items c.args.order.now.later.items c.args.order.now.root c.requires.order))
    c.index-first.ensures in
    let rest_is : c.as_slice.result.now ≡ but c.args.order.now.root (edges_at c.args.block.now.graph.ends (slice_index c.args.order.now.vertices.items 0)) =
    c.as_slice.ensures.value ∙ c.in_ok-others.ensures ∙ ap (but c.args.order.now.root) c.edges_at.ensures.value
    ∙ ap (λ v. but c.args.order.now.root (edges_at c.args.block.now.graph.ends v)) first_is in
    let star_is : IsStar c.args.order.now.root (but c.args.order.now.root (edges_at c.args.block.now.graph.ends (slice_index c.args.order.now.vertices.items 0))) (slice_index c.args.order.now.vertices.items 0) c.args.block.now.graph.vertices
    (g.T.OrderTree.tree c.in_ok-star.star) =
    star_own c.args.order.now.root c.as_slice.result.now (but c.args.order.now.root (edges_at c.args.block.now.graph.ends (slice_index c.args.order.now.vertices.items 0))) c.index-first.result.now (slice_index c.args.order.now.vertices.items 0)
    c.vertices.result c.args.block.now.graph.vertices (g.T.OrderTree.tree c.in_ok-star.star) rest_is first_is
    (c.vertices.ensures.value ∙ ap (λ (k : PlainGraph). k.vertices) c.graph.ensures.value) c.in_ok-star.ensures.star in
    first_free c.args.block.now c.edges_at.ensures.block c.args.order.now.vertices.items c.args.order.now.later.items c.args.order.now.root c.requires.order
    (g.T.OrderTree.tree c.in_ok-star.star) star_is c.in_ok-star.ensures.well_formed
    (subst (λ v. list_given c.args.block.now.lists v ≡ None) first_is c.in-None.ensures)

pub rest_reversed-requires : goal.rest_reversed-requires
rest_reversed-requires g c =
    let first_is : c.index-first.result.now ≡ slice_index c.args.order.now.vertices.items 0 =
    vertex_is c.args.order.now.vertices.items 0 c.index-first.result.now
    (omega (arith, order-long c.args.block.now c.edges_at.ensures.block c.args.order.now.vertices.items c.args.order.now.later.items c.args.order.now.root c.requires.order))
    c.index-first.ensures in
    root-listed c.args.block.now c.edges_at.ensures.block c.args.order.now.vertices.items c.args.order.now.later.items c.args.order.now.root c.requires.order c.items.result.now
    (subst (λ v. list_given c.args.block.now.lists v ≡ Some c.in-Some.list.now) first_is c.in-Some.ensures ∙ ap Some (sym c.items.ensures))

pub forced-requires-clause-not_empty : goal.forced-requires-clause-not_empty
forced-requires-clause-not_empty g c =
    let first_is : c.index-first.result.now ≡ slice_index c.args.order.now.vertices.items 0 =
    vertex_is c.args.order.now.vertices.items 0 c.index-first.result.now
    (omega (arith, order-long c.args.block.now c.edges_at.ensures.block c.args.order.now.vertices.items c.args.order.now.later.items c.args.order.now.root c.requires.order))
    c.index-first.ensures in
    let rest_is : c.as_slice.result.now ≡ but c.args.order.now.root (edges_at c.args.block.now.graph.ends (slice_index c.args.order.now.vertices.items 0)) =
    c.as_slice.ensures.value ∙ c.in_ok-others.ensures ∙ ap (but c.args.order.now.root) c.edges_at.ensures.value
    ∙ ap (λ v. but c.args.order.now.root (edges_at c.args.block.now.graph.ends v)) first_is in
    let star_is : IsStar c.args.order.now.root (but c.args.order.now.root (edges_at c.args.block.now.graph.ends (slice_index c.args.order.now.vertices.items 0))) (slice_index c.args.order.now.vertices.items 0) c.args.block.now.graph.vertices
    (g.T.OrderTree.tree c.in_ok-star.star) =
    star_own c.args.order.now.root c.as_slice.result.now (but c.args.order.now.root (edges_at c.args.block.now.graph.ends (slice_index c.args.order.now.vertices.items 0))) c.index-first.result.now (slice_index c.args.order.now.vertices.items 0)
    c.vertices.result c.args.block.now.graph.vertices (g.T.OrderTree.tree c.in_ok-star.star) rest_is first_is
    (c.vertices.ensures.value ∙ ap (λ (k : PlainGraph). k.vertices) c.graph.ensures.value) c.in_ok-star.ensures.star in
    row-some c.args.block.now c.edges_at.ensures.block c.args.order.now.vertices.items c.args.order.now.later.items c.args.order.now.root c.requires.order
    (g.T.OrderTree.tree c.in_ok-star.star) star_is c.in_ok-star.ensures.well_formed c.items.result.now c.as_slice-2.result.now
    (subst (λ v. list_given c.args.block.now.lists v ≡ Some c.in-Some.list.now) first_is c.in-Some.ensures ∙ ap Some (sym c.items.ensures))
    (rest_own c.items.result.now c.args.order.now.root c.in_ok-back.back.items c.as_slice-2.result.now c.as_slice-2.ensures.value
    c.in_ok-back.ensures) c.requires.two_edges

pub forced-requires-clause-distinct : goal.forced-requires-clause-distinct
forced-requires-clause-distinct g c =
    let first_is : c.index-first.result.now ≡ slice_index c.args.order.now.vertices.items 0 =
    vertex_is c.args.order.now.vertices.items 0 c.index-first.result.now
    (omega (arith, order-long c.args.block.now c.edges_at.ensures.block c.args.order.now.vertices.items c.args.order.now.later.items c.args.order.now.root c.requires.order))
    c.index-first.ensures in
    let rest_is : c.as_slice.result.now ≡ but c.args.order.now.root (edges_at c.args.block.now.graph.ends (slice_index c.args.order.now.vertices.items 0)) =
    c.as_slice.ensures.value ∙ c.in_ok-others.ensures ∙ ap (but c.args.order.now.root) c.edges_at.ensures.value
    ∙ ap (λ v. but c.args.order.now.root (edges_at c.args.block.now.graph.ends v)) first_is in
    let star_is : IsStar c.args.order.now.root (but c.args.order.now.root (edges_at c.args.block.now.graph.ends (slice_index c.args.order.now.vertices.items 0))) (slice_index c.args.order.now.vertices.items 0) c.args.block.now.graph.vertices
    (g.T.OrderTree.tree c.in_ok-star.star) =
    star_own c.args.order.now.root c.as_slice.result.now (but c.args.order.now.root (edges_at c.args.block.now.graph.ends (slice_index c.args.order.now.vertices.items 0))) c.index-first.result.now (slice_index c.args.order.now.vertices.items 0)
    c.vertices.result c.args.block.now.graph.vertices (g.T.OrderTree.tree c.in_ok-star.star) rest_is first_is
    (c.vertices.ensures.value ∙ ap (λ (k : PlainGraph). k.vertices) c.graph.ensures.value) c.in_ok-star.ensures.star in
    row-distinct c.args.block.now c.edges_at.ensures.block c.args.order.now.vertices.items c.args.order.now.later.items c.args.order.now.root c.requires.order
    (g.T.OrderTree.tree c.in_ok-star.star) star_is c.in_ok-star.ensures.well_formed c.items.result.now c.as_slice-2.result.now
    (subst (λ v. list_given c.args.block.now.lists v ≡ Some c.in-Some.list.now) first_is c.in-Some.ensures ∙ ap Some (sym c.items.ensures))
    (rest_own c.items.result.now c.args.order.now.root c.in_ok-back.back.items c.as_slice-2.result.now c.as_slice-2.ensures.value
    c.in_ok-back.ensures)

pub forced-requires-clause-leaves_of : goal.forced-requires-clause-leaves_of
forced-requires-clause-leaves_of g c =
    let first_is : c.index-first.result.now ≡ slice_index c.args.order.now.vertices.items 0 =
    vertex_is c.args.order.now.vertices.items 0 c.index-first.result.now
    (omega (arith, order-long c.args.block.now c.edges_at.ensures.block c.args.order.now.vertices.items c.args.order.now.later.items c.args.order.now.root c.requires.order))
    c.index-first.ensures in
    let rest_is : c.as_slice.result.now ≡ but c.args.order.now.root (edges_at c.args.block.now.graph.ends (slice_index c.args.order.now.vertices.items 0)) =
    c.as_slice.ensures.value ∙ c.in_ok-others.ensures ∙ ap (but c.args.order.now.root) c.edges_at.ensures.value
    ∙ ap (λ v. but c.args.order.now.root (edges_at c.args.block.now.graph.ends v)) first_is in
    let star_is : IsStar c.args.order.now.root (but c.args.order.now.root (edges_at c.args.block.now.graph.ends (slice_index c.args.order.now.vertices.items 0))) (slice_index c.args.order.now.vertices.items 0) c.args.block.now.graph.vertices
    (g.T.OrderTree.tree c.in_ok-star.star) =
    star_own c.args.order.now.root c.as_slice.result.now (but c.args.order.now.root (edges_at c.args.block.now.graph.ends (slice_index c.args.order.now.vertices.items 0))) c.index-first.result.now (slice_index c.args.order.now.vertices.items 0)
    c.vertices.result c.args.block.now.graph.vertices (g.T.OrderTree.tree c.in_ok-star.star) rest_is first_is
    (c.vertices.ensures.value ∙ ap (λ (k : PlainGraph). k.vertices) c.graph.ensures.value) c.in_ok-star.ensures.star in
    row-leaves c.args.block.now c.edges_at.ensures.block c.args.order.now.vertices.items c.args.order.now.later.items c.args.order.now.root c.requires.order
    (g.T.OrderTree.tree c.in_ok-star.star) star_is c.in_ok-star.ensures.well_formed c.items.result.now c.as_slice-2.result.now
    (subst (λ v. list_given c.args.block.now.lists v ≡ Some c.in-Some.list.now) first_is c.in-Some.ensures ∙ ap Some (sym c.items.ensures))
    (rest_own c.items.result.now c.args.order.now.root c.in_ok-back.back.items c.as_slice-2.result.now c.as_slice-2.ensures.value
    c.in_ok-back.ensures)

pub forced-requires-clause-var_within : goal.forced-requires-clause-var_within
forced-requires-clause-var_within g c =
    let first_is : c.index-first.result.now ≡ slice_index c.args.order.now.vertices.items 0 =
    vertex_is c.args.order.now.vertices.items 0 c.index-first.result.now
    (omega (arith, order-long c.args.block.now c.edges_at.ensures.block c.args.order.now.vertices.items c.args.order.now.later.items c.args.order.now.root c.requires.order))
    c.index-first.ensures in
    let rest_is : c.as_slice.result.now ≡ but c.args.order.now.root (edges_at c.args.block.now.graph.ends (slice_index c.args.order.now.vertices.items 0)) =
    c.as_slice.ensures.value ∙ c.in_ok-others.ensures ∙ ap (but c.args.order.now.root) c.edges_at.ensures.value
    ∙ ap (λ v. but c.args.order.now.root (edges_at c.args.block.now.graph.ends v)) first_is in
    let star_is : IsStar c.args.order.now.root (but c.args.order.now.root (edges_at c.args.block.now.graph.ends (slice_index c.args.order.now.vertices.items 0))) (slice_index c.args.order.now.vertices.items 0) c.args.block.now.graph.vertices
    (g.T.OrderTree.tree c.in_ok-star.star) =
    star_own c.args.order.now.root c.as_slice.result.now (but c.args.order.now.root (edges_at c.args.block.now.graph.ends (slice_index c.args.order.now.vertices.items 0))) c.index-first.result.now (slice_index c.args.order.now.vertices.items 0)
    c.vertices.result c.args.block.now.graph.vertices (g.T.OrderTree.tree c.in_ok-star.star) rest_is first_is
    (c.vertices.ensures.value ∙ ap (λ (k : PlainGraph). k.vertices) c.graph.ensures.value) c.in_ok-star.ensures.star in
    subst (λ v. v < (g.T.OrderTree.tree c.in_ok-star.star).vars) (sym first_is) (first_vars c.args.block.now c.edges_at.ensures.block c.args.order.now.vertices.items c.args.order.now.later.items c.args.order.now.root c.requires.order
    (g.T.OrderTree.tree c.in_ok-star.star) star_is c.in_ok-star.ensures.well_formed)

pub returns-in_err-new-clause-refused : goal.returns-in_err-new-clause-refused
returns-in_err-new-clause-refused g c =
    let first_is : c.index-first.result.now ≡ slice_index c.args.order.now.vertices.items 0 =
    vertex_is c.args.order.now.vertices.items 0 c.index-first.result.now
    (omega (arith, order-long c.args.block.now c.edges_at.ensures.block c.args.order.now.vertices.items c.args.order.now.later.items c.args.order.now.root c.requires.order))
    c.index-first.ensures in
    let rest_is : c.as_slice.result.now ≡ but c.args.order.now.root (edges_at c.args.block.now.graph.ends (slice_index c.args.order.now.vertices.items 0)) =
    c.as_slice.ensures.value ∙ c.in_ok-others.ensures ∙ ap (but c.args.order.now.root) c.edges_at.ensures.value
    ∙ ap (λ v. but c.args.order.now.root (edges_at c.args.block.now.graph.ends v)) first_is in
    let star_is : IsStar c.args.order.now.root (but c.args.order.now.root (edges_at c.args.block.now.graph.ends (slice_index c.args.order.now.vertices.items 0))) (slice_index c.args.order.now.vertices.items 0) c.args.block.now.graph.vertices
    (g.T.OrderTree.tree c.in_ok-star.star) =
    star_own c.args.order.now.root c.as_slice.result.now (but c.args.order.now.root (edges_at c.args.block.now.graph.ends (slice_index c.args.order.now.vertices.items 0))) c.index-first.result.now (slice_index c.args.order.now.vertices.items 0)
    c.vertices.result c.args.block.now.graph.vertices (g.T.OrderTree.tree c.in_ok-star.star) rest_is first_is
    (c.vertices.ensures.value ∙ ap (λ (k : PlainGraph). k.vertices) c.graph.ensures.value) c.in_ok-star.ensures.star in
    let p = err_from_is_err_and c.from_residual-in_err-new.result c.from_residual-in_err-new.ensures.1 in
    rw (p.1, p.2) (λ fault. first_refused c.args.block.now c.edges_at.ensures.block c.args.order.now.vertices.items c.args.order.now.later.items c.args.order.now.root c.requires.order
    (g.T.OrderTree.tree c.in_ok-star.star) star_is c.in_ok-star.ensures.well_formed c.items.result.now c.as_slice-2.result.now
    (subst (λ v. list_given c.args.block.now.lists v ≡ Some c.in-Some.list.now) first_is c.in-Some.ensures ∙ ap Some (sym c.items.ensures))
    (rest_own c.items.result.now c.args.order.now.root c.in_ok-back.back.items c.as_slice-2.result.now c.as_slice-2.ensures.value
    c.in_ok-back.ensures) (c.in_err-new.ensures.refused fault))

pub returns-clause-stage : goal.returns-clause-stage
returns-clause-stage g c =
    let first_is : c.index-first.result.now ≡ slice_index c.args.order.now.vertices.items 0 =
    vertex_is c.args.order.now.vertices.items 0 c.index-first.result.now
    (omega (arith, order-long c.args.block.now c.edges_at.ensures.block c.args.order.now.vertices.items c.args.order.now.later.items c.args.order.now.root c.requires.order))
    c.index-first.ensures in
    let rest_is : c.as_slice.result.now ≡ but c.args.order.now.root (edges_at c.args.block.now.graph.ends (slice_index c.args.order.now.vertices.items 0)) =
    c.as_slice.ensures.value ∙ c.in_ok-others.ensures ∙ ap (but c.args.order.now.root) c.edges_at.ensures.value
    ∙ ap (λ v. but c.args.order.now.root (edges_at c.args.block.now.graph.ends v)) first_is in
    let star_is : IsStar c.args.order.now.root (but c.args.order.now.root (edges_at c.args.block.now.graph.ends (slice_index c.args.order.now.vertices.items 0))) (slice_index c.args.order.now.vertices.items 0) c.args.block.now.graph.vertices
    (g.T.OrderTree.tree c.in_ok-star.star) =
    star_own c.args.order.now.root c.as_slice.result.now (but c.args.order.now.root (edges_at c.args.block.now.graph.ends (slice_index c.args.order.now.vertices.items 0))) c.index-first.result.now (slice_index c.args.order.now.vertices.items 0)
    c.vertices.result c.args.block.now.graph.vertices (g.T.OrderTree.tree c.in_ok-star.star) rest_is first_is
    (c.vertices.ensures.value ∙ ap (λ (k : PlainGraph). k.vertices) c.graph.ensures.value) c.in_ok-star.ensures.star in
    first_listed c.args.block.now c.edges_at.ensures.block c.args.order.now.vertices.items c.args.order.now.later.items c.args.order.now.root c.requires.order
    (g.T.OrderTree.tree c.in_ok-star.star) star_is c.in_ok-star.ensures.well_formed c.items.result.now c.as_slice-2.result.now
    (subst (λ v. list_given c.args.block.now.lists v ≡ Some c.in-Some.list.now) first_is c.in-Some.ensures ∙ ap Some (sym c.items.ensures))
    (rest_own c.items.result.now c.args.order.now.root c.in_ok-back.back.items c.as_slice-2.result.now c.as_slice-2.ensures.value
    c.in_ok-back.ensures) (g.T.OrderTree.tree c.in_ok-new.new)
    (subst (λ v. IsForced c.as_slice-2.result.now v (g.T.OrderTree.tree c.in_ok-star.star) (g.T.OrderTree.tree c.in_ok-new.new)) first_is
    c.in_ok-new.ensures.forced) c.in_ok-new.ensures.formed

pub returns-in-None-clause-owner : goal.returns-in-None-clause-owner
returns-in-None-clause-owner g c =
    star-HaveOwner c.args.order.now.root c.vertices.result c.index-first.result.now
    (slice_index c.args.order.now.vertices.items 0) c.as_slice.result.now (g.T.OrderTree.tree c.in_ok-star.star)
    (vertex_is c.args.order.now.vertices.items 0 c.index-first.result.now
    (omega (arith, order-long c.args.block.now c.edges_at.ensures.block c.args.order.now.vertices.items c.args.order.now.later.items c.args.order.now.root c.requires.order))
    c.index-first.ensures)
    c.in_ok-star.ensures.star

pub returns-clause-owner : goal.returns-clause-owner
returns-clause-owner g c =
    kept-HaveOwner (slice_index c.args.order.now.vertices.items 0) (g.T.OrderTree.tree c.in_ok-star.star)
    (g.T.OrderTree.tree c.in_ok-new.new) c.in_ok-new.ensures.forced.owners
    (star-HaveOwner c.args.order.now.root c.vertices.result c.index-first.result.now
    (slice_index c.args.order.now.vertices.items 0) c.as_slice.result.now (g.T.OrderTree.tree c.in_ok-star.star)
    (vertex_is c.args.order.now.vertices.items 0 c.index-first.result.now
    (omega (arith, order-long c.args.block.now c.edges_at.ensures.block c.args.order.now.vertices.items c.args.order.now.later.items c.args.order.now.root c.requires.order))
    c.index-first.ensures)
    c.in_ok-star.ensures.star)

pub returns-in-None-clause-free : goal.returns-in-None-clause-free
returns-in-None-clause-free g c =
    let first_is : c.index-first.result.now ≡ slice_index c.args.order.now.vertices.items 0 =
    vertex_is c.args.order.now.vertices.items 0 c.index-first.result.now
    (omega (arith, order-long c.args.block.now c.edges_at.ensures.block c.args.order.now.vertices.items c.args.order.now.later.items c.args.order.now.root c.requires.order))
    c.index-first.ensures in
    owner-HasFreeOwners c.args.block.now (slice_index c.args.order.now.vertices.items 0) (g.T.OrderTree.tree c.in_ok-star.star)
    (star-HaveOwner c.args.order.now.root c.vertices.result c.index-first.result.now
    (slice_index c.args.order.now.vertices.items 0) c.as_slice.result.now (g.T.OrderTree.tree c.in_ok-star.star)
    first_is c.in_ok-star.ensures.star)
    (subst (λ v. list_given c.args.block.now.lists v ≡ None) first_is c.in-None.ensures)

pub returns-clause-free : goal.returns-clause-free
returns-clause-free g c =
    let first_is : c.index-first.result.now ≡ slice_index c.args.order.now.vertices.items 0 =
    vertex_is c.args.order.now.vertices.items 0 c.index-first.result.now
    (omega (arith, order-long c.args.block.now c.edges_at.ensures.block c.args.order.now.vertices.items c.args.order.now.later.items c.args.order.now.root c.requires.order))
    c.index-first.ensures in
    let rest_is : c.as_slice.result.now ≡ but c.args.order.now.root (edges_at c.args.block.now.graph.ends (slice_index c.args.order.now.vertices.items 0)) =
    c.as_slice.ensures.value ∙ c.in_ok-others.ensures ∙ ap (but c.args.order.now.root) c.edges_at.ensures.value
    ∙ ap (λ v. but c.args.order.now.root (edges_at c.args.block.now.graph.ends v)) first_is in
    let star_is : IsStar c.args.order.now.root (but c.args.order.now.root (edges_at c.args.block.now.graph.ends (slice_index c.args.order.now.vertices.items 0))) (slice_index c.args.order.now.vertices.items 0) c.args.block.now.graph.vertices
    (g.T.OrderTree.tree c.in_ok-star.star) =
    star_own c.args.order.now.root c.as_slice.result.now (but c.args.order.now.root (edges_at c.args.block.now.graph.ends (slice_index c.args.order.now.vertices.items 0))) c.index-first.result.now (slice_index c.args.order.now.vertices.items 0)
    c.vertices.result c.args.block.now.graph.vertices (g.T.OrderTree.tree c.in_ok-star.star) rest_is first_is
    (c.vertices.ensures.value ∙ ap (λ (k : PlainGraph). k.vertices) c.graph.ensures.value) c.in_ok-star.ensures.star in
    λ owner kids h. absurd (first-no_P c.args.block.now c.edges_at.ensures.block c.args.order.now.vertices.items c.args.order.now.later.items c.args.order.now.root c.requires.order
    (g.T.OrderTree.tree c.in_ok-star.star) star_is c.in_ok-star.ensures.well_formed c.items.result.now c.as_slice-2.result.now
    (subst (λ v. list_given c.args.block.now.lists v ≡ Some c.in-Some.list.now) first_is c.in-Some.ensures ∙ ap Some (sym c.items.ensures))
    (rest_own c.items.result.now c.args.order.now.root c.in_ok-back.back.items c.as_slice-2.result.now c.as_slice-2.ensures.value
    c.in_ok-back.ensures) (g.T.OrderTree.tree c.in_ok-new.new)
    (subst (λ v. IsForced c.as_slice-2.result.now v (g.T.OrderTree.tree c.in_ok-star.star) (g.T.OrderTree.tree c.in_ok-new.new)) first_is
    c.in_ok-new.ensures.forced) c.in_ok-new.ensures.formed owner kids h)
