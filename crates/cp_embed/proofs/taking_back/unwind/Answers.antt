-- Vertex by vertex the pair is taken back; at last each vertex has its list.
use Rattle.std.proofs.Common.{◌≡◌, ℕ, suc, ◌-◌, ◌<◌, List, [], ◌∷◌, length, set, slice_index, replicate, reverse, sym, refl, ap, ap₂, ◌∙◌, subst, arith}
use Rattle.std.proofs.lemmas.List.{length-replicate}
use Rattle.cp_base.specs.Graphs.{PlainGraph}
use Rattle.cp_force.specs.Words.{part_word}
use Rattle.cp_lists.specs.CyclicLists.{Has}
use Rattle.cp_lists.specs.Turns.{IsTurn}
use Rattle.cp_embed.specs.ListedBlocks.{ListedGraph, edges_at}
use Rattle.cp_embed.specs.Unwound.{HasEdgesAsRun, IsTakenOutOf}
use Rattle.cp_embed.proofs.TakingOrders.{edges-some}
use Rattle.cp_embed.proofs.UnwoundLists.{way-within, pair-Has_root, IsUnwoundTo-all, IsUnwoundTo-run, IsUnwoundTo-vertex, IsUnwoundTo-step, IsUnwoundTo-first, IsUnwoundTo-none}
use Rattle.cp_embed.proofs.taking_back.unwind.Goals as goal

-- the vertex is one of the block, in the code's own terms
within_own : (block own : ListedGraph) (v t : ℕ) → own ≡ block → v ≡ t → t < block.graph.vertices
    → v < own.graph.vertices
within_own block own v t own_is v_is lt =
    subst (λ (b : ListedGraph). v < b.graph.vertices) (sym own_is) (subst (λ u. u < block.graph.vertices) (sym v_is) lt)

-- the first of its edges, in the code's own terms
root_own : (block own : ListedGraph) (v t : ℕ) (edges : List ℕ) → own ≡ block → v ≡ t
    → edges ≡ edges_at own.graph.ends v
    → slice_index edges 0 ≡ slice_index (edges_at block.graph.ends t) 0
root_own block own v t edges own_is v_is is =
    ap (λ us. slice_index us 0) is ∙ ap₂ (λ (b : ListedGraph) u. slice_index (edges_at b.graph.ends u) 0) own_is v_is

-- so many empty lists, in the code's own terms
each_own : (block own : ListedGraph) (g : PlainGraph) (n : ℕ) (lists : List (List ℕ)) → own ≡ block → g ≡ own.graph
    → n ≡ g.vertices → lists ≡ replicate n [] → length lists ≡ block.graph.vertices
each_own block own g n lists own_is g_is n_is is = ap length is ∙ length-replicate n [] ∙ n_is
    ∙ ap (λ (h : PlainGraph). h.vertices) g_is ∙ ap (λ (b : ListedGraph). b.graph.vertices) own_is

-- the ends of the edges, in the code's own terms
ends_own : (block own : ListedGraph) (g : PlainGraph) (ends : List (ℕ × ℕ)) → own ≡ block → g ≡ own.graph
    → ends ≡ g.ends
    → ends ≡ block.graph.ends
ends_own block own g ends own_is g_is is = is ∙ ap (λ (h : PlainGraph). h.ends) g_is
    ∙ ap (λ (b : ListedGraph). b.graph.ends) own_is

pub edges_at-requires : goal.edges_at-requires
edges_at-requires g c =
    within_own c.args.m.now.block c.block-vertex.result.0.now c.block-vertex.result.1 c.args.m.now.vertex
    c.block-vertex.ensures.block c.block-vertex.ensures.vertex
    (way-within c.args.m.now.block c.args.m.now.vertex c.taken-first.result.0 c.taken-first.result.1.now
    c.args.m.now.tree
    c.args.bits.now c.args.order.now 0 c.taken-first.ensures)

pub bounds-edges_at-0 : goal.bounds-edges_at-0
bounds-edges_at-0 g c = subst (λ us. 0 < length us) (sym c.edges_at.ensures.value)
    (edges-some c.block-vertex.result.0.now c.edges_at.ensures.block c.block-vertex.result.1
    (within_own c.args.m.now.block c.block-vertex.result.0.now c.block-vertex.result.1 c.args.m.now.vertex
    c.block-vertex.ensures.block c.block-vertex.ensures.vertex
    (way-within c.args.m.now.block c.args.m.now.vertex c.taken-first.result.0 c.taken-first.result.1.now
    c.args.m.now.tree
    c.args.bits.now c.args.order.now 0 c.taken-first.ensures)))

pub rest_behind-requires : goal.rest_behind-requires
rest_behind-requires g c = subst (Has (slice_index c.edges_at.result.now 0)) (sym c.items.ensures)
    (pair-Has_root c.args.m.now.block c.args.m.now.vertex c.taken-first.result.0 c.taken-first.result.1.now
    c.args.m.now.tree c.args.bits.now c.args.order.now (slice_index c.edges_at.result.now 0) c.taken-first.ensures
    c.block-vertex.ensures.exact
    (root_own c.args.m.now.block c.block-vertex.result.0.now c.block-vertex.result.1 c.args.m.now.vertex
    c.edges_at.result.now c.block-vertex.ensures.block c.block-vertex.ensures.vertex c.edges_at.ensures.value)
    c.requires)

pub loop-left-init : goal.loop-left-init
loop-left-init g c =
    IsUnwoundTo-all c.args.m.now.block c.args.m.now.vertex c.taken-first.result.0 c.taken-first.result.1.now
    c.args.m.now.tree c.args.bits.now c.args.order.now (slice_index c.edges_at.result.now 0) c.taken-first.ensures
    c.block-vertex.ensures.exact
    (root_own c.args.m.now.block c.block-vertex.result.0.now c.block-vertex.result.1 c.args.m.now.vertex
    c.edges_at.result.now c.block-vertex.ensures.block c.block-vertex.ensures.vertex c.edges_at.ensures.value)
    c.requires c.in_ok-word.word.items
    (subst (λ us. IsTurn us (slice_index c.edges_at.result.now 0 ∷ c.in_ok-word.word.items)) c.items.ensures
    c.in_ok-word.ensures)
    c.in_ok-lists.lists.items (length c.taken-first.result.1.now)
    (each_own c.args.m.now.block c.block-vertex.result.0.now c.graph.result.now c.vertices.result
    c.in_ok-lists.lists.items c.block-vertex.ensures.block c.graph.ensures.value c.vertices.ensures.value
    c.in_ok-lists.ensures)
    refl

pub taken_back-requires : goal.taken_back-requires
taken_back-requires g c =
    let is : suc (c.loop-left.left - 1) ≡ c.loop-left.left = omega (arith, c.loop-left-test.true) in
    subst (λ es. HasEdgesAsRun es c.index-frames-left.result.vertex c.index-frames-left.result.outs.items
    c.as_slice.result.now)
    (sym (ends_own c.args.m.now.block c.block-vertex.result.0.now c.graph-in-loop-left.result.now c.ends.result.now
    c.block-vertex.ensures.block c.graph-in-loop-left.ensures.value c.ends.ensures.value))
    (subst (HasEdgesAsRun c.args.m.now.block.graph.ends c.index-frames-left.result.vertex
    c.index-frames-left.result.outs.items) (sym c.as_slice.ensures.value)
    (IsUnwoundTo-run c.args.m.now.block c.args.m.now.vertex c.taken-first.result.0 c.taken-first.result.1.now
    c.args.m.now.tree c.args.bits.now c.args.order.now (slice_index c.edges_at.result.now 0) c.loop-left.lists.items
    c.loop-left.left (c.loop-left.left - 1) is c.loop-left.word.items c.loop-left.invariant c.index-frames-left.result
    c.index-frames-left.is))

pub index_mut-requires : goal.index_mut-requires
index_mut-requires g c =
    let is : suc (c.loop-left.left - 1) ≡ c.loop-left.left = omega (arith, c.loop-left-test.true) in
    let lt : c.index-frames-left.result.vertex < length c.loop-left.lists.items =
    IsUnwoundTo-vertex c.args.m.now.block c.args.m.now.vertex c.taken-first.result.0 c.taken-first.result.1.now
    c.args.m.now.tree c.args.bits.now c.args.order.now (slice_index c.edges_at.result.now 0) c.loop-left.lists.items
    c.loop-left.left (c.loop-left.left - 1) is c.loop-left.word.items c.loop-left.invariant c.index-frames-left.result
    c.index-frames-left.is
    in
    omega (arith, lt, c.loop-left.lists.ok)

pub loop-left-preserved : goal.loop-left-preserved
loop-left-preserved g c =
    let is : suc (c.loop-left.left - 1) ≡ c.loop-left.left = omega (arith, c.loop-left-test.true) in
    IsUnwoundTo-step c.args.m.now.block c.args.m.now.vertex c.taken-first.result.0 c.taken-first.result.1.now
    c.args.m.now.tree c.args.bits.now c.args.order.now (slice_index c.edges_at.result.now 0) c.loop-left.lists.items
    c.loop-left.left (c.loop-left.left - 1) is c.loop-left.word.items c.loop-left.invariant c.index-frames-left.result
    c.index-frames-left.is c.in_ok-back.back.word.items c.in_ok-back.back.list
    (set c.loop-left.lists.items c.index-frames-left.result.vertex c.in_ok-back.back.list)
    (subst (λ us. IsTakenOutOf us c.index-frames-left.result.outs.items
    (part_word c.args.bits.now c.index-frames-left.result.part) c.in_ok-back.back.word.items c.in_ok-back.back.list)
    c.as_slice.ensures.value c.in_ok-back.ensures)
    refl

pub index_mut-requires-2 : goal.index_mut-requires-2
index_mut-requires-2 g c =
    let none : c.loop-left.left ≡ 0 = omega (arith, c.loop-left-test.false) in
    let lt : c.taken-first.result.0 < length c.loop-left.lists.items =
    IsUnwoundTo-first c.args.m.now.block c.args.m.now.vertex c.taken-first.result.0 c.taken-first.result.1.now
    c.args.m.now.tree c.args.bits.now c.args.order.now (slice_index c.edges_at.result.now 0) c.loop-left.lists.items
    c.loop-left.left none c.loop-left.word.items c.loop-left.invariant
    in
    omega (arith, lt, c.loop-left.lists.ok)

pub returns : goal.returns
returns g c =
    let none : c.loop-left.left ≡ 0 = omega (arith, c.loop-left-test.false) in
    IsUnwoundTo-none c.args.m.now.block c.args.m.now.vertex c.taken-first.result.0 c.taken-first.result.1.now
    c.args.m.now.tree c.args.bits.now c.args.order.now (slice_index c.edges_at.result.now 0) c.loop-left.lists.items
    c.loop-left.left none c.loop-left.word.items c.loop-left.invariant c.in_ok-lists-2.field-0
    (set (set c.loop-left.lists.items c.taken-first.result.0 c.in_ok-lists-2.field-0) c.block-vertex.result.1
    c.in_ok-lists-3.field-0)
    (c.in_ok-lists-2.ensures ∙ ap (λ us. slice_index c.edges_at.result.now 0 ∷ reverse us) c.as_slice-2.ensures.value)
    (ap₂ (λ v us. set (set c.loop-left.lists.items c.taken-first.result.0 c.in_ok-lists-2.field-0) v us)
    c.block-vertex.ensures.vertex (c.in_ok-lists-3.ensures ∙ c.items-2.ensures))
