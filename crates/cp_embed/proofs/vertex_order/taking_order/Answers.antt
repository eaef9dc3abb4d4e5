-- The least edge leads to the first vertex.
use Rattle.std.proofs.Common.{◌≡◌, ℕ, ◌<◌, ◌≤◌, List, length, slice_index, sym, ap, ◌∙◌, subst, arith}
use Rattle.cp_base.specs.Graphs.{PlainGraph, AreWithin}
use Rattle.cp_conn.specs.Blocks.{HaveNoLoop}
use Rattle.cp_ears.specs.Bipolar.{AreAdjacent, HaveEdges, IsBipolar, IsOneBlock}
use Rattle.cp_embed.specs.ListedBlocks.{edges_at, other_end}
use Rattle.cp_embed.specs.VertexOrders.{AreLaterEnds, IsTakingOrder}
use Rattle.cp_embed.proofs.BipolarTests.{Exactly-own}
use Rattle.cp_embed.proofs.TakingOrders.{edges-some, root-edge, root-least, root-adjacent, bipolar-IsTakingOrder, bipolar-length}
use Rattle.cp_embed.proofs.vertex_order.taking_order.Goals as goal

pub bounds-edges_at-0 : goal.bounds-edges_at-0
bounds-edges_at-0 c = subst (λ us. 0 < length us) (sym c.edges_at.ensures.value)
    (edges-some c.args.block.now c.edges_at.ensures.block c.args.last c.requires)

pub far_end-first-requires : goal.far_end-first-requires
far_end-first-requires c =
    let h = (root-edge c.args.block.now c.edges_at.ensures.block c.args.last c.requires).0 in
    omega (
      arith,
      h,
      ap (λ us. slice_index us 0) c.edges_at.ensures.value,
      ap length (c.ends.ensures.value ∙ ap (λ (g : PlainGraph). g.ends) c.graph.ensures.value),
    )

pub bipolar-requires-clause-no_loop : goal.bipolar-requires-clause-no_loop
bipolar-requires-clause-no_loop c = subst (λ (g : PlainGraph). HaveNoLoop g.ends) (sym c.graph-2.ensures.value)
    c.edges_at.ensures.block.no_loop

pub bipolar-requires-clause-one_block : goal.bipolar-requires-clause-one_block
bipolar-requires-clause-one_block c = subst (λ (g : PlainGraph). IsOneBlock g.ends) (sym c.graph-2.ensures.value)
    c.edges_at.ensures.block.one_block

pub bipolar-requires-clause-each_has_edge : goal.bipolar-requires-clause-each_has_edge
bipolar-requires-clause-each_has_edge c =
    subst (λ (g : PlainGraph). HaveEdges g.vertices g.ends) (sym c.graph-2.ensures.value)
    c.edges_at.ensures.block.each_has_edge

-- the other end of the first edge, in the code's own terms
far_is : (block_ends ends : List (ℕ × ℕ)) (edges : List ℕ) (v far : ℕ) → ends ≡ block_ends
    → edges ≡ edges_at block_ends v
    → far ≡ other_end ends v (slice_index edges 0)
    → far ≡ other_end block_ends v (slice_index (edges_at block_ends v) 0)
far_is block_ends ends edges v far ends_are edges_are is =
    is ∙ ap (λ es. other_end es v (slice_index edges 0)) ends_are
    ∙ ap (λ us. other_end block_ends v (slice_index us 0)) edges_are

pub bipolar-requires-clause-joined : goal.bipolar-requires-clause-joined
bipolar-requires-clause-joined c =
    subst (λ (g : PlainGraph). AreAdjacent g.ends c.far_end-first.result c.args.last) (sym c.graph-2.ensures.value)
    (subst (λ u. AreAdjacent c.args.block.now.graph.ends u c.args.last)
    (sym (far_is c.args.block.now.graph.ends c.ends.result.now c.edges_at.result.now c.args.last c.far_end-first.result
    (c.ends.ensures.value ∙ ap (λ (g : PlainGraph). g.ends) c.graph.ensures.value) c.edges_at.ensures.value
    c.far_end-first.ensures))
    (root-adjacent c.args.block.now c.edges_at.ensures.block c.args.last c.requires))

pub narrowed-requires-clause-within : goal.narrowed-requires-clause-within
narrowed-requires-clause-within c = c.edges_at.ensures.block.within

pub narrowed-requires-clause-no_loop : goal.narrowed-requires-clause-no_loop
narrowed-requires-clause-no_loop c = c.edges_at.ensures.block.no_loop

pub narrowed-requires-clause-bipolar : goal.narrowed-requires-clause-bipolar
narrowed-requires-clause-bipolar c =
    subst (λ g. IsBipolar g c.far_end-first.result c.args.last c.in_ok-found.found.items) c.graph-2.ensures.value
    c.in_ok-found.ensures

pub later_ends-requires-clause-once : goal.later_ends-requires-clause-once
later_ends-requires-clause-once c =
    Exactly-own c.args.block.now.graph c.far_end-first.result c.args.last c.in_ok-vertices.vertices.items
    c.as_slice.result.now c.in_ok-vertices.ensures c.as_slice.ensures.value

pub later_ends-requires-clause-within : goal.later_ends-requires-clause-within
later_ends-requires-clause-within c =
    let long : length c.as_slice.result.now ≡ c.args.block.now.graph.vertices =
    ap length c.as_slice.ensures.value
    ∙ bipolar-length c.args.block.now.graph c.far_end-first.result c.args.last c.in_ok-vertices.vertices.items
    c.in_ok-vertices.ensures
    in
    subst (λ n. AreWithin n c.ends-2.result.now) (sym long)
    (subst (AreWithin c.args.block.now.graph.vertices)
    (sym (c.ends-2.ensures.value ∙ ap (λ (g : PlainGraph). g.ends) c.graph-3.ensures.value))
    c.edges_at.ensures.block.within)

pub later_ends-requires-clause-no_loop : goal.later_ends-requires-clause-no_loop
later_ends-requires-clause-no_loop c =
    subst HaveNoLoop (sym (c.ends-2.ensures.value ∙ ap (λ (g : PlainGraph). g.ends) c.graph-3.ensures.value))
    c.edges_at.ensures.block.no_loop

pub returns-clause-order : goal.returns-clause-order
returns-clause-order c =
    subst (IsTakingOrder c.args.block.now.graph c.in_ok-vertices.vertices.items c.in_ok-later.later.items)
    (sym (ap (λ us. slice_index us 0) c.edges_at.ensures.value))
    (bipolar-IsTakingOrder c.args.block.now c.edges_at.ensures.block c.args.last c.requires
    c.in_ok-vertices.vertices.items c.in_ok-later.later.items
    (subst (λ u. IsBipolar c.args.block.now.graph u c.args.last c.in_ok-vertices.vertices.items)
    (far_is c.args.block.now.graph.ends c.ends.result.now c.edges_at.result.now c.args.last c.far_end-first.result
    (c.ends.ensures.value ∙ ap (λ (g : PlainGraph). g.ends) c.graph.ensures.value) c.edges_at.ensures.value
    c.far_end-first.ensures)
    c.in_ok-vertices.ensures)
    (subst (λ es. AreLaterEnds es c.in_ok-vertices.vertices.items c.in_ok-later.later.items)
    (c.ends-2.ensures.value ∙ ap (λ (g : PlainGraph). g.ends) c.graph-3.ensures.value)
    (subst (λ us. AreLaterEnds c.ends-2.result.now us c.in_ok-later.later.items) c.as_slice.ensures.value
    c.in_ok-later.ensures)))

pub returns-clause-least : goal.returns-clause-least
returns-clause-least c = λ k lt t.
    subst (λ us. slice_index us 0 ≤ k) (sym c.edges_at.ensures.value)
    (root-least c.args.block.now c.edges_at.ensures.block c.args.last c.requires k lt t)

pub returns-clause-block : goal.returns-clause-block
returns-clause-block c = c.edges_at.ensures.block
