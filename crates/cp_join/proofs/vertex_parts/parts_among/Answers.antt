-- The blocks at the vertex of the numbered graph are its parts.
use Rattle.std.proofs.Common.{◌<◌, ◌≡◌, ◌∙◌, length, map, slice_index, sym, ap, subst, subst₂, arith}
use Rattle.std.specs.List.{All}
use Rattle.std.proofs.lemmas.Result.{IfOk-weaker}
use Rattle.cp_conn.specs.Blocks.{HaveNoLoop}
use Rattle.cp_conn.specs.NamedGraphs.{rank}
use Rattle.cp_board.specs.Instances.{graph}
use Rattle.cp_board.specs.Joins.{ArePartsAt}
use Rattle.cp_join.proofs.BoardParts.{HaveNoLoop-numbered, told_below, told_parts}
use Rattle.cp_join.proofs.vertex_parts.parts_among.Goals as goal

pub edges_by_block-requires-clause-no_loop : goal.edges_by_block-requires-clause-no_loop
edges_by_block-requires-clause-no_loop g c =
    subst HaveNoLoop (sym (ap (λ z. z.ends) c.in_ok-g.ensures.graph))
    (HaveNoLoop-numbered (g.B.Board.instance c.args.board.now) c.in_ok-g.ensures.rules)

pub edges_by_block-requires-clause-within : goal.edges_by_block-requires-clause-within
edges_by_block-requires-clause-within g c =
    omega (
      arith,
      c.place_of-place.ensures.within,
      ap length (c.items.ensures ∙ c.in_ok-g.ensures.verts),
      ap (λ z. z.vertices) c.in_ok-g.ensures.graph,
    )

pub named_parts-requires : goal.named_parts-requires
named_parts-requires g c =
    let i = g.B.Board.instance c.args.board.now in
    subst₂ (λ names ns. All (All (λ k. k < length names)) ns)
    (sym (c.items-2.ensures ∙ c.in_ok-g.ensures.edges)) (sym c.items-3.ensures)
    (told_below i c.in_ok-g.ensures.rules c.args.u c.requires c.in_ok-g.g.graph.ends c.place_of-place.result
    c.in_ok-numbers.numbers c.in_ok-numbers.ensures (ap (λ z. z.ends) c.in_ok-g.ensures.graph)
    (c.place_of-place.ensures.value ∙ ap (λ names. rank names c.args.u) (c.items.ensures ∙ c.in_ok-g.ensures.verts)))

pub returns-clause-parts : goal.returns-clause-parts
returns-clause-parts g c =
    let i = g.B.Board.instance c.args.board.now in
    IfOk-weaker c.named_parts.result
    (λ lists. lists ≡ map (map (slice_index c.items-2.result.now)) c.items-3.result.now)
    (ArePartsAt (graph i) c.args.u)
    (λ lists e. subst (ArePartsAt (graph i) c.args.u)
    (sym (e ∙ ap (λ names. map (map (slice_index names)) c.items-3.result.now) (c.items-2.ensures ∙ c.in_ok-g.ensures.edges)
    ∙ ap (map (map (slice_index (graph i).edges))) c.items-3.ensures))
    (told_parts i c.in_ok-g.ensures.rules c.args.u c.requires c.in_ok-g.g.graph.ends c.place_of-place.result
    c.in_ok-numbers.numbers c.in_ok-numbers.ensures (ap (λ z. z.ends) c.in_ok-g.ensures.graph)
    (c.place_of-place.ensures.value ∙ ap (λ names. rank names c.args.u) (c.items.ensures ∙ c.in_ok-g.ensures.verts))))
    c.named_parts.ensures.named
