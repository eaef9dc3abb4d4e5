-- The blocks at the vertex of its numbered component are its parts.
use Rattle.std.proofs.Common.{◌<◌, ◌≡◌, ◌∙◌, length, map, slice_index, sym, ap, subst, subst₂, arith}
use Rattle.std.specs.List.{All, Contains}
use Rattle.std.specs.List.Sorted.{IsStrictlyIncreasing}
use Rattle.std.proofs.lemmas.Result.{IfOk-weaker}
use Rattle.cp_conn.specs.Blocks.{HaveNoLoop}
use Rattle.cp_conn.specs.NamedGraphs.{rank}
use Rattle.cp_board.specs.Instances.{graph}
use Rattle.cp_board.specs.Joins.{ArePartsAt}
use Rattle.cp_local.proofs.ClosedParts.{part-HaveNoLoop}
use Rattle.cp_join.proofs.LocalParts.{local_below, local_parts}
use Rattle.cp_join.proofs.vertex_parts.parts_at.Goals as goal

pub place_of-place-requires-clause-rising : goal.place_of-place-requires-clause-rising
place_of-place-requires-clause-rising g c =
    subst IsStrictlyIncreasing (sym c.items.ensures) c.in_ok-local.ensures.found.components.closed.verts_rise

pub place_of-place-requires-clause-live : goal.place_of-place-requires-clause-live
place_of-place-requires-clause-live g c =
    subst (λ names. Contains names c.args.u) (sym c.items.ensures) c.in_ok-local.ensures.found.components.first

pub edges_by_block-requires-clause-no_loop : goal.edges_by_block-requires-clause-no_loop
edges_by_block-requires-clause-no_loop g c =
    let local = c.in_ok-local.local in
    let found = c.in_ok-local.ensures.found in
    subst HaveNoLoop (sym (ap (λ z. z.ends) found.graph))
    (part-HaveNoLoop (g.B.Board.instance c.args.board.now) local.verts local.edges found.components.closed
    c.in_ok-local.ensures.rules)

pub edges_by_block-requires-clause-within : goal.edges_by_block-requires-clause-within
edges_by_block-requires-clause-within g c =
    omega (
      arith,
      c.place_of-place.ensures.within,
      ap length c.items.ensures,
      ap (λ z. z.vertices) c.in_ok-local.ensures.found.graph,
    )

pub named_parts-requires : goal.named_parts-requires
named_parts-requires g c =
    let i = g.B.Board.instance c.args.board.now in
    let local = c.in_ok-local.local in
    let found = c.in_ok-local.ensures.found in
    subst₂ (λ names ns. All (All (λ k. k < length names)) ns) (sym c.items-2.ensures) (sym c.items-3.ensures)
    (local_below i c.in_ok-local.ensures.rules local.verts local.edges found.components.closed c.args.u
    found.components.first local.graph.ends c.place_of-place.result c.in_ok-numbers.numbers c.in_ok-numbers.ensures
    (ap (λ z. z.ends) found.graph)
    (c.place_of-place.ensures.value ∙ ap (λ names. rank names c.args.u) c.items.ensures))

pub returns : goal.returns
returns g c =
    let i = g.B.Board.instance c.args.board.now in
    let local = c.in_ok-local.local in
    let found = c.in_ok-local.ensures.found in
    IfOk-weaker c.named_parts.result
    (λ lists. lists ≡ map (map (slice_index c.items-2.result.now)) c.items-3.result.now)
    (ArePartsAt (graph i) c.args.u)
    (λ lists e. subst (ArePartsAt (graph i) c.args.u)
    (sym (e ∙ ap (λ names. map (map (slice_index names)) c.items-3.result.now) c.items-2.ensures
    ∙ ap (map (map (slice_index local.edges))) c.items-3.ensures))
    (local_parts i c.in_ok-local.ensures.rules local.verts local.edges found.components.closed c.args.u
    found.components.first local.graph.ends c.place_of-place.result c.in_ok-numbers.numbers c.in_ok-numbers.ensures
    (ap (λ z. z.ends) found.graph)
    (c.place_of-place.ensures.value ∙ ap (λ names. rank names c.args.u) c.items.ensures)))
    c.named_parts.ensures.named
