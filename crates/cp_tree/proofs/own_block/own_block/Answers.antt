-- The edges of one number are those of a block of the board.
use Rattle.std.proofs.Common.{◌≡◌, ℕ, eqb, List, filter, length, slice_index, sym, ap, ◌∙◌, subst, arith}
use Rattle.std.specs.List.{Contains}
use Rattle.std.specs.List.Sorted.{IsStrictlyIncreasing}
use Rattle.cp_base.specs.Graphs.{PlainGraph}
use Rattle.cp_conn.specs.Blocks.{AreInOneBlock, HaveNoLoop}
use Rattle.cp_conn.specs.NamedGraphs.{rank}
use Rattle.cp_conn.specs.Numbering.{AreNumbered}
use Rattle.cp_conn.proofs.NamedGraphs.{rank_at}
use Rattle.cp_local.proofs.ClosedParts.{part-HaveNoLoop}
use Rattle.cp_tree.proofs.OwnBlocks.{numbered-length, told-AreBlockEdges}
use Rattle.cp_tree.proofs.own_block.own_block.Goals as goal

pub blocks-requires : goal.blocks-requires
blocks-requires g c =
    let i = g.B.Board.instance c.args.board.now in
    let local = c.in_ok-local.local in
    let found = c.in_ok-local.ensures.found in
    subst HaveNoLoop (sym (ap (λ (x : PlainGraph). x.ends) found.graph))
    (part-HaveNoLoop i local.verts local.edges found.components.closed c.in_ok-local.ensures.rules)

pub rank_among-requires-clause-rising : goal.rank_among-requires-clause-rising
rank_among-requires-clause-rising g c =
    subst IsStrictlyIncreasing (sym c.items-edges.ensures) c.in_ok-local.ensures.found.components.closed.edges_rise

pub rank_among-requires-clause-one : goal.rank_among-requires-clause-one
rank_among-requires-clause-one g c =
    let found = c.in_ok-local.ensures.found.components in
    subst (λ (xs : List ℕ). Contains xs c.args.e) (sym c.items-edges.ensures)
    (found.closed.whole c.args.u c.args.e found.first c.requires.at)

pub item_at-number-requires : goal.item_at-number-requires
item_at-number-requires g c =
    let i = g.B.Board.instance c.args.board.now in
    let local = c.in_ok-local.local in
    let found = c.in_ok-local.ensures.found in
    let closed = found.components.closed in
    let at = rank_at local.edges c.args.e (closed.whole c.args.u c.args.e found.components.first c.requires.at) in
    let many : length c.as_slice.result.now ≡ length local.edges =
    ap length c.as_slice.ensures.value ∙ c.in_ok-numbers.ensures.one_each
    ∙ ap (λ (x : PlainGraph). length x.ends) found.graph
    ∙ numbered-length i c.in_ok-local.ensures.rules local.verts local.edges closed in
    let place = c.rank_among.ensures ∙ ap (λ (xs : List ℕ). rank xs c.args.e) c.items-edges.ensures in
    omega (arith, at.0, many, place)

pub edges_numbered-requires-clause-one_each : goal.edges_numbered-requires-clause-one_each
edges_numbered-requires-clause-one_each g c =
    let i = g.B.Board.instance c.args.board.now in
    let local = c.in_ok-local.local in
    let found = c.in_ok-local.ensures.found in
    ap length c.as_slice-2.ensures.value ∙ c.in_ok-numbers.ensures.one_each
    ∙ ap (λ (x : PlainGraph). length x.ends) found.graph
    ∙ numbered-length i c.in_ok-local.ensures.rules local.verts local.edges found.components.closed
    ∙ sym (ap length c.items-edges.ensures)

pub returns : goal.returns
returns g c =
    let i = g.B.Board.instance c.args.board.now in
    let local = c.in_ok-local.local in
    let found = c.in_ok-local.ensures.found in
    let closed = found.components.closed in
    told-AreBlockEdges i c.in_ok-local.ensures.rules local.verts local.edges closed
    c.in_ok-numbers.numbers.items
    (subst (λ (x : List (ℕ × ℕ)). AreNumbered (AreInOneBlock x) (length x) c.in_ok-numbers.numbers.items)
    (ap (λ (x : PlainGraph). x.ends) found.graph) c.in_ok-numbers.ensures)
    c.as_slice-2.result.now c.in_ok-block.block.items c.args.e c.item_at-number.result
    (closed.whole c.args.u c.args.e found.components.first c.requires.at)
    c.as_slice-2.ensures.value
    (c.item_at-number.ensures ∙ ap (λ (xs : List ℕ). slice_index xs c.rank_among.result) c.as_slice.ensures.value
    ∙ ap (slice_index c.in_ok-numbers.numbers.items)
    (c.rank_among.ensures ∙ ap (λ (xs : List ℕ). rank xs c.args.e) c.items-edges.ensures))
    (c.in_ok-block.ensures ∙ ap
    (λ (xs : List ℕ). filter (λ f. eqb (slice_index c.as_slice-2.result.now (rank xs f)) c.item_at-number.result) xs)
    c.items-edges.ensures)
