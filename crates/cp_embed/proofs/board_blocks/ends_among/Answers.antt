-- The ends of an edge are among the vertices, which rise.
use Rattle.std.proofs.Common.{ℕ, List, slice_index, sym, ap, subst}
use Rattle.std.specs.List.{Contains}
use Rattle.std.specs.List.Sorted.{IsStrictlyIncreasing}
use Rattle.std.proofs.lemmas.List.{get_or_default}
use Rattle.std.proofs.lemmas.List.Elements.{All-contains}
use Rattle.std.proofs.lemmas.List.Kept.{IsStrictlyIncreasing-filter}
use Rattle.cp_board.specs.Instances.{edge_names, graph, vert_names}
use Rattle.cp_embed.specs.BoardBlocks.{ends_some, part_with}
use Rattle.cp_embed.proofs.BoardBlocks.{part-ends_in}
use Rattle.cp_embed.proofs.board_blocks.ends_among.Goals as goal

pub rank_among-requires-clause-rising : goal.rank_among-requires-clause-rising
rank_among-requires-clause-rising g c =
    let i = g.B.Board.instance c.args.board.now in
    subst IsStrictlyIncreasing (sym c.requires.verts)
    (IsStrictlyIncreasing-filter (ends_some (graph i) c.args.edges.now) (vert_names i)
    c.requires.rules.verts_named.rise)

pub rank_among-requires-clause-one : goal.rank_among-requires-clause-one
rank_among-requires-clause-one g c =
    let i = g.B.Board.instance c.args.board.now in
    let es = c.args.edges.now in
    let k = c.loop-e.e-index in
    let e = slice_index es k in
    let ends = part-ends_in i c.requires.rules es (λ f h. All-contains (Contains (edge_names i)) es f c.requires.live
    h) e
    (k, c.loop-e-test.true, get_or_default es k e 0 c.loop-e-test.true) in
    subst (λ (xs : List ℕ). Contains xs c.ends-a.result.0) (sym c.requires.verts)
    (subst (Contains (part_with (graph i) es).verts) (sym (ap (λ (x : ℕ × ℕ). x.0) c.ends-a.ensures.value)) ends.0)

pub rank_among-requires-in-loop-e-clause-rising : goal.rank_among-requires-in-loop-e-clause-rising
rank_among-requires-in-loop-e-clause-rising g c =
    let i = g.B.Board.instance c.args.board.now in
    subst IsStrictlyIncreasing (sym c.requires.verts)
    (IsStrictlyIncreasing-filter (ends_some (graph i) c.args.edges.now) (vert_names i)
    c.requires.rules.verts_named.rise)

pub rank_among-requires-in-loop-e-clause-one : goal.rank_among-requires-in-loop-e-clause-one
rank_among-requires-in-loop-e-clause-one g c =
    let i = g.B.Board.instance c.args.board.now in
    let es = c.args.edges.now in
    let k = c.loop-e.e-index in
    let e = slice_index es k in
    let ends = part-ends_in i c.requires.rules es (λ f h. All-contains (Contains (edge_names i)) es f c.requires.live
    h) e
    (k, c.loop-e-test.true, get_or_default es k e 0 c.loop-e-test.true) in
    subst (λ (xs : List ℕ). Contains xs c.ends-a.result.1) (sym c.requires.verts)
    (subst (Contains (part_with (graph i) es).verts) (sym (ap (λ (x : ℕ × ℕ). x.1) c.ends-a.ensures.value)) ends.1)
