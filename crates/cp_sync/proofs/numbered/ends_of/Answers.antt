use Rattle.std.proofs.Common.{ℕ, slice_index, sym, ap, subst}
use Rattle.std.specs.List.{Contains}
use Rattle.std.proofs.lemmas.List.{get_or_default}
use Rattle.cp_board.specs.Instances.{vert_names}
use Rattle.cp_sync.proofs.NumberedGraphs.{live_ends}
use Rattle.cp_sync.proofs.numbered.ends_of.Goals as goal

pub rank_of-requires-clause-live : goal.rank_of-requires-clause-live
rank_of-requires-clause-live g c =
    let i = g.B.Board.instance c.args.board.now in
    let e = slice_index c.args.edges.now c.loop-e.e-index in
    let live = live_ends i c.requires.rules e (subst (λ names. Contains names e) c.requires.edges (c.loop-e.e-index, c.loop-e-test.true, get_or_default c.args.edges.now c.loop-e.e-index e 0 c.loop-e-test.true)) in
    subst (λ names. Contains names c.ends-a.result.0) (sym c.requires.verts)
    (subst (Contains (vert_names i)) (sym (ap (λ (x : ℕ × ℕ). x.0) c.ends-a.ensures.value)) live.0)

pub rank_of-requires-in-loop-e-clause-live : goal.rank_of-requires-in-loop-e-clause-live
rank_of-requires-in-loop-e-clause-live g c =
    let i = g.B.Board.instance c.args.board.now in
    let e = slice_index c.args.edges.now c.loop-e.e-index in
    let live = live_ends i c.requires.rules e (subst (λ names. Contains names e) c.requires.edges (c.loop-e.e-index, c.loop-e-test.true, get_or_default c.args.edges.now c.loop-e.e-index e 0 c.loop-e-test.true)) in
    subst (λ names. Contains names c.ends-a.result.1) (sym c.requires.verts)
    (subst (Contains (vert_names i)) (sym (ap (λ (x : ℕ × ℕ). x.1) c.ends-a.ensures.value)) live.1)
