-- The place of an edge of the list is that of a number.
use Rattle.std.proofs.Common.{◌<◌, ℕ, [], ◌∷◌, ◌++◌, length, map, slice_index, take, sym, ap, ◌∙◌, arith, rules}
use Rattle.std.proofs.lemmas.List.{map-append, take_more}
use Rattle.cp_conn.specs.NamedGraphs.{rank}
use Rattle.cp_conn.proofs.NamedGraphs.{rank_at}
use Rattle.cp_flip.proofs.crossing.numbers_along.Goals as goal

pub offset_bounds-numbers-rank_among : goal.offset_bounds-numbers-rank_among
offset_bounds-numbers-rank_among c =
    let at = rank_at c.args.edges.now _ (c.requires.live c.loop-e.e-index 0 c.loop-e-test.true) in
    let lt : c.rank_among.result < length c.args.numbers.now = omega
    (arith, at.0, c.rank_among.ensures, c.requires.one_each) in
    search rules

pub bounds-numbers-rank_among : goal.bounds-numbers-rank_among
bounds-numbers-rank_among c =
    let at = rank_at c.args.edges.now _ (c.requires.live c.loop-e.e-index 0 c.loop-e-test.true) in
    omega (arith, at.0, c.rank_among.ensures, c.requires.one_each)

pub loop-e-preserved : goal.loop-e-preserved
loop-e-preserved c =
    let numbers = c.args.numbers.now in
    let f = λ (e : ℕ). slice_index numbers (rank c.args.edges.now e) in
    let before = take c.loop-e.e-index c.args.list.now in
    let e = slice_index c.args.list.now c.loop-e.e-index in
    c.in_ok-push.ensures.items
    ∙ ap (λ xs. xs ++ slice_index numbers c.rank_among.result ∷ []) c.loop-e.invariant
    ∙ ap (λ k. map f before ++ slice_index numbers k ∷ []) c.rank_among.ensures
    ∙ sym (ap (map f) (take_more c.args.list.now c.loop-e.e-index 0 c.loop-e-test.true) ∙ map-append f before (e ∷ []))
