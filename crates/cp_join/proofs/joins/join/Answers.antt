-- What the board tells of the pipe, its parts and the new names make the rewrite.
use Rattle.std.proofs.Common.{ℕ, ◌∙◌, sym, subst}
use Rattle.std.specs.List.{Contains}
use Rattle.cp_board.specs.declared.steps.Step.TheVariants.{Join}
use Rattle.cp_board.specs.Instances.{vert_names}
use Rattle.cp_board.specs.Reductions.{Performs}
use Rattle.cp_join.specs.Partings.{FitPairs}
use Rattle.cp_join.specs.Joining.{joining}
use Rattle.cp_join.proofs.JoinedPipes.{live_pipe, live_a, live_b, told_ends, told_fit, told_performs}
use Rattle.cp_join.proofs.joins.join.Goals as goal

pub pipe_ends-ends-requires : goal.pipe_ends-ends-requires
pipe_ends-ends-requires g c = live_pipe (g.B.Board.instance c.args.board.now) c.args.pipe c.requires.0 c.requires.1

pub pairs-pairs-requires : goal.pairs-pairs-requires
pairs-pairs-requires g c = live_pipe (g.B.Board.instance c.args.board.now) c.args.pipe c.requires.0 c.requires.1

pub parts_among-requires : goal.parts_among-requires
parts_among-requires g c =
    let i = g.B.Board.instance c.args.board.now in
    let p = c.requires.0 in
    let rules = c.pipe_ends-ends.ensures.rules in
    subst (λ (x : ℕ × ℕ). Contains (vert_names i) x.0)
    (sym (c.pipe_ends-ends.ensures.value ∙ told_ends i c.args.pipe p rules c.requires.1))
    (live_a i c.args.pipe p rules c.requires.1)

pub parts_among-requires-2 : goal.parts_among-requires-2
parts_among-requires-2 g c =
    let i = g.B.Board.instance c.args.board.now in
    let p = c.requires.0 in
    let rules = c.pipe_ends-ends.ensures.rules in
    subst (λ (x : ℕ × ℕ). Contains (vert_names i) x.1)
    (sym (c.pipe_ends-ends.ensures.value ∙ told_ends i c.args.pipe p rules c.requires.1))
    (live_b i c.args.pipe p rules c.requires.1)

pub rewrite_of-requires : goal.rewrite_of-requires
rewrite_of-requires g c =
    let i = g.B.Board.instance c.args.board.now in
    subst (λ hs. FitPairs c.pairs-pairs.result.now hs c.in_ok-both.both.0 c.in_ok-both.both.1) (sym c.as_slice.ensures.value)
    (told_fit i c.args.pipe c.requires.0 c.pipe_ends-ends.ensures.rules c.requires.1 c.pipe_ends-ends.result
    c.pairs-pairs.result.now c.pipe_ends-ends.ensures.value c.pairs-pairs.ensures c.in_ok-first.first c.in_ok-second.second
    c.in_ok-both.both.0 c.in_ok-both.both.1 c.in_ok-hats.hats.items c.in_ok-first.ensures.parts
    c.in_ok-second.ensures.parts c.in_ok-both.ensures c.in_ok-hats.ensures)

pub returns : goal.returns
returns g c =
    let i = g.B.Board.instance c.args.board.now in
    subst (Performs i (Join c.args.pipe)) (sym c.in_ok-rewrite.ensures)
    (subst (λ hs. Performs i (Join c.args.pipe)
    (joining c.args.pipe c.pipe_ends-ends.result c.pairs-pairs.result.now c.in_ok-both.both.0 c.in_ok-both.both.1 hs))
    (sym c.as_slice.ensures.value)
    (told_performs i c.args.pipe c.requires.0 c.pipe_ends-ends.ensures.rules c.requires.1 c.pipe_ends-ends.result
    c.pairs-pairs.result.now c.pipe_ends-ends.ensures.value c.pairs-pairs.ensures c.in_ok-first.first c.in_ok-second.second
    c.in_ok-both.both.0 c.in_ok-both.both.1 c.in_ok-hats.hats.items c.in_ok-first.ensures.parts
    c.in_ok-second.ensures.parts c.in_ok-both.ensures c.in_ok-hats.ensures c.in_ok-first.ensures.few_verts
    c.in_ok-first.ensures.few_edges))
