-- The pipe of the pole is found under its name.
use Rattle.std.proofs.Common.{rules, ◌≡◌, ◌≢◌, ◌∙◌, length, sym}
use Rattle.cp_board.specs.Instances.{pairs_of}
use Rattle.cp_poles.proofs.TestedPipes.{other-fits, other-live}
use Rattle.cp_poles.proofs.tests.has_fitting_pipe.Goals as goal

pub pairs-requires : goal.pairs-requires
pairs-requires c =
    other-live c.args.i.now c.follows_rules.ensures c.args.pole c.in-Some.other (sym c.pipe_at.ensures ∙ c.in-Some.is)

pub returns : goal.returns
returns c = λ t.
    let i = c.args.i.now in
    let differ : c.in-Some.other ≢ c.args.pipe = search rules in
    let equal : length (pairs_of i c.in-Some.other) ≡ length (pairs_of i c.args.pipe) = search rules in
    other-fits i c.follows_rules.ensures c.args.pole c.in-Some.other (sym c.pipe_at.ensures ∙ c.in-Some.is) c.args.pipe
    differ equal
