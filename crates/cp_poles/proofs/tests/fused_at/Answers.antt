-- What the calls find out allows the step.
use Rattle.std.proofs.Common.{rules, ℕ, IsTrue, ◌≡◌, ◌⊎◌, ◌∙◌, [], ap, length, refl, subst}
use Rattle.std.specs.Option.{option_map_or}
use Rattle.cp_board.specs.declared.parts.Pipe.{Pipe}
use Rattle.cp_board.specs.Instances.{pipe_ends_of}
use Rattle.cp_poles.proofs.KeptOrders.{ends_told}
use Rattle.cp_poles.proofs.SmallPipes.{own_name}
use Rattle.cp_poles.proofs.SmallRewrites.{live_pipe}
use Rattle.cp_poles.proofs.TestedPipes.{greatest_named}
use Rattle.cp_poles.proofs.tests.fused_at.Goals as goal

pub has_end-ended-requires : goal.has_end-ended-requires
has_end-ended-requires c =
    let g = greatest_named c.args.i.now c.in-Some.pipe c.in-Some.ensures.some in
    live_pipe c.args.i.now c.in-Some.pipe g.0 g.1

pub has_fitting_pipe-fitting-requires-clause-pipe : goal.has_fitting_pipe-fitting-requires-clause-pipe
has_fitting_pipe-fitting-requires-clause-pipe c =
    let g = greatest_named c.args.i.now c.in-Some.pipe c.in-Some.ensures.some in
    live_pipe c.args.i.now c.in-Some.pipe g.0 g.1

pub fuse_poles-requires : goal.fuse_poles-requires
fuse_poles-requires c =
    let i = c.args.i.now in
    let g = greatest_named i c.in-Some.pipe c.in-Some.ensures.some in
    let bonded : IsTrue c.in_ok-bonded.bonded = search rules in
    let ended : IsTrue c.has_end-ended.result = search rules in
    let fitting : IsTrue c.has_fitting_pipe-fitting.result = search rules in
    let q = c.has_fitting_pipe-fitting.ensures fitting in (
      g.0,
      g.1,
      (
        q.0,
        record {
          end = subst (λ (x : ℕ × ℕ). (x.0 ≡ c.args.end) ⊎ (x.1 ≡ c.args.end))
              (ends_told i c.in-Some.pipe g.0 g.1 (pipe_ends_of i c.in-Some.pipe) refl)
              (c.has_end-ended.ensures ended);
          bond = c.in_ok-bonded.ensures.0 bonded;
          matched = q.1;
          another = λ e. q.2 (e ∙ own_name i c.in-Some.pipe g.0 c.max_pipe.ensures.rules g.1);
          same = q.3 ∙ ap (λ o. length (option_map_or (λ (z : Pipe). z.pairs) o [])) g.1;
        },
      ),
    )
