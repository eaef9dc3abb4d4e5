use Rattle.std.proofs.Common.{rules, ℕ, IsTrue, ◌≡◌, ◌⊎◌, refl, subst}
use Rattle.cp_poles.proofs.KeptOrders.{ends_told}
use Rattle.cp_board.specs.Instances.{pipe_ends_of}
use Rattle.cp_poles.proofs.SmallRewrites.{live_pipe}
use Rattle.cp_poles.proofs.TestedPipes.{greatest_named}
use Rattle.cp_poles.proofs.tests.freed_at.Goals as goal

pub has_end-ended-requires : goal.has_end-ended-requires
has_end-ended-requires c =
    let g = greatest_named c.args.i.now c.in-Some.pipe c.in-Some.ensures.some in
    live_pipe c.args.i.now c.in-Some.pipe g.0 g.1

pub free_pole-requires : goal.free_pole-requires
free_pole-requires c =
    let i = c.args.i.now in
    let g = greatest_named i c.in-Some.pipe c.in-Some.ensures.some in
    let yes : IsTrue c.in_ok-poled.poled = search rules in
    let ended : IsTrue c.has_end-ended.result = search rules in (
      g.0,
      g.1,
      record {
        end = subst (λ (x : ℕ × ℕ). (x.0 ≡ c.args.end) ⊎ (x.1 ≡ c.args.end))
            (ends_told i c.in-Some.pipe g.0 g.1 (pipe_ends_of i c.in-Some.pipe) refl)
            (c.has_end-ended.ensures ended);
        bond = c.in_ok-poled.ensures.bond yes;
        free = c.in_ok-poled.ensures.kind yes;
        unmatched = c.in_ok-poled.ensures.pipe yes;
      },
    )
