use Rattle.std.proofs.Common.{◌≡◌, true, false, arith}
use Rattle.cp_cgraph.specs.Clustered.{edges}
use Rattle.cp_border.specs.Borders.{crossed}
use Rattle.cp_border.proofs.Numbering.{sum_below-next}
use Rattle.cp_check.proofs.scratch.has_borders.Goals as goal

pub returns-then-crossed-left : goal.returns-then-crossed-left
returns-then-crossed-left c = (
  λ no. let impossible : false ≡ true = no in cc,
  λ same. absurd (omega (
    arith,
    sum_below-next (crossed c.args.g.now) c.loop-e.e (edges c.args.g.now)
        (omega (arith, c.edges-e-end.ensures.value)),
    c.crossed-crossed.ensures.value,
    c.loop-e.invariant,
    c.if-crossed-left.true,
    same,
  )),
)
