-- Cycles that differ are to blame.
use Rattle.std.proofs.Common.{◌≡◌, subst, sym, ◌∙◌, ap}
use Rattle.std.specs.Prelude.{Some}
use Rattle.cp_board.specs.declared.parts.Pipe.{Pipe}
use Rattle.cp_board.specs.Reasons.{HaveUnequalCycles}
use Rattle.cp_drive.proofs.GreatestPipes.{greatest-named}
use Rattle.cp_drive.proofs.pole_steps.torus_step.Goals as goal

pub returns-in-Err-CyclesDiffer : goal.returns-in-Err-CyclesDiffer
returns-in-Err-CyclesDiffer g c =
    let i = g.B.Board.instance c.args.board.now in
    let h = c.requires in
    let is = c.follows_rules.ensures in
    let fault = rw c.in-Err-CyclesDiffer.field-0-is at c.in-Err-CyclesDiffer.ensures.fault in
    let live = greatest-named i is h.p h.greatest c.args.pipe h.named in
    let found : Some h.p ≡ Some fault.0 = sym live ∙ fault.1 in
    let same : h.p ≡ fault.0 = cc in
    let cycles = subst (λ (q : Pipe). HaveUnequalCycles i q c.in-Err-CyclesDiffer.a c.in-Err-CyclesDiffer.b) (sym same) fault.2 in (
      (h.p, h.greatest, h.bond, cycles),
      c.unequal_cycles_unsolvable.ensures i c.args.pipe h.p c.in-Err-CyclesDiffer.a c.in-Err-CyclesDiffer.b is live h.bond cycles,
    )
