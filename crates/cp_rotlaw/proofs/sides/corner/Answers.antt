use Rattle.std.proofs.Common.{subst, ⊎_elim, arith}
use Rattle.std.proofs.lemmas.Bool.{cases_eq}
use Rattle.cp_rotlaw.specs.SideStates.{IsCorner}
use Rattle.cp_rotlaw.proofs.sides.corner.Goals as goal

pub loop-x-preserved : goal.loop-x-preserved
loop-x-preserved c = λ y lt k. ⊎_elim
    (λ e. c.is_corner.ensures.no c.if-is_corner.false
    (subst (IsCorner c.args.a.now c.args.side.now c.args.merged.now) e k))
    (λ ne. c.loop-x.invariant y (omega (arith, lt, ne)) k)
    (cases_eq y c.loop-x.x)
