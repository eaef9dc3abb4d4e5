use Rattle.std.proofs.Common.{arith}
use Rattle.cp_rotlaw.proofs.SideCode.{no_place}
use Rattle.cp_rotlaw.proofs.sides.place.Goals as goal

pub returns-clause-found : goal.returns-clause-found
returns-clause-found c =
    absurd (no_place c.args.items.now c.args.d c.loop-i.i c.requires (omega (arith, c.loop-i-test.false))
    c.loop-i.invariant)
