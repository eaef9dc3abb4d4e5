use Rattle.std.proofs.Common.{◌≡◌, length, subst, arith}
use Rattle.cp_lists.proofs.LeastItems.{LeastSoFar, LeastSoFar-all}
use Rattle.cp_base.proofs.turns.least_place.Goals as goal

pub returns : goal.returns
returns c =
    let all : c.loop-i.i ≡ length c.args.items.now = omega arith in
    LeastSoFar-all c.args.items.now c.loop-i.place (subst (LeastSoFar c.args.items.now c.loop-i.place) all c.loop-i.invariant)
