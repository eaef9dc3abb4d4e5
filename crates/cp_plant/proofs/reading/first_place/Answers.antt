-- The list is parted at the first place of the item, or it is whole.
use Rattle.std.proofs.Common.{arith}
use Rattle.cp_plant.proofs.Rounds.{parted_at, parted_none}
use Rattle.cp_plant.proofs.reading.first_place.Goals as goal

pub returns-then-item-x-clause-front : goal.returns-then-item-x-clause-front
returns-then-item-x-clause-front c =
    (parted_at c.args.x c.args.list.now c.loop-place.place c.loop-place-test.true c.loop-place.invariant
    c.if-item-x.true).0

pub returns-then-item-x-clause-behind : goal.returns-then-item-x-clause-behind
returns-then-item-x-clause-behind c =
    (parted_at c.args.x c.args.list.now c.loop-place.place c.loop-place-test.true c.loop-place.invariant
    c.if-item-x.true).1

pub returns-clause-front : goal.returns-clause-front
returns-clause-front c =
    (parted_none c.args.x c.args.list.now
    (λ k lt e. c.loop-place.invariant k (omega (arith, lt, c.loop-place-test.false)) e)).0

pub returns-clause-behind : goal.returns-clause-behind
returns-clause-behind c =
    (parted_none c.args.x c.args.list.now
    (λ k lt e. c.loop-place.invariant k (omega (arith, lt, c.loop-place-test.false)) e)).1
