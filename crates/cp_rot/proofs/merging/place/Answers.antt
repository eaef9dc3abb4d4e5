use Rattle.std.proofs.Common.{arith, ◌∙◌, ◌≡◌, length}
use Rattle.cp_rot.proofs.RewriteCode.{place_until, absent_everywhere}
use Rattle.cp_rot.proofs.merging.place.Goals as goal

pub returns-then-items-i-clause-place : goal.returns-then-items-i-clause-place
returns-then-items-i-clause-place c = place_until c.args.items.now c.args.d c.loop-i.i (omega arith) c.loop-i.invariant (λ lt. c.if-items-i.true)

pub returns-clause-place : goal.returns-clause-place
returns-clause-place c =
    let all : length c.args.items.now ≡ c.loop-i.i = omega arith in
    all ∙ place_until c.args.items.now c.args.d c.loop-i.i (omega arith) c.loop-i.invariant (λ lt. absurd (omega arith))

pub returns-clause-within : goal.returns-clause-within
returns-clause-within c = λ has. absurd (absent_everywhere c.args.items.now c.args.d c.loop-i.i c.loop-i-test.false c.loop-i.invariant has)
