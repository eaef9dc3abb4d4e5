use Rattle.std.proofs.Common.{refl}
use Rattle.cp_trace.proofs.BodyReads.{P_at, Q_at, kids_closed, no_P, no_Q, no_body, no_kid, no_kids_at_bracket, nothing_behind, wrong_behind}
use Rattle.cp_trace.proofs.read_body.+branches.Goals as goal

pub read_body-returns-in-Some-2 : goal.read_body-returns-in-Some-2
read_body-returns-in-Some-2 t c =
    P_at c.args.bytes.now c.in-Some.inside.now c.in-Some-2.kids c.in-Some-2.rest.now c.in-Some.ensures
    (rw c.in-Some-2.is at c.in_ok-kids.ensures)

pub read_body-returns-in-None : goal.read_body-returns-in-None
read_body-returns-in-None t c =
    no_P c.args.bytes.now c.in-Some.inside.now c.in-Some.ensures (rw c.in-None.is at c.in_ok-kids.ensures)

pub read_body-returns-in-Some-3 : goal.read_body-returns-in-Some-3
read_body-returns-in-Some-3 t c =
    Q_at c.args.bytes.now c.in-Some-after_front.inside.now c.in-Some-3.kids c.in-Some-3.rest.now
    c.in-Some-after_front.ensures (rw c.in-Some-3.is at c.in_ok-kids-2.ensures)

pub read_body-returns-in-None-2 : goal.read_body-returns-in-None-2
read_body-returns-in-None-2 t c =
    no_Q c.args.bytes.now c.in-Some-after_front.inside.now c.in-Some-after_front.ensures
    (rw c.in-None-2.is at c.in_ok-kids-2.ensures)

pub read_body-returns-in-None-read_leaf : goal.read_body-returns-in-None-read_leaf
read_body-returns-in-None-read_leaf t c =
    no_body c.args.bytes.now c.in_default.ensures c.in_default-after_front.ensures c.in-None-read_leaf.ensures

pub read_kids-returns-in-None : goal.read_kids-returns-in-None
read_kids-returns-in-None t c =
    no_kids_at_bracket c.args.bytes.now c.in-Some.after.now c.in-Some.ensures (c.in-None.ensures refl)

pub read_kids-returns-in_default-2 : goal.read_kids-returns-in_default-2
read_kids-returns-in_default-2 t c =
    no_kid c.args.bytes.now c.loop-kids.text.now c.loop-kids.kids c.loop-kids.invariant
    (rw c.in_default-2.is at c.in_ok-kid.ensures)

pub read_kids-returns-in_default-split_first : goal.read_kids-returns-in_default-split_first
read_kids-returns-in_default-split_first t c =
    nothing_behind c.args.bytes.now c.loop-kids.text.now c.loop-kids.kids c.in-Some-2.kid c.in-Some-2.behind.now
    c.loop-kids.invariant (rw c.in-Some-2.is at c.in_ok-kid.ensures) c.in_default-split_first.ensures.cases

pub read_kids-returns-in-Some-closed-2 : goal.read_kids-returns-in-Some-closed-2
read_kids-returns-in-Some-closed-2 t c =
    kids_closed c.args.bytes.now c.loop-kids.text.now c.loop-kids.kids c.in-Some-2.kid c.in-Some-2.behind.now
    c.in-Some-split_first.byte.now c.in-Some-split_first.after.now c.push.new.self c.in-Some-closed-2.all
    c.in-Some-closed-2.rest.now c.loop-kids.invariant (rw c.in-Some-2.is at c.in_ok-kid.ensures)
    c.in-Some-split_first.ensures.cases.0 c.in_ok-push.ensures.ok c.in-Some-closed-2.ensures

pub read_kids-returns-in-None-closed : goal.read_kids-returns-in-None-closed
read_kids-returns-in-None-closed t c =
    wrong_behind c.args.bytes.now c.loop-kids.text.now c.loop-kids.kids c.in-Some-2.kid c.in-Some-2.behind.now
    c.in-Some-split_first.byte.now c.in-Some-split_first.after.now c.loop-kids.invariant
    (rw c.in-Some-2.is at c.in_ok-kid.ensures) c.in-Some-split_first.ensures.cases.0 c.if-byte-ne32.true
    c.in-None-closed.ensures
