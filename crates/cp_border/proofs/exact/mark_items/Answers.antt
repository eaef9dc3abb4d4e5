use Rattle.std.proofs.Common.{◌≡◌, length, subst, arith}
use Rattle.cp_lists.proofs.ExactLists.{SoFar, SoFar-all}
use Rattle.cp_border.proofs.exact.mark_items.Goals as goal

pub returns-clause-all : goal.returns-clause-all
returns-clause-all g c = λ same enough.
    let all : c.loop-i.i ≡ length c.args.items.now = omega arith in
    SoFar-all (g.T.Wanted.bound c.args.t.now) (g.T.Wanted.wanted c.args.t.now) c.args.items.now c.args.seen.now
    c.loop-i.seen
    (subst (λ i. SoFar (g.T.Wanted.bound c.args.t.now) (g.T.Wanted.wanted c.args.t.now) c.args.items.now i
    c.args.seen.now c.loop-i.seen) all c.loop-i.invariant) enough
