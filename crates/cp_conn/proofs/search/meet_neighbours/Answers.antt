use Rattle.std.proofs.Common.{◌≡◌, length, subst, arith}
use Rattle.cp_conn.proofs.Searching.{Meeting, Meeting-end}
use Rattle.cp_conn.proofs.search.meet_neighbours.Goals as goal

pub returns-clause-near : goal.returns-clause-near
returns-clause-near c =
    let none : c.loop-entry.entry ≡ 0 = omega arith in
    Meeting-end c.args.ends.now (length c.args.least.now.items) c.args.least.now.items c.args.queue.now.items
    c.loop-entry.least.items c.loop-entry.queue.items c.args.vertex
    (subst (Meeting c.args.ends.now
    (length c.args.least.now.items) c.args.least.now.items c.args.queue.now.items c.loop-entry.least.items
    c.loop-entry.queue.items c.args.vertex) none c.loop-entry.invariant)
