use Rattle.std.proofs.Common.{◌≡◌, ◌<◌, length, subst, arith}
use Rattle.cp_conn.specs.Search.{AreDone}
use Rattle.cp_conn.proofs.Searching.{run_step}
use Rattle.cp_conn.proofs.search.run_queue.Goals as goal

pub loop-done-preserved : goal.loop-done-preserved
loop-done-preserved c =
    let lt : c.loop-done.done < length c.loop-done.queue.items = omega arith in
    let h = run_step c.args.ends.now (length c.args.least.now.items)
    (length c.loop-done.least.items) c.args.least.now.items c.args.queue.now.items c.loop-done.least.items
    c.loop-done.queue.items c.meet_neighbours.new.least.items c.meet_neighbours.new.queue.items c.loop-done.done
    c.index-vertex.result.now
    c.loop-done.invariant.goes.met.size c.requires.ends_within c.loop-done.invariant.goes lt
    c.loop-done.invariant.some_done c.index-vertex.ensures c.in_ok-meet_neighbours.ensures.goes_on
    c.in_ok-meet_neighbours.ensures.near in
    record { goes = h.0; within = h.1; some_done = h.2 }

pub returns-clause-all_done : goal.returns-clause-all_done
returns-clause-all_done c =
    let all : c.loop-done.done ≡ length c.loop-done.queue.items = omega arith in
    subst (AreDone c.args.ends.now (length c.args.least.now.items) c.loop-done.least.items c.loop-done.queue.items) all
    c.loop-done.invariant.some_done
