-- The neighbours of the vertices that are done were met.
use Rattle.std.proofs.Common.{◌≤◌, ◌-◌, length}
use Rattle.cp_conn.specs.Search.{HasGoneOn, AreDone, places}
use Rattle.cp_conn.proofs.search.run_queue.Given as goal

abbrev pub invariant-loop-done : goal.invariant-loop-done
invariant-loop-done l = record {
  goes : HasGoneOn l.ends (length l.fn.least.items) l.fn.least.items l.fn.queue.items l.least.items l.queue.items;
  within : l.done ≤ length l.queue.items;
  some_done : AreDone l.ends (length l.fn.least.items) l.least.items l.queue.items l.done;
}

abbrev pub decreases-loop-done : goal.decreases-loop-done
decreases-loop-done l = places (length l.fn.least.items) l.least.items l.queue.items - l.done
