-- The ends of the darts from the entry on were met.
use Rattle.std.proofs.Common.{length}
use Rattle.cp_conn.proofs.Searching.{Meeting}
use Rattle.cp_conn.proofs.search.meet_neighbours.Given as goal

abbrev pub invariant-loop-entry : goal.invariant-loop-entry
invariant-loop-entry l = Meeting l.ends
    (length l.fn.least.items) l.fn.least.items l.fn.queue.items l.least.items l.queue.items l.vertex l.entry

abbrev pub decreases-loop-entry : goal.decreases-loop-entry
decreases-loop-entry l = l.entry
