-- The components of the vertices below the next one were met.
use Rattle.std.proofs.Common.{◌≡◌, ℕ, ◌<◌, length, get_or}
use Rattle.cp_conn.specs.Search.{AreMet, AreDone}
use Rattle.cp_conn.proofs.search.least_connected.Given as goal

abbrev pub invariant-loop-vertex : goal.invariant-loop-vertex
invariant-loop-vertex l = record {
  size : length l.least.items ≡ l.vertices;
  met : AreMet l.ends l.vertices l.least.items l.queue.items;
  all_done : AreDone l.ends l.vertices l.least.items l.queue.items (length l.queue.items);
  lower_met : (x : ℕ) → x < l.vertex → get_or l.least.items x 0 < l.vertices;
}
