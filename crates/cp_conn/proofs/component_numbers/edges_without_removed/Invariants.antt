-- The edges so far that are left.
use Rattle.std.proofs.Common.{◌≡◌, take}
use Rattle.cp_conn.specs.Removed.{without_removed}
use Rattle.cp_conn.proofs.component_numbers.edges_without_removed.Given as goal

abbrev pub invariant-loop-first : goal.invariant-loop-first
invariant-loop-first l = l.left.items ≡ without_removed l.removed (take l.first-index l.ends)
