use Rattle.std.proofs.Common.{◌≤◌, ◌-◌, length}
use Rattle.cp_sync.specs.Tables.{AreUnpiped}
use Rattle.cp_sync.proofs.piping.unpiped.Given as goal

abbrev pub invariant-filling : goal.invariant-filling
invariant-filling l = (length l.piped.items ≤ l.n) × AreUnpiped (length l.piped.items) l.piped.items

-- the vertices that are left
abbrev pub decreases-filling : goal.decreases-filling
decreases-filling l = l.n - length l.piped.items
