use Rattle.std.proofs.Common.{◌≤◌, ◌-◌, length}
use Rattle.cp_sync.specs.Tables.{AreEmpty}
use Rattle.cp_sync.proofs.tables.empty_lists.Given as goal

abbrev pub invariant-emptying : goal.invariant-emptying
invariant-emptying l = (length l.lists.items ≤ l.n) × AreEmpty (length l.lists.items) l.lists.items

-- the lists that are left to make
abbrev pub decreases-emptying : goal.decreases-emptying
decreases-emptying l = l.n - length l.lists.items
