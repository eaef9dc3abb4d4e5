use Rattle.std.proofs.Common.{◌≤◌, ◌-◌, length}
use Rattle.cp_skel.specs.SkeletonTables.{AreEmpty}
use Rattle.cp_skel.proofs.tables.empty_lists.Given as goal

abbrev pub invariant-emptying : goal.invariant-emptying
invariant-emptying g l = (length l.lists.items ≤ l.n) × AreEmpty (length l.lists.items) l.lists.items

-- the lists that are left to make
abbrev pub decreases-emptying : goal.decreases-emptying
decreases-emptying g l = l.n - length l.lists.items
