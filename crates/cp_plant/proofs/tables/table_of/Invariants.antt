-- The last pairs are in the table.
use Rattle.std.proofs.Common.{◌≡◌, ◌-◌, ℕ, drop, length}
use Rattle.cp_plant.specs.Tables.{value_or}
use Rattle.cp_plant.proofs.tables.table_of.Given as goal

abbrev pub invariant-loop-j : goal.invariant-loop-j
invariant-loop-j l = (x other : ℕ)
    → value_or l.table.entries x other ≡ value_or (drop (length l.pairs - l.j) l.pairs) x other
