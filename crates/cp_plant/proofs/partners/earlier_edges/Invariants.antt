-- The last pairs are in the table.
use Rattle.std.proofs.Common.{◌≡◌, ◌-◌, ℕ, false, drop, length}
use Rattle.cp_plant.specs.Tables.{value_or}
use Rattle.cp_plant.specs.TreeWords.{partner_by}
use Rattle.cp_plant.proofs.partners.earlier_edges.Given as goal

abbrev pub invariant-loop-j : goal.invariant-loop-j
invariant-loop-j l = (x : ℕ) → value_or l.table.entries x 0 ≡ partner_by (drop (length l.pairs - l.j) l.pairs) false x
