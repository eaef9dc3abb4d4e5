use Rattle.std.proofs.Common.{◌-◌, ℕ, map, ◌<◌, ◌≤◌, length}
use Rattle.std.specs.Prelude.{slice_index}
use Rattle.cp_store.proofs.named.lower_place.Given as goal

abbrev pub invariant-loop-low : goal.invariant-loop-low
invariant-loop-low g l =
    (l.low ≤ l.high)
    × (l.high ≤ length l.items)
    × ((j : ℕ) → j < l.low → slice_index (map g.T.Named.name l.items) j < l.name)
    × ((j : ℕ) → l.high ≤ j → j < length l.items → l.name ≤ slice_index (map g.T.Named.name l.items) j)

-- the rest of the range
abbrev pub decreases-loop-low : goal.decreases-loop-low
decreases-loop-low g l = l.high - l.low
