-- Lengths of the cycles of a permutation that is stored as a list.
use Rattle.std.specs.Prelude.{◌≡◌, ◌≢◌, ℕ, ◌<◌, Bool, true, false, List, get_or, length, slice_index}
use Rattle.cp_orbits.specs.Orbits.{CycleLength}

-- all cycles have this length
abbrev pub HaveLength : List ℕ → ℕ → Type 0
HaveLength to size = (k : ℕ) → k < length to → CycleLength (slice_index to) k size

-- the cycle of some place has length b, and those of all places before it have another length a
pub record IsOtherLength (to : List ℕ) (a b : ℕ) : Type 0 where
  pub place : ℕ
  pub within : place < length to
  pub before : (k : ℕ) → k < place → CycleLength (slice_index to) k a
  pub other : CycleLength (slice_index to) place b
  pub differ : a ≢ b

-- the cycle of each marked place has this length
pub record AreMarked (to : List ℕ) (size : ℕ) (seen : List Bool) : Type 0 where
  pub one_each : length seen ≡ length to
  pub marked : (k : ℕ) → get_or seen k false ≡ true → CycleLength (slice_index to) k size
