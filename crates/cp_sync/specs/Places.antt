-- Places in lists in the order of names.
use Rattle.std.specs.Prelude.{ℕ, ◌<◌, ◌≤◌, List, length, slice_index}

-- the names before place k are less than n, and those from k on are not
pub record IsLowerPlace (names : List ℕ) (n k : ℕ) : Type 0 where
  pub within : k ≤ length names
  pub before : (j : ℕ) → j < k → slice_index names j < n
  pub behind : (j : ℕ) → k ≤ j → j < length names → n ≤ slice_index names j
