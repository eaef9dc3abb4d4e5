-- Names that are not live.
use Rattle.std.specs.Prelude.{◌≡◌, ℕ, ◌<◌, Bool, false, not, List, length, slice_index_or}
use Rattle.cp_board.specs.Names.{has}

-- the table tells for each number below `size` whether it is one of the live ones
pub record TellLive (live : List ℕ) (size : ℕ) (table : List Bool) : Type 0 where
  pub one_each : length table ≡ size
  pub each : (k : ℕ) → k < size → slice_index_or table k false ≡ has live k

-- the table does not tell the number as live
abbrev pub is_free : List Bool → ℕ → Bool
is_free table k = not (slice_index_or table k false)
