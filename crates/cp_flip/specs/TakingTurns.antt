-- Lists in which two numbers take turns.
use Rattle.std.specs.Prelude.{◌≡◌, ◌≢◌, ℕ, ◌<◌, List, length, slice_index}

-- two different numbers stand in turn, each twice: the one, the other, the one and the other
pub record TakeTurns (xs : List ℕ) : Type 0 where
  pub first : ℕ
  pub second : ℕ
  pub third : ℕ
  pub fourth : ℕ
  pub in_order : (first < second) × (second < third) × (third < fourth) × (fourth < length xs)
  pub one : slice_index xs first ≡ slice_index xs third
  pub other : slice_index xs second ≡ slice_index xs fourth
  pub apart : slice_index xs first ≢ slice_index xs second

-- the number at this place takes turns with none that stands behind it
abbrev pub TakesNoTurns : List ℕ → ℕ → Type 0
TakesNoTurns xs first = (second third fourth : ℕ) → first < second → second < third → third < fourth
    → fourth < length xs
    → slice_index xs first ≡ slice_index xs third
    → slice_index xs second ≡ slice_index xs fourth
    → slice_index xs first ≢ slice_index xs second
    → ⊥

-- l is the last place of the number at place k
pub record IsLastPlace (xs : List ℕ) (k l : ℕ) : Type 0 where
  pub within : l < length xs
  pub same : slice_index xs l ≡ slice_index xs k
  pub last : (m : ℕ) → l < m → m < length xs → slice_index xs m ≢ slice_index xs k

-- for each place the last place of its number
pub record AreLastPlaces (xs lasts : List ℕ) : Type 0 where
  pub one_each : length lasts ≡ length xs
  pub each : (k : ℕ) → k < length xs → IsLastPlace xs k (slice_index lasts k)
