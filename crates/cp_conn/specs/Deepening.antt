-- What holds within a depth-first search.
use Rattle.std.specs.Prelude.{◌≡◌, ℕ, suc, ◌+◌, ◌*◌, ◌<◌, ◌≤◌, ◌⊎◌, List, length, slice_index}
use Rattle.std.specs.List.{sum_by}
use Rattle.cp_lists.specs.Count.{count}
use Rattle.cp_conn.specs.Darts.{start, finish, IsEntry}
use Rattle.cp_conn.specs.Search.{is_unmet}
use Rattle.cp_conn.specs.SearchForest.{Forest, Above, IsPlacedBelow, IsUpright}

-- from each dart the list leads to the next lower dart of the same vertex
pub record LeadDown (es : List (ℕ × ℕ)) (lower : List ℕ) : Type 0 where
  pub each : length lower ≡ 2 * length es
  pub entry : (d : ℕ) → d < 2 * length es → IsEntry es (start es d) d (slice_index lower d)

-- the vertices that were met, of numbers below n, are those of the order, numbered by it, and are placed
pub record IsGrown (es : List (ℕ × ℕ)) (n : ℕ) (forest : Forest) : Type 0 where
  pub number_each : length forest.number ≡ n
  pub parent_each : length forest.parent ≡ n
  pub edge_each : length forest.edge ≡ n
  pub ordered : (v : ℕ) → v < n → slice_index forest.number v < n
      → (slice_index forest.number v < length forest.order)
      × (slice_index forest.order (slice_index forest.number v) ≡ v)
  pub numbered : (i : ℕ) → i < length forest.order
      → (slice_index forest.order i < n) × (slice_index forest.number (slice_index forest.order i) ≡ i)
  pub all : length forest.order + count n (is_unmet n forest.number) ≡ n
  pub placed : (v : ℕ) → v < n → slice_index forest.number v < n → IsPlacedBelow es n forest v

-- the darts of each vertex from its next entry on were followed: their ends were met, and are one above the other
pub record AreFollowed (es : List (ℕ × ℕ)) (n : ℕ) (forest : Forest) (next : List ℕ) : Type 0 where
  pub next_each : length next ≡ n
  pub entries : (v : ℕ) → v < n → slice_index next v ≤ 2 * length es
  pub starts : (v d : ℕ) → v < n → suc d ≡ slice_index next v → start es d ≡ v
  pub met : (d : ℕ) → d < 2 * length es → slice_index next (start es d) ≤ d
      → (slice_index forest.number (start es d) < n) × (slice_index forest.number (finish es d) < n)
      × IsUpright es forest d

-- the search stands at a vertex: all darts of the other vertices that were met and are not above it were followed
pub record StandsAt (es : List (ℕ × ℕ)) (n : ℕ) (forest : Forest) (next : List ℕ) (now : ℕ) : Type 0 where
  pub grown : IsGrown es n forest
  pub followed : AreFollowed es n forest next
  pub within : now < n
  pub here : slice_index forest.number now < n
  pub done : (v : ℕ) → v < n → slice_index forest.number v < n → Above forest v now ⊎ (slice_index next v ≡ 0)

-- the search rests: all darts of the vertices that were met were followed
pub record Rests (es : List (ℕ × ℕ)) (n : ℕ) (forest : Forest) (next : List ℕ) : Type 0 where
  pub grown : IsGrown es n forest
  pub followed : AreFollowed es n forest next
  pub done : (v : ℕ) → v < n → slice_index forest.number v < n → slice_index next v ≡ 0

-- the vertices that were met stay met
abbrev pub StayMet : ℕ → Forest → Forest → Type 0
StayMet n before after = (v : ℕ) → v < n → slice_index before.number v < n → slice_index after.number v < n

-- the order is as it was, or goes on with further vertices
pub record IsFurther (before after : Forest) : Type 0 where
  pub longer : length before.order ≤ length after.order
  pub front : (i : ℕ) → i < length before.order → slice_index after.order i ≡ slice_index before.order i

-- fewer darts are left, or as many and the search stands at a lower number
abbrev pub IsNearer : List ℕ → ℕ → List ℕ → ℕ → Type 0
IsNearer next number less lower = (sum_by (λ k. k) less < sum_by (λ k. k) next) ⊎ ((less ≡ next) × (lower < number))
