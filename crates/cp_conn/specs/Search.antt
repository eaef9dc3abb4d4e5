-- What holds within a search through a graph.
use Rattle.std.specs.Prelude.{◌≡◌, ℕ, ◌+◌, ◌<◌, ◌≤◌, Bool, not, nat_lt, List, length, slice_index}
use Rattle.std.specs.List.{Contains}
use Rattle.cp_lists.specs.Count.{count}
use Rattle.cp_orbits.specs.Classes.{labels}
use Rattle.cp_orbits.specs.Connected.{Joins}

-- the vertex was not met
abbrev pub is_unmet : ℕ → List ℕ → ℕ → Bool
is_unmet n least x = not (nat_lt (slice_index least x) n)

-- least tells the least vertex of the component of each vertex that was met, and n for the others;
-- the queue holds the vertices that were met
pub record AreMet (es : List (ℕ × ℕ)) (n : ℕ) (least queue : List ℕ) : Type 0 where
  pub size : length least ≡ n
  pub bound : (x : ℕ) → x < n → slice_index least x ≤ n
  pub right : (x : ℕ) → x < n → slice_index least x < n → slice_index least x ≡ labels es x
  pub queued : (x : ℕ) → x < n → slice_index least x < n → (k : ℕ) × (k < length queue) × (slice_index queue k ≡ x)
  pub vertices : (k : ℕ) → k < length queue → (slice_index queue k < n) × (slice_index least (slice_index queue k) < n)

-- all neighbours of x were met
abbrev pub AreNear : List (ℕ × ℕ) → ℕ → List ℕ → ℕ → Type 0
AreNear es n least x = (e : ℕ × ℕ) (y : ℕ) → Contains es e → Joins e x y → slice_index least y < n

-- all neighbours of the first done vertices of the queue were met
abbrev pub AreDone : List (ℕ × ℕ) → ℕ → List ℕ → List ℕ → ℕ → Type 0
AreDone es n least queue done = (k : ℕ) → k < done → AreNear es n least (slice_index queue k)

-- how many vertices are in the queue or were not met
abbrev pub places : ℕ → List ℕ → List ℕ → ℕ
places n least queue = length queue + count n (is_unmet n least)

-- the search went on: what was met stays met, and the queue is longer or as it was
pub record HasGoneOn (es : List (ℕ × ℕ)) (n : ℕ) (least queue more longer : List ℕ) : Type 0 where
  pub met : AreMet es n more longer
  pub stays : (x : ℕ) → x < n → slice_index least x < n → slice_index more x < n
  pub longer_by : length queue ≤ length longer
  pub front : (k : ℕ) → k < length queue → slice_index longer k ≡ slice_index queue k
  pub same_places : places n more longer ≡ places n least queue
