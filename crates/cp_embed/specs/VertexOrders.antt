-- The order in which the vertices of a block are taken, and the edges that each has to those taken before it.
use Rattle.std.specs.Prelude.{◌≡◌, ℕ, ◌+◌, ◌-◌, ◌*◌, ◌<◌, Bool, true, not, cond, eqb, List, length, slice_index, slice_index_or, take, reverse}
use Rattle.std.specs.List.{filter}
use Rattle.cp_base.specs.Graphs.{PlainGraph}
use Rattle.cp_ears.specs.Bipolar.{IsBipolar}
use Rattle.cp_embed.specs.ListedBlocks.{touches, edges_at, other_end}

-- a stands before b in the order
pub record StandsBefore (order : List ℕ) (a b : ℕ) : Type 0 where
  pub first : ℕ
  pub second : ℕ
  pub before : first < second
  pub within : second < length order
  pub first_is : slice_index order first ≡ a
  pub second_is : slice_index order second ≡ b

-- v is the end of edge k that comes later in the order
pub record IsLaterEnd (ends : List (ℕ × ℕ)) (order : List ℕ) (k v : ℕ) : Type 0 where
  pub is_end : touches ends v k ≡ true
  pub other_before : StandsBefore order (other_end ends v k) v

-- for each edge the end that comes later
pub record AreLaterEnds (ends : List (ℕ × ℕ)) (order later : List ℕ) : Type 0 where
  pub each : length later ≡ length ends
  pub later_of : (k : ℕ) → k < length ends → IsLaterEnd ends order k (slice_index later k)

-- whether x is the later end of edge k
abbrev pub enters : List ℕ → ℕ → ℕ → Bool
enters later x k = eqb (slice_index later k) x

-- the edges of x to vertices before it, rising
abbrev pub edges_in : List (ℕ × ℕ) → List ℕ → ℕ → List ℕ
edges_in ends later x = filter (enters later x) (edges_at ends x)

-- its other edges, rising
abbrev pub edges_out : List (ℕ × ℕ) → List ℕ → ℕ → List ℕ
edges_out ends later x = filter (λ k. not (enters later x k)) (edges_at ends x)

-- the vertices in front of place i, the last first
abbrev pub taken_at : List ℕ → ℕ → List ℕ
taken_at order i = reverse (take i order)

-- the last vertex of an order
abbrev pub last_of : List ℕ → ℕ
last_of order = slice_index order (length order - 1)

-- the dart of edge k at v
abbrev pub dart_at : List (ℕ × ℕ) → ℕ → ℕ → ℕ
dart_at ends v k = cond (eqb (slice_index_or ends k (0, 0)).0 v) (2 * k) (2 * k + 1)

-- root is the least edge of the last vertex of the order, and joins it to the first; the order is bipolar
pub record IsTakingOrder (g : PlainGraph) (order later : List ℕ) (root : ℕ) : Type 0 where
  pub root_within : root < length g.ends
  pub root_at_last : touches g.ends (last_of order) root ≡ true
  pub root_to_first : other_end g.ends (last_of order) root ≡ slice_index order 0
  pub bipolar : IsBipolar g (slice_index order 0) (last_of order) order
  pub later_ends : AreLaterEnds g.ends order later
