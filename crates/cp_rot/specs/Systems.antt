-- Rotation systems: vertices, darts that stand at vertices, and the cyclic order of the darts round
-- each vertex, counterclockwise (Heffter 1891, Edmonds 1960).
use Rattle.std.specs.Prelude.{◌≡◌, ℕ, ◌+◌, ◌-◌, ◌*◌, ◌/◌, ◌%◌, ◌<◌, ◌==◌, cond, List, [], length, slice_index, slice_index_or}
use Rattle.std.specs.List.{position_or_len}
use Rattle.cp_lists.specs.Count.{Exactly}

-- a number of vertices, the vertex at which each dart stands, and for each vertex its list of darts
pub record System : Type 0 where
  pub vertices : ℕ
  pub at : List ℕ
  pub lists : List (List ℕ)

-- how many darts a system has
abbrev pub darts : System → ℕ
darts r = length r.at

-- edge e has the darts 2e, at its source, and 2e + 1, at its target
abbrev pub edges : System → ℕ
edges r = darts r / 2

-- the vertex at which dart d stands
abbrev pub vertex_of : System → ℕ → ℕ
vertex_of r d = slice_index r.at d

-- the list of vertex v
abbrev pub list_of : System → ℕ → List ℕ
list_of r v = slice_index_or r.lists v []

-- the place behind place i in a cyclic list of n items
abbrev pub place_after : ℕ → ℕ → ℕ
place_after n i = cond (i + 1 == n) 0 (i + 1)

-- the item behind d in a cyclic list
abbrev pub next_in : List ℕ → ℕ → ℕ
next_in xs d = slice_index xs (place_after (length xs) (position_or_len (λ x. x == d) xs))

-- the dart behind d in the list of its vertex
abbrev pub next : System → ℕ → ℕ
next r d = next_in (list_of r (vertex_of r d)) d

-- the list holds each dart that stands at v exactly once, and nothing else
abbrev pub Arranges : List ℕ → ℕ → List ℕ → Type 0
Arranges at v xs = Exactly (length at) (λ d. slice_index at d == v) xs

-- the darts come in pairs, stand at vertices, and each vertex has one list, of exactly its darts
pub record IsRotation (r : System) : Type 0 where
  pub paired : darts r ≡ 2 * edges r
  pub placed : (d : ℕ) → d < darts r → vertex_of r d < r.vertices
  pub listed : length r.lists ≡ r.vertices
  pub arranged : (v : ℕ) → v < r.vertices → Arranges r.at v (list_of r v)
