-- What a search for a component has found while it goes on.
use Rattle.std.specs.Prelude.{◌≡◌, ℕ, ◌+◌, ◌<◌, ◌≤◌, ◌⊎◌, Bool, false, not, List, length, slice_index, slice_index_or}
use Rattle.cp_lists.specs.Count.{count}
use Rattle.cp_rot.specs.Systems.{System, darts, vertex_of, list_of}
use Rattle.cp_faces.specs.Twins.{twin}
use Rattle.cp_rot.specs.Genus.{Joined}
use Rattle.cp_rot.specs.Tables.{IsMarked}

-- the vertex at the other end of the dart at place i of the list of v
abbrev pub neighbour_at : System → ℕ → ℕ → ℕ
neighbour_at r v i = vertex_of r (twin (slice_index (list_of r v) i))

-- how many vertices are not marked
abbrev pub unmarked : System → List Bool → ℕ
unmarked r marks = count r.vertices (λ x. not (slice_index_or marks x false))

-- with the vertex of a dart that of its twin is marked
abbrev pub IsClosed : System → List Bool → Type 0
IsClosed r marks = (d : ℕ) → d < darts r → IsMarked marks (vertex_of r d) → IsMarked marks (vertex_of r (twin d))

-- x is one of the items on the stack
abbrev pub IsStacked : List ℕ → ℕ → ℕ → Type 0
IsStacked stack height x = (i : ℕ) × (i < height) × (slice_index stack i ≡ x)

-- the first n neighbours of w are marked, and those of them that were not marked are put on the stack
pub record IsPushed (r : System) (w n : ℕ) (marks : List Bool) (stack : List ℕ) (height : ℕ) (marks_after : List Bool) (stack_after : List ℕ) (height_after : ℕ) : Type 0 where
  pub marked : (i : ℕ) → i < n → IsMarked marks_after (neighbour_at r w i)
  pub kept : (x : ℕ) → IsMarked marks x → IsMarked marks_after x
  pub found : (x : ℕ) → IsMarked marks_after x → IsMarked marks x ⊎ IsStacked stack_after height_after x
  pub room : height_after + unmarked r marks_after ≡ height + unmarked r marks
  pub higher : height ≤ height_after
  pub below : (i : ℕ) → i < height → slice_index stack_after i ≡ slice_index stack i
  pub above : (i : ℕ) → i < height_after
      → (i < height) ⊎ ((j : ℕ) × (j < length (list_of r w)) × (slice_index stack_after i ≡ neighbour_at r w j))

-- the search from v: what is marked beside the first marks is joined to v, and what a marked
-- vertex that is not on the stack is joined to is marked
pub record Searching (r : System) (v : ℕ) (before marks : List Bool) (stack : List ℕ) (height : ℕ) : Type 0 where
  pub start : IsMarked marks v
  pub kept : (x : ℕ) → IsMarked before x → IsMarked marks x
  pub sound : (x : ℕ) → IsMarked marks x → IsMarked before x ⊎ Joined r v x
  pub stacked : (i : ℕ) → i < height → (slice_index stack i < r.vertices) × Joined r v (slice_index stack i)
  pub spread : (d : ℕ) → d < darts r → IsMarked marks (vertex_of r d)
      → IsStacked stack height (vertex_of r d) ⊎ IsMarked marks (vertex_of r (twin d))
  pub room : height + unmarked r marks ≤ r.vertices
