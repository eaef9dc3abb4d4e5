-- Tables of an instance: what each vertex has.
use Rattle.std.specs.Prelude.{◌≡◌, ◌≢◌, ◌⊎◌, ◌||◌, eqb, cond, ℕ, ◌<◌, ◌≤◌, List, [], ◌∷◌, ◌++◌, length, slice_index_or, Option, Some, None}
use Rattle.std.specs.Option.{option_map}
use Rattle.cp_board.specs.declared.parts.Kind.TheVariants.{P}
use Rattle.cp_board.specs.declared.parts.Vert.{Vert}
use Rattle.cp_board.specs.declared.parts.EdgeRow.{EdgeRow}
use Rattle.cp_board.specs.declared.parts.Pipe.{Pipe}
use Rattle.cp_board.specs.Instances.{names_at, pipe_with}
use Rattle.cp_board.specs.Steps.{degree}

-- the vertex at place k
abbrev pub vert_at : List Vert → ℕ → Vert
vert_at verts k = slice_index_or verts k record { name = 0; kind = P }

-- n empty lists
pub record AreEmpty (n : ℕ) (lists : List (List ℕ)) : Type 0 where
  pub size : length lists ≡ n
  pub each : (k : ℕ) → k < n → slice_index_or lists k [] ≡ []

-- the edge is added to the list of each vertex that it ends at, and the others stay
pub record IsPut (verts : List Vert) (e : EdgeRow) (before after : List (List ℕ)) : Type 0 where
  pub one_each : length after ≡ length before
  pub each : (k : ℕ) → k < length verts
      → slice_index_or after k [] ≡ slice_index_or before k [] ++ names_at (e ∷ []) (vert_at verts k).name

-- for each vertex, by its place, its edges in the order of the edges
pub record AreAdjacent (verts : List Vert) (edges : List EdgeRow) (at : List (List ℕ)) : Type 0 where
  pub one_each : length at ≡ length verts
  pub each : (k : ℕ) → k < length verts → slice_index_or at k [] ≡ names_at edges (vert_at verts k).name

-- for each vertex, by its place, the name of the pipe of which it is an end
pub record ArePiped (verts : List Vert) (pipes : List Pipe) (at : List (Option ℕ)) : Type 0 where
  pub one_each : length at ≡ length verts
  pub each : (k : ℕ) → k < length verts
      → slice_index_or at k None ≡ option_map (λ p. p.name) (pipe_with pipes (vert_at verts k).name)

-- n vertices of no pipe
pub record AreUnpiped (n : ℕ) (at : List (Option ℕ)) : Type 0 where
  pub size : length at ≡ n
  pub each : (k : ℕ) → k < n → slice_index_or at k None ≡ None

-- v is a P-vertex that has no pipe
pub record IsFreeEnd (verts : List Vert) (at : List (Option ℕ)) (v : ℕ) : Type 0 where
  pub place : ℕ
  pub within : place < length verts
  pub named : (vert_at verts place).name ≡ v
  pub any_order : (vert_at verts place).kind ≡ P
  pub unpiped : slice_index_or at place None ≡ None

-- the ends of the pipe are two different P-vertices that have no pipe
abbrev pub IsFreePipe : List Vert → List (Option ℕ) → Pipe → Type 0
IsFreePipe verts at p = IsFreeEnd verts at p.a × IsFreeEnd verts at p.b × (p.a ≢ p.b)

-- the ends of the pipe have it, and the others stay
pub record IsMarked (verts : List Vert) (p : Pipe) (before after : List (Option ℕ)) : Type 0 where
  pub one_each : length after ≡ length before
  pub each : (k : ℕ) → k < length verts
      → slice_index_or after k None
      ≡ cond (eqb p.a (vert_at verts k).name || eqb p.b (vert_at verts k).name) (Some p.name) (slice_index_or before k None)

-- of the first n pipes none has a greater degree than that at place b, and none before b has the same
pub record IsGreatestPlace (ps : List Pipe) (n b : ℕ) : Type 0 where
  pub within : b < n
  pub others : (j : ℕ) (d : Pipe) → j < n
      → (degree (slice_index_or ps j d) < degree (slice_index_or ps b d))
      ⊎ ((degree (slice_index_or ps j d) ≡ degree (slice_index_or ps b d)) × (b ≤ j))
