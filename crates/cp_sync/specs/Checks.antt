-- Passes over the parts of an instance that look for the first that breaks a rule.
use Rattle.std.specs.Prelude.{◌≡◌, ℕ, ◌^◌, ◌<◌, List, [], length, map, take, slice_index_or}
use Rattle.std.specs.List.{All}
use Rattle.std.specs.List.Sorted.{IsPermutation, IsStrictlyIncreasing}
use Rattle.cp_board.specs.declared.parts.Kind.{Kind}
use Rattle.cp_board.specs.declared.parts.Kind.TheVariants.{P, Q}
use Rattle.cp_board.specs.declared.parts.Vert.{Vert}
use Rattle.cp_board.specs.declared.parts.Pipe.{Pipe}
use Rattle.cp_board.specs.Instances.{names_of_verts, cell_of}
use Rattle.cp_board.specs.Faults.{IsNextName}
use Rattle.cp_sync.specs.Tables.{vert_at}

-- the property holds of all numbers below n
abbrev pub AllBelow : (ℕ → Type 0) → ℕ → Type 0
AllBelow holds n = (k : ℕ) → k < n → holds k

-- k is the first of the numbers below n of which the property does not hold
pub record IsFirstFailing (holds : ℕ → Type 0) (n k : ℕ) : Type 0 where
  pub within : k < n
  pub fails : ¬ holds k
  pub before : AllBelow holds k

-- the cells of a kind fit
abbrev pub HasFittingCell : Kind → Type 0
HasFittingCell kind = All (λ c. c < 2 ^ 63) (cell_of kind)

-- the vertex at place k has the next name, and a cell that fits
abbrev pub IsNextVert : List Vert → ℕ → Type 0
IsNextVert verts k = IsNextName (names_of_verts verts) k × HasFittingCell (vert_at verts k).kind

-- each of the lists rises
abbrev pub AllRise : List (List ℕ) → Type 0
AllRise at = (k : ℕ) → k < length at → IsStrictlyIncreasing (slice_index_or at k [])

-- the psi of a Q-vertex arranges these edges and begins with the first of them
abbrev pub IsRightList : List ℕ → Kind → Type 0
IsRightList edges P = Unit {0}
IsRightList edges (Q cell psi) = IsPermutation edges psi × (take 1 psi ≡ take 1 edges)

-- the list of the vertex at place k is right
abbrev pub HasRightList : List Vert → List (List ℕ) → ℕ → Type 0
HasRightList verts at k = IsRightList (slice_index_or at k []) (vert_at verts k).kind

-- the pairs tell one partner among the second edges for each of the first edges, in their order
abbrev pub ArePairs : List ℕ → List ℕ → List (ℕ × ℕ) → Type 0
ArePairs firsts seconds pairs = (map (λ x. x.0) pairs ≡ firsts) × IsPermutation seconds (map (λ x. x.1) pairs)

-- the pipe at place k
abbrev pub pipe_row : List Pipe → ℕ → Pipe
pipe_row pipes k = slice_index_or pipes k record { name = 0; a = 0; b = 0; pairs = [] }

-- the pairs tell one partner for each edge of the vertex at place a among those of the vertex at place b
abbrev pub PairAt : List (List ℕ) → List (ℕ × ℕ) → ℕ → ℕ → Type 0
PairAt at pairs a b = ArePairs (slice_index_or at a []) (slice_index_or at b []) pairs

-- the pairs of the pipe at place k are right at the places of its ends
abbrev pub HasRightPartners : List Vert → List (List ℕ) → List Pipe → ℕ → Type 0
HasRightPartners verts at pipes k = (a b : ℕ) → a < length verts → b < length verts
    → (vert_at verts a).name ≡ (pipe_row pipes k).a
    → (vert_at verts b).name ≡ (pipe_row pipes k).b
    → PairAt at (pipe_row pipes k).pairs a b
