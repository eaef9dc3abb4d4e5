-- The first rule that an instance breaks, and where.
use Rattle.std.specs.Prelude.{◌≡◌, ◌≢◌, ℕ, ◌^◌, ◌<◌, List, [], ◌∷◌, ◌++◌, length, map, take, slice_index, slice_index_or}
use Rattle.std.specs.List.{All, Contains, flat_map, range_with_len}
use Rattle.cp_lists.specs.CyclicLists.{Lacks}
use Rattle.cp_board.specs.declared.parts.Kind.TheVariants.{P}
use Rattle.cp_board.specs.declared.parts.Vert.{Vert}
use Rattle.cp_board.specs.declared.parts.EdgeRow.{EdgeRow}
use Rattle.cp_board.specs.declared.parts.Pipe.{Pipe}
use Rattle.cp_board.specs.Instances.{Synchronized, graph, IsRightKind, HasRightEnds, HasRightPairs, vert_names, edge_names, pipe_names, cell_of}

-- a part of an instance, by its place in its list
pub data Part : Type 0 where
  VertAt : ℕ → Part
  EdgeAt : ℕ → Part
  PipeAt : ℕ → Part

-- vertices before edges and edges before pipes
abbrev pub parts : Synchronized → List Part
parts i =
    map VertAt (range_with_len 0 (length i.verts))
    ++ map EdgeAt (range_with_len 0 (length i.edges))
    ++ map PipeAt (range_with_len 0 (length i.pipes))

-- the name of a part
abbrev pub name_of : Synchronized → Part → ℕ
name_of i (VertAt k) = slice_index (vert_names i) k
name_of i (EdgeAt k) = slice_index (edge_names i) k
name_of i (PipeAt k) = slice_index (pipe_names i) k

-- the vertex at place k
abbrev pub vert_in_place : Synchronized → ℕ → Vert
vert_in_place i k = slice_index_or i.verts k record { name = 0; kind = P }

-- the edge at place k
abbrev pub edge_in_place : Synchronized → ℕ → EdgeRow
edge_in_place i k = slice_index_or i.edges k record { name = 0; a = 0; b = 0 }

-- the pipe at place k
abbrev pub pipe_in_place : Synchronized → ℕ → Pipe
pipe_in_place i k = slice_index_or i.pipes k record { name = 0; a = 0; b = 0; pairs = [] }

-- the name at place k fits and is greater than all before it
abbrev pub IsNextName : List ℕ → ℕ → Type 0
IsNextName names k = (slice_index names k < 2 ^ 63) × All (λ n. n < slice_index names k) (take k names)

-- the five rules
pub data Rule : Type 0 where
  Names : Rule
  Ends : Rule
  Lists : Rule
  PipeEnds : Rule
  Partners : Rule

-- the number of a rule, from 1 to 5
abbrev pub number : Rule → ℕ
number Names = 1
number Ends = 2
number Lists = 3
number PipeEnds = 4
number Partners = 5

-- the ends of an edge are two different vertices
abbrev pub HasEnds : Synchronized → EdgeRow → Type 0
HasEnds i e = Contains (vert_names i) e.a × Contains (vert_names i) e.b × (e.a ≢ e.b)

-- no pipe before place k has an end of the pipe there
abbrev pub IsApart : Synchronized → ℕ → Type 0
IsApart i k =
    let earlier = flat_map (λ p. p.a ∷ p.b ∷ []) (take k i.pipes) in
    Lacks (pipe_in_place i k).a earlier × Lacks (pipe_in_place i k).b earlier

-- the part keeps the rule
abbrev pub Keeps : Synchronized → Rule → Part → Type 0
Keeps i Names (VertAt k) = IsNextName (vert_names i) k × All (λ c. c < 2 ^ 63) (cell_of (vert_in_place i k).kind)
Keeps i Names (EdgeAt k) = IsNextName (edge_names i) k
Keeps i Names (PipeAt k) = IsNextName (pipe_names i) k
Keeps i Ends (EdgeAt k) = HasEnds i (edge_in_place i k)
Keeps i Lists (VertAt k) = IsRightKind (graph i) (vert_in_place i k).name (vert_in_place i k).kind
Keeps i PipeEnds (PipeAt k) = HasRightEnds i.verts (pipe_in_place i k) × IsApart i k
Keeps i Partners (PipeAt k) = HasRightPairs (graph i) (pipe_in_place i k)
Keeps i rule part = Unit {0}

-- the least rule that some part breaks, and the name of the first part that breaks it
pub record IsFirstBroken (i : Synchronized) (broken name : ℕ) : Type 0 where
  pub rule : Rule
  pub numbered : number rule ≡ broken
  pub place : ℕ
  pub within : place < length (parts i)
  pub named : name_of i (slice_index_or (parts i) place (VertAt 0)) ≡ name
  pub breaks : ¬ Keeps i rule (slice_index_or (parts i) place (VertAt 0))
  pub first : (k : ℕ) → k < place → Keeps i rule (slice_index_or (parts i) k (VertAt 0))
  pub least : (other : Rule) → number other < broken → All (Keeps i other) (parts i)
