-- Instances of synchronized planarity (Bläsius, Fink and Rutter 2021), and the rules that they keep.
use Rattle.std.specs.Prelude.{◌≡◌, ◌≢◌, ℕ, ◌^◌, ◌<◌, Bool, true, false, ◌||◌, eqb, List, [], ◌∷◌, map, take, Option, Some, None}
use Rattle.std.specs.List.{All, Contains, filter, find, flat_map}
use Rattle.std.specs.List.Sorted.{IsStrictlyIncreasing}
use Rattle.std.specs.Option.{option_map, option_map_or}
use Rattle.cp_lists.specs.CyclicLists.{Distinct}
use Rattle.cp_board.specs.declared.parts.Kind.{Kind}
use Rattle.cp_board.specs.declared.parts.Kind.TheVariants.{P, Q}
use Rattle.cp_board.specs.declared.parts.Vert.{Vert}
use Rattle.cp_board.specs.declared.parts.EdgeRow.{EdgeRow}
use Rattle.cp_board.specs.declared.parts.Pipe.{Pipe}
use Rattle.cp_conn.specs.NamedGraphs.{NamedGraph, edges_at}
use Rattle.cp_board.specs.Rotations.{ArrangesEdges}

-- vertices, edges and pipes
pub record Synchronized : Type 0 where
  pub verts : List Vert
  pub edges : List EdgeRow
  pub pipes : List Pipe

-- the names of some vertices
abbrev pub names_of_verts : List Vert → List ℕ
names_of_verts vs = map (λ v. v.name) vs

-- the names of the vertices of an instance
abbrev pub vert_names : Synchronized → List ℕ
vert_names i = names_of_verts i.verts

-- the names of some edges
abbrev pub names_of_edges : List EdgeRow → List ℕ
names_of_edges es = map (λ e. e.name) es

-- the names of the edges of an instance
abbrev pub edge_names : Synchronized → List ℕ
edge_names i = names_of_edges i.edges

-- the names of the pipes of an instance
abbrev pub pipe_names : Synchronized → List ℕ
pipe_names i = map (λ p. p.name) i.pipes

-- the cell of a Q-vertex
abbrev pub cell_of : Kind → List ℕ
cell_of P = []
cell_of (Q cell psi) = cell ∷ []

-- the cells that are live, one time for each Q-vertex
abbrev pub cells : Synchronized → List ℕ
cells i = flat_map (λ v. cell_of v.kind) i.verts

-- the vertex named v, and its kind
abbrev pub vert_in : List Vert → ℕ → Option Vert
vert_in vs v = find (λ x. eqb x.name v) vs

-- the kind of the vertex named v among some, if it is there
abbrev pub kind_in : List Vert → ℕ → Option Kind
kind_in vs v = option_map (λ x. x.kind) (vert_in vs v)

-- and its kind in an instance
abbrev pub kind_of : Synchronized → ℕ → Option Kind
kind_of i v = kind_in i.verts v

-- the edge named e, and its two ends
abbrev pub edge_in : List EdgeRow → ℕ → Option EdgeRow
edge_in es e = find (λ x. eqb x.name e) es

-- the two ends of the edge named e among some
abbrev pub ends_in : List EdgeRow → ℕ → ℕ × ℕ
ends_in es e = option_map_or (λ x. (x.a, x.b)) (edge_in es e) (0, 0)

-- and its two ends in an instance
abbrev pub ends_of : Synchronized → ℕ → ℕ × ℕ
ends_of i e = ends_in i.edges e

-- the graph of an instance: its vertices and edges by their names, with the ends of each edge
abbrev pub graph : Synchronized → NamedGraph
graph i = record { verts = vert_names i; edges = edge_names i; ends = ends_of i }

-- the edges of v, rising
abbrev pub edges_of : Synchronized → ℕ → List ℕ
edges_of i v = edges_at (graph i) v

-- the edges with an end v, by their rows
abbrev pub names_at : List EdgeRow → ℕ → List ℕ
names_at es v = map (λ e. e.name) (filter (λ e. eqb e.a v || eqb e.b v) es)

-- the pipe named p, and the pipe of which v is an end
abbrev pub pipe_in : List Pipe → ℕ → Option Pipe
pipe_in ps p = find (λ x. eqb x.name p) ps

-- the pipe among some of which v is an end, if there is one
abbrev pub pipe_with : List Pipe → ℕ → Option Pipe
pipe_with ps v = find (λ x. eqb x.a v || eqb x.b v) ps

-- the pipe named p of an instance, if it is there
abbrev pub pipe_named : Synchronized → ℕ → Option Pipe
pipe_named i p = pipe_in i.pipes p

-- the pipe of an instance of which v is an end, if there is one
abbrev pub pipe_at : Synchronized → ℕ → Option Pipe
pipe_at i v = pipe_with i.pipes v

-- the two ends and the pairs of the pipe named p
abbrev pub pipe_ends_of : Synchronized → ℕ → ℕ × ℕ
pipe_ends_of i p = option_map_or (λ x. (x.a, x.b)) (pipe_named i p) (0, 0)

-- the pairs of the pipe named p
abbrev pub pairs_of : Synchronized → ℕ → List (ℕ × ℕ)
pairs_of i p = option_map_or (λ x. x.pairs) (pipe_named i p) []

-- the vertex named v is a Q-vertex; its cell and its psi
abbrev pub is_q_kind : Option Kind → Bool
is_q_kind None = false
is_q_kind (Some P) = false
is_q_kind (Some (Q cell psi)) = true

-- the vertex named v of an instance is a Q-vertex
abbrev pub is_q : Synchronized → ℕ → Bool
is_q i v = is_q_kind (kind_of i v)

-- the cell of a kind, and 0 for a P-vertex
abbrev pub kind_cell : Kind → ℕ
kind_cell P = 0
kind_cell (Q cell psi) = cell

-- the psi of a kind, empty for a P-vertex
abbrev pub kind_psi : Kind → List ℕ
kind_psi P = []
kind_psi (Q cell psi) = psi

-- the cell of the vertex named v
abbrev pub cell_at : Synchronized → ℕ → ℕ
cell_at i v = option_map_or kind_cell (kind_of i v) 0

-- the psi of the vertex named v
abbrev pub psi_at : Synchronized → ℕ → List ℕ
psi_at i v = option_map_or kind_psi (kind_of i v) []

-- a P-vertex
abbrev pub IsPVertex : Synchronized → ℕ → Type 0
IsPVertex i v = kind_of i v ≡ Some P

-- the psi of a Q-vertex arranges its edges and begins with the least
abbrev pub IsRightKind : NamedGraph → ℕ → Kind → Type 0
IsRightKind g v P = Unit {0}
IsRightKind g v (Q cell psi) = ArrangesEdges g v psi × (take 1 psi ≡ take 1 (edges_at g v))

-- the ends of a pipe are two different P-vertices
pub record HasRightEnds (vs : List Vert) (p : Pipe) : Type 0 where
  pub differ : p.a ≢ p.b
  pub free_a : kind_in vs p.a ≡ Some P
  pub free_b : kind_in vs p.b ≡ Some P

-- the pairs of a pipe tell one partner at b for each edge of a, rising by the edges of a
pub record HasRightPairs (g : NamedGraph) (p : Pipe) : Type 0 where
  pub first : map (λ x. x.0) p.pairs ≡ edges_at g p.a
  pub second : ArrangesEdges g p.b (map (λ x. x.1) p.pairs)

-- names rise, and each is below 9223372036854775808
pub record AreNames (names : List ℕ) : Type 0 where
  pub rise : IsStrictlyIncreasing names
  pub fit : All (λ n. n < 2 ^ 63) names

-- the five rules
pub record IsSynchronized (i : Synchronized) : Type 0 where
  pub verts_named : AreNames (vert_names i)
  pub edges_named : AreNames (edge_names i)
  pub pipes_named : AreNames (pipe_names i)
  pub cells_fit : All (λ c. c < 2 ^ 63) (cells i)
  pub ends_live : All (λ e. Contains (vert_names i) e.a × Contains (vert_names i) e.b) i.edges
  pub ends_differ : All (λ e. e.a ≢ e.b) i.edges
  pub lists_right : All (λ v. IsRightKind (graph i) v.name v.kind) i.verts
  pub ends_free : All (HasRightEnds i.verts) i.pipes
  pub ends_apart : Distinct (flat_map (λ p. p.a ∷ p.b ∷ []) i.pipes)
  pub pairs_right : All (HasRightPairs (graph i)) i.pipes
