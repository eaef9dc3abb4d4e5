-- The worked run: an instance that one Join and four Small lead to one without pipes, step by step.
use Rattle.std.specs.Prelude.{◌≡◌, ℕ, List, [], ◌∷◌, refl}
use Rattle.cp_board.specs.declared.parts.Kind.TheVariants.{P, Q}
use Rattle.cp_board.specs.declared.parts.Vert.{Vert}
use Rattle.cp_board.specs.declared.parts.EdgeRow.{EdgeRow}
use Rattle.cp_board.specs.declared.parts.Pipe.{Pipe}
use Rattle.cp_lists.specs.Turns.{turned_to_least}
use Rattle.cp_board.specs.Names.{new_names}
use Rattle.cp_board.specs.Instances.{Synchronized, vert_names, edges_of}
use Rattle.cp_board.specs.Runs.{potential}

-- a P-vertex by its name
abbrev pub vert : ℕ → Vert
vert v = record { name = v; kind = P }

-- a Q-vertex by its name, its cell and its psi
abbrev pub fixed : ℕ → ℕ → List ℕ → Vert
fixed v cell psi = record { name = v; kind = Q cell psi }

-- an edge by its name and its two ends
abbrev pub edge : ℕ → ℕ → ℕ → EdgeRow
edge e a b = record { name = e; a = a; b = b }

-- a pipe by its name, its two ends and its pairs
abbrev pub pipe : ℕ → ℕ → ℕ → List (ℕ × ℕ) → Pipe
pipe p a b pairs = record { name = p; a = a; b = b; pairs = pairs }

-- the only pipe of the first instance, of degree 4 between the vertices 2 and 5
abbrev pub first_pipe : Pipe
first_pipe = pipe 0 2 5 ((1, 0) ∷ (3, 2) ∷ (5, 4) ∷ (7, 6) ∷ [])

-- the first instance: six P-vertices, eight edges and one pipe
abbrev pub first : Synchronized
first = record {
  verts = vert 0 ∷ vert 1 ∷ vert 2 ∷ vert 3 ∷ vert 4 ∷ vert 5 ∷ [];
  edges =
      edge 0 3 5 ∷ edge 1 2 0 ∷ edge 2 3 5 ∷ edge 3 2 0
      ∷ edge 4 3 5 ∷ edge 5 2 1 ∷ edge 6 4 5 ∷ edge 7 2 0 ∷ [];
  pipes = first_pipe ∷ [];
}

-- the edges after the Join, with four new ones
abbrev pub joined_edges : List EdgeRow
joined_edges =
    edge 0 3 10 ∷ edge 1 6 0 ∷ edge 2 3 10 ∷ edge 3 6 0 ∷ edge 4 3 10 ∷ edge 5 7 1 ∷ edge 6 4 11 ∷ edge 7 6 0
    ∷ edge 8 8 12 ∷ edge 9 8 12 ∷ edge 10 9 12 ∷ edge 11 8 13 ∷ []

-- the pipe at the part of three edges of vertex 2
abbrev pub pipe_1 : Pipe
pipe_1 = pipe 1 6 8 ((1, 8) ∷ (3, 9) ∷ (7, 11) ∷ [])

-- and the one at its part of one edge
abbrev pub pipe_2 : Pipe
pipe_2 = pipe 2 7 9 ((5, 10) ∷ [])

-- the pipe at the part of three edges of vertex 5
abbrev pub pipe_3 : Pipe
pipe_3 = pipe 3 10 12 ((0, 8) ∷ (2, 9) ∷ (4, 10) ∷ [])

-- and the one at its part of one edge
abbrev pub pipe_4 : Pipe
pipe_4 = pipe 4 11 13 ((6, 11) ∷ [])

-- after the Join
abbrev pub joined : Synchronized
joined = record {
  verts =
      vert 0 ∷ vert 1 ∷ vert 3 ∷ vert 4 ∷ vert 6 ∷ vert 7
      ∷ vert 8 ∷ vert 9 ∷ vert 10 ∷ vert 11 ∷ vert 12 ∷ vert 13 ∷ [];
  edges = joined_edges;
  pipes = pipe_1 ∷ pipe_2 ∷ pipe_3 ∷ pipe_4 ∷ [];
}

-- after the Small at pipe 1
abbrev pub second : Synchronized
second = record {
  verts =
      vert 0 ∷ vert 1 ∷ vert 3 ∷ vert 4
      ∷ fixed 6 0 (1 ∷ 3 ∷ 7 ∷ []) ∷ vert 7 ∷ fixed 8 0 (8 ∷ 11 ∷ 9 ∷ []) ∷ vert 9
      ∷ vert 10 ∷ vert 11 ∷ vert 12 ∷ vert 13 ∷ [];
  edges = joined_edges;
  pipes = pipe_2 ∷ pipe_3 ∷ pipe_4 ∷ [];
}

-- the vertices after the Small at pipe 3: the ends of the pipes 1 and 3 are Q-vertices of two cells
abbrev pub last_verts : List Vert
last_verts =
    vert 0 ∷ vert 1 ∷ vert 3 ∷ vert 4
    ∷ fixed 6 0 (1 ∷ 3 ∷ 7 ∷ []) ∷ vert 7 ∷ fixed 8 0 (8 ∷ 11 ∷ 9 ∷ []) ∷ vert 9
    ∷ fixed 10 1 (0 ∷ 2 ∷ 4 ∷ []) ∷ vert 11 ∷ fixed 12 1 (8 ∷ 10 ∷ 9 ∷ []) ∷ vert 13 ∷ []

-- the instance after the Small at pipe 3
abbrev pub third : Synchronized
third = record { verts = last_verts; edges = joined_edges; pipes = pipe_2 ∷ pipe_4 ∷ [] }

-- the instance after the Small at pipe 2
abbrev pub fourth : Synchronized
fourth = record { verts = last_verts; edges = joined_edges; pipes = pipe_4 ∷ [] }

-- the instance after the Small at pipe 4, without pipes
abbrev pub last : Synchronized
last = record { verts = last_verts; edges = joined_edges; pipes = [] }

-- the eight new vertices of the Join have the names 6 to 13
first_new : new_names (vert_names first) 8 ≡ 6 ∷ 7 ∷ 8 ∷ 9 ∷ 10 ∷ 11 ∷ 12 ∷ 13 ∷ []
first_new = refl

-- vertex 5 of the first instance has the edges 0, 2, 4 and 6
first_edges_at : edges_of first 5 ≡ 0 ∷ 2 ∷ 4 ∷ 6 ∷ []
first_edges_at = refl

-- the list 11, 9, 8 turned to begin with its least item is 8, 11, 9
turned : turned_to_least (11 ∷ 9 ∷ 8 ∷ []) ≡ 8 ∷ 11 ∷ 9 ∷ []
turned = refl

-- the potential is 81 at first, 60 after the Join and 0 at the end
potentials : (potential first ≡ 81) × (potential joined ≡ 60) × (potential last ≡ 0)
potentials = (refl, refl, refl)
