-- The parts of an instance under their names, and its pipes by their first ends.
use Rattle.std.specs.Prelude.{ℕ, cond, eqb, List, [], ◌∷◌, Option, Some, None}
use Rattle.std.specs.List.{flat_map}
use Rattle.cp_board.specs.declared.parts.Kind.TheVariants.{P, Q}
use Rattle.cp_board.specs.declared.parts.Vert.{Vert}
use Rattle.cp_board.specs.declared.parts.EdgeRow.{EdgeRow}
use Rattle.cp_board.specs.declared.parts.Pipe.{Pipe}
use Rattle.cp_board.specs.Instances.{Synchronized, vert_names, is_q, cell_at, psi_at, ends_of, pipe_at, pipe_ends_of, pairs_of}

-- the vertex of this name
abbrev pub vert_under : Synchronized → ℕ → Vert
vert_under i v = record { name = v; kind = cond (is_q i v) (Q (cell_at i v) (psi_at i v)) P }

-- the edge of this name
abbrev pub edge_under : Synchronized → ℕ → EdgeRow
edge_under i e = record { name = e; a = (ends_of i e).0; b = (ends_of i e).1 }

-- the pipe of this name
abbrev pub pipe_under : Synchronized → ℕ → Pipe
pipe_under i p = record { name = p; a = (pipe_ends_of i p).0; b = (pipe_ends_of i p).1; pairs = pairs_of i p }

-- the name of the pipe, where v is its first end
abbrev pub name_from : ℕ → Option Pipe → List ℕ
name_from v None = []
name_from v (Some p) = cond (eqb p.a v) (p.name ∷ []) []

-- the pipe whose first end is v
abbrev pub pipes_from : Synchronized → ℕ → List ℕ
pipes_from i v = name_from v (pipe_at i v)

-- all pipes, by their first ends
abbrev pub pipes_by_ends : Synchronized → List ℕ
pipes_by_ends i = flat_map (pipes_from i) (vert_names i)
