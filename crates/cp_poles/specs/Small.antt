-- What Small changes, from what a board tells: the rewrite, and the kinds of the two ends.
use Rattle.std.specs.Prelude.{ℕ, cond, eqb, List, [], ◌∷◌, length, map, reverse, slice_index}
use Rattle.cp_board.specs.declared.parts.Kind.TheVariants.{Q}
use Rattle.cp_board.specs.declared.parts.Vert.{Vert}
use Rattle.cp_board.specs.declared.rewrite.Rewrite.{Rewrite}
use Rattle.cp_lists.specs.Turns.{turned_to_least}
use Rattle.cp_board.specs.Names.{new_names}
use Rattle.cp_board.specs.Instances.{Synchronized, cells, pairs_of, pipe_ends_of}

-- the first edges of the pairs, which are the psi of the first end
abbrev pub first_psi : List (ℕ × ℕ) → List ℕ
first_psi pairs = map (λ x. x.0) pairs

-- the second edges of the pairs in reverse, turned so that the least comes first: the psi of the second end
abbrev pub second_psi : List (ℕ × ℕ) → List ℕ
second_psi pairs = turned_to_least (reverse (map (λ x. x.1) pairs))

-- the two ends of a pipe as Q-vertices of one cell
abbrev pub fixed_ends : ℕ × ℕ → List (ℕ × ℕ) → ℕ → List Vert
fixed_ends ends pairs cell =
    record { name = ends.0; kind = Q cell (first_psi pairs) } ∷ record { name = ends.1; kind = Q cell (second_psi pairs) } ∷ []

-- the least number that is no live cell
abbrev pub new_cell : Synchronized → ℕ
new_cell i = slice_index (new_names (cells i) 1) 0

-- the vertices that get another kind: the two ends of a pipe of three pairs, and none else
abbrev pub kinds_after : Synchronized → ℕ → List Vert
kinds_after i pipe =
    cond (eqb (length (pairs_of i pipe)) 3) (fixed_ends (pipe_ends_of i pipe) (pairs_of i pipe) (new_cell i)) []

-- the rewrite that drops a pipe and sets some kinds
abbrev pub setting : ℕ → List Vert → Rewrite
setting pipe kinds = record {
  drop_pipes = pipe ∷ [];
  drop_verts = [];
  add_verts = [];
  set_kinds = kinds;
  moves = [];
  add_edges = [];
  add_pipes = [];
}
