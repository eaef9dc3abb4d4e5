-- The rewrites of the two Small of the worked run whose pipes have three pairs.
use Rattle.std.specs.Prelude.{ℕ, List, [], ◌∷◌, map}
use Rattle.cp_board.specs.declared.parts.Vert.{Vert}
use Rattle.cp_board.specs.declared.rewrite.Rewrite.{Rewrite}
use Rattle.cp_board.specs.Rows as rows

-- a Q-vertex by its name, its cell and its psi
abbrev pub fixed_row : ℕ × ℕ × List ℕ → Vert
fixed_row x = rows.fixed x.0 x.1 x.2

-- the rewrite that takes a pipe away and gives vertices these kinds
abbrev pub fixing : ℕ → List (ℕ × ℕ × List ℕ) → Rewrite
fixing pipe kinds = record {
  drop_pipes = pipe ∷ [];
  drop_verts = [];
  add_verts = [];
  set_kinds = map fixed_row kinds;
  moves = [];
  add_edges = [];
  add_pipes = [];
}

-- Small at pipe 1
abbrev pub first_small : Rewrite
first_small = fixing 1 ((6, 0, 1 ∷ 3 ∷ 7 ∷ []) ∷ (8, 0, 8 ∷ 11 ∷ 9 ∷ []) ∷ [])

-- and at pipe 3
abbrev pub second_small : Rewrite
second_small = fixing 3 ((10, 1, 0 ∷ 2 ∷ 4 ∷ []) ∷ (12, 1, 8 ∷ 10 ∷ 9 ∷ []) ∷ [])
