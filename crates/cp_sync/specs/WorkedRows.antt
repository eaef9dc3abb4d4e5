-- The first Join of the worked run as a rewrite, and a bond of two vertices.
use Rattle.std.specs.Prelude.{ℕ, List, [], ◌∷◌, map}
use Rattle.cp_board.specs.declared.parts.EdgeRow.{EdgeRow}
use Rattle.cp_board.specs.declared.rewrite.EdgeMove.{EdgeMove}
use Rattle.cp_board.specs.declared.rewrite.Rewrite.{Rewrite}
use Rattle.cp_board.specs.Instances.{Synchronized}
use Rattle.cp_board.specs.Rows as rows

-- an edge, and a move, from its three numbers
abbrev pub edge_row : ℕ × ℕ × ℕ → EdgeRow
edge_row x = rows.edge x.0 x.1 x.2

-- a move of an edge, from its name, the end that it leaves and the one that it takes
abbrev pub edge_move : ℕ × ℕ × ℕ → EdgeMove
edge_move x = record { edge = x.0; from = x.1; to = x.2 }

-- the vertices 2 and 5 are parted, and their pipe goes
abbrev pub first_join : Rewrite
first_join = record {
  drop_pipes = 0 ∷ [];
  drop_verts = 2 ∷ 5 ∷ [];
  add_verts = map rows.vert (6 ∷ 7 ∷ 8 ∷ 9 ∷ 10 ∷ 11 ∷ 12 ∷ 13 ∷ []);
  set_kinds = [];
  moves =
      map edge_move ((1, 2, 6) ∷ (3, 2, 6) ∷ (5, 2, 7) ∷ (7, 2, 6) ∷ (0, 5, 10) ∷ (2, 5, 10) ∷ (4, 5, 10) ∷ (6, 5, 11) ∷ []);
  add_edges = map edge_row ((8, 8, 12) ∷ (9, 8, 12) ∷ (10, 9, 12) ∷ (11, 8, 13) ∷ []);
  add_pipes = rows.pipe_1 ∷ rows.pipe_2 ∷ rows.pipe_3 ∷ rows.pipe_4 ∷ [];
}

-- two vertices with four edges between them
abbrev pub bond : Synchronized
bond = record {
  verts = map rows.vert (0 ∷ 1 ∷ []);
  edges = map edge_row ((0, 0, 1) ∷ (1, 0, 1) ∷ (2, 0, 1) ∷ (3, 0, 1) ∷ []);
  pipes = [];
}

-- lists of their edges that are reverse to each other
abbrev pub bond_lists : List (ℕ × List ℕ)
bond_lists = (0, 0 ∷ 1 ∷ 2 ∷ 3 ∷ []) ∷ (1, 0 ∷ 3 ∷ 2 ∷ 1 ∷ []) ∷ []
