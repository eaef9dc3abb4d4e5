-- The rewrite of a Join, and of the Small behind it.
use Rattle.std.proofs.Common.{◌≡◌, ℕ, List, [], ◌∷◌, refl}
use Rattle.std.specs.Prelude.{map}
use Rattle.cp_board.specs.declared.rewrite.EdgeMove.{EdgeMove}
use Rattle.cp_board.specs.declared.rewrite.Rewrite.{Rewrite}
use Rattle.cp_board.specs.Rewrites.{rewritten}
use Rattle.cp_board.specs.Rows as rows

-- the rewrite of the Join: two vertices and a pipe go, eight vertices, four edges and four pipes come
abbrev join_rewrite : Rewrite
join_rewrite = record {
  drop_pipes = 0 ∷ [];
  drop_verts = 2 ∷ 5 ∷ [];
  add_verts = map rows.vert (6 ∷ 7 ∷ 8 ∷ 9 ∷ 10 ∷ 11 ∷ 12 ∷ 13 ∷ []);
  set_kinds = [];
  moves = record { edge = 1; from = 2; to = 6 } ∷ record { edge = 3; from = 2; to = 6 } ∷ record { edge = 5; from = 2; to = 7 } ∷ record { edge = 7; from = 2; to = 6 } ∷ record { edge = 0; from = 5; to = 10 } ∷ record { edge = 2; from = 5; to = 10 } ∷ record { edge = 4; from = 5; to = 10 } ∷ record { edge = 6; from = 5; to = 11 } ∷ [];
  add_edges = rows.edge 8 8 12 ∷ rows.edge 9 8 12 ∷ rows.edge 10 9 12 ∷ rows.edge 11 8 13 ∷ [];
  add_pipes = rows.pipe_1 ∷ rows.pipe_2 ∷ rows.pipe_3 ∷ rows.pipe_4 ∷ [];
}

-- it makes the joined instance of the first
join_rewritten : rewritten join_rewrite rows.first ≡ rows.joined
join_rewritten = refl

-- the rewrite of the Small at pipe 1: the pipe goes, and its ends become Q-vertices of one cell
abbrev small_rewrite : Rewrite
small_rewrite = record {
  drop_pipes = 1 ∷ [];
  drop_verts = [];
  add_verts = [];
  set_kinds = rows.fixed 6 0 (1 ∷ 3 ∷ 7 ∷ []) ∷ rows.fixed 8 0 (8 ∷ 11 ∷ 9 ∷ []) ∷ [];
  moves = [];
  add_edges = [];
  add_pipes = [];
}

-- it makes the second instance of the joined one
small_rewritten : rewritten small_rewrite rows.joined ≡ rows.second
small_rewritten = refl
