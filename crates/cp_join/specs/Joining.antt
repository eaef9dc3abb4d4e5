-- What Join changes, from what a board tells: the rewrite from the parts of both ends and the new names.
use Rattle.std.specs.Prelude.{ℕ, List, [], ◌∷◌, ◌++◌, map, slice_index}
use Rattle.std.specs.List.{flat_map, zip}
use Rattle.cp_board.specs.declared.parts.EdgeRow.{EdgeRow}
use Rattle.cp_board.specs.declared.rewrite.EdgeMove.{EdgeMove}
use Rattle.cp_board.specs.declared.rewrite.Rewrite.{Rewrite}
use Rattle.cp_conn.specs.NamedGraphs.{rank}
use Rattle.cp_board.specs.Changes.{free_vert}
use Rattle.cp_board.specs.Joins.{vertex_for, part_pipes}
use Rattle.cp_join.specs.declared.parted_ends.Parting.{Parting}
use Rattle.cp_join.specs.Partings.{new_verts}

-- the edges of one part move from u to its outer vertex
abbrev pub moves_to : ℕ → ℕ → List ℕ → List EdgeMove
moves_to u outer part = map (λ e. record { edge = e; from = u; to = outer }) part

-- the edges of u move to the outer vertices of their parts
abbrev pub part_moves : ℕ → List ℕ → List (List ℕ) → List EdgeMove
part_moves u outer parts = flat_map (λ x. moves_to u x.0 x.1) (zip outer parts)

-- the new edge of an edge among some, in their order
abbrev pub hat_among : List ℕ → List ℕ → ℕ → ℕ
hat_among edges hats e = slice_index hats (rank edges e)

-- the new edge of a pair, from the inner vertex of the part of its first edge to that of its second
abbrev pub hat_row : List (List ℕ) → List ℕ → List (List ℕ) → List ℕ → ℕ × (ℕ × ℕ) → EdgeRow
hat_row parts_a inner_a parts_b inner_b x = record {
  name = x.0;
  a = vertex_for parts_a inner_a x.1.0;
  b = vertex_for parts_b inner_b x.1.1;
}

-- the rewrite of Join at a pipe of these ends and pairs
abbrev pub joining : ℕ → ℕ × ℕ → List (ℕ × ℕ) → Parting → Parting → List ℕ → Rewrite
joining pipe ends pairs s t hats = record {
  drop_pipes = pipe ∷ [];
  drop_verts = ends.0 ∷ ends.1 ∷ [];
  add_verts = map free_vert (new_verts s t);
  set_kinds = [];
  moves = part_moves ends.0 s.outer s.parts ++ part_moves ends.1 t.outer t.parts;
  add_edges = map (hat_row s.parts s.inner t.parts t.inner) (zip hats pairs);
  add_pipes =
      part_pipes (hat_among (map (λ x. x.0) pairs) hats) s.names s.outer s.inner s.parts
      ++ part_pipes (hat_among (map (λ x. x.1) pairs) hats) t.names t.outer t.inner t.parts;
}
