-- What gluing writes: the vertex of each number, and the list of each vertex.
use Rattle.std.specs.Prelude.{◌≡◌, ◌≢◌, ℕ, ◌+◌, ◌-◌, ◌*◌, ◌<◌, ltb, cond, List, length, map, slice_index}
use Rattle.cp_lists.specs.Count.{count}
use Rattle.cp_rot.specs.Systems.{System, darts, edges, vertex_of, list_of}
use Rattle.cp_rotlaw.specs.Glue.{edge_avoids, first_vertex, second_vertex, second_dart}

-- the vertex that has number x, where u is left out and the others keep their order
abbrev pub old_vertex : ℕ → ℕ → ℕ
old_vertex u x = cond (ltb x u) x (x + 1)

-- list x of the result: those of a but that of u, and behind them those of b but that of w, with new numbers
abbrev pub glued_list : System → ℕ → System → ℕ → (ℕ → ℕ) → ℕ → List ℕ
glued_list a u b w numbers x = cond (ltb x (a.vertices - 1))
    (list_of a (old_vertex u x))
    (map numbers (list_of b (old_vertex w (x - (a.vertices - 1)))))

-- the table tells the number of each dart of b that does not stand at w, and kept is how many edges do not end there
pub record AreNumbers (a b : System) (w : ℕ) (pairs : List (ℕ × ℕ)) (numbers : List ℕ) (kept : ℕ) : Type 0 where
  pub size : darts b ≡ length numbers
  pub kept_is : kept ≡ count (edges b) (edge_avoids b w)
  pub told : (d : ℕ) → d < darts b → vertex_of b d ≢ w → slice_index numbers d ≡ second_dart a b w pairs d

-- the table tells at which vertices the darts stand
pub record AreVertices (a : System) (u : ℕ) (b : System) (w : ℕ) (pairs : List (ℕ × ℕ)) (at : List ℕ) : Type 0 where
  pub size : length at ≡ darts a + 2 * count (edges b) (edge_avoids b w)
  pub first : (d : ℕ) → d < darts a → vertex_of a d ≢ u → slice_index at d ≡ first_vertex u (vertex_of a d)
  pub second : (d : ℕ) → d < darts b → vertex_of b d ≢ w
      → slice_index at (second_dart a b w pairs d) ≡ second_vertex a w (vertex_of b d)
