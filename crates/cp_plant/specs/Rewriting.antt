-- The parts of the rewrite that Propagate makes: a vertex and a move at a time.
use Rattle.std.specs.Prelude.{◌≡◌, ◌<◌, ◌^◌, ℕ, suc, cond, ltb, Bool, true, false, List, [], ◌∷◌, ◌++◌, length, map, reverse, slice_index}
use Rattle.std.specs.List.{zip}
use Rattle.cp_lists.specs.Turns.{turned_to_least}
use Rattle.cp_board.specs.declared.parts.Kind.{Kind}
use Rattle.cp_board.specs.declared.parts.Kind.TheVariants.{P, Q}
use Rattle.cp_board.specs.declared.parts.Vert.{Vert}
use Rattle.cp_board.specs.declared.parts.Pipe.{Pipe}
use Rattle.cp_board.specs.declared.rewrite.EdgeMove.{EdgeMove}
use Rattle.cp_board.specs.declared.rewrite.Rewrite.{Rewrite}
use Rattle.cp_board.specs.Changes.{pairs_by_first}
use Rattle.cp_base.specs.declared.shape.Shape.{Shape}
use Rattle.cp_board.specs.Instances.{Synchronized, edge_names, edges_of, vert_names}
use Rattle.cp_board.specs.Names.{AreNew}
use Rattle.cp_board.specs.Plantings.{Planted, Plants, holder, tree_edges}
use Rattle.cp_board.specs.Steps.{opposite, partner}

-- edges in their order, or in its reverse in the mirror
abbrev pub order_of : Bool → List ℕ → List ℕ
order_of true es = reverse es
order_of false es = es

-- the kind of the vertex of a row: that of a Q-node has its edges and this cell
abbrev pub planted_kind : Bool → ℕ → Planted → Kind
planted_kind mirrored cell r = cond r.fixed (Q cell (turned_to_least (order_of mirrored r.edges))) P

-- the vertex of a row
abbrev pub planted_vert : Bool → ℕ → Planted → Vert
planted_vert mirrored cell r = record { name = r.vertex; kind = planted_kind mirrored cell r }

-- the number n, raised by one for each Q-node
abbrev pub fixed_from : ℕ → List Planted → ℕ
fixed_from n [] = n
fixed_from n (r ∷ rs) = fixed_from (cond r.fixed (suc n) n) rs

-- the vertices of the rows, where the Q-nodes take the cells in turn, from place n on
abbrev pub planted_verts : Bool → List ℕ → ℕ → List Planted → List Vert
planted_verts mirrored cells n [] = []
planted_verts mirrored cells n (r ∷ rs) =
    planted_vert mirrored (slice_index cells n) r ∷ planted_verts mirrored cells (cond r.fixed (suc n) n) rs

-- the pipe between the vertices of two P-nodes
abbrev pub planted_pipe : ℕ → Planted → Planted → Pipe
planted_pipe name r q = record {
  name = name;
  a = r.vertex;
  b = q.vertex;
  pairs = pairs_by_first (zip r.edges q.edges);
}

-- the number n, raised by one for each P-node of the first rows
abbrev pub free_from : ℕ → List (Planted × Planted) → ℕ
free_from n [] = n
free_from n (x ∷ xs) = free_from (cond x.0.fixed n (suc n)) xs

-- the pipes between P-nodes of one place, which take the names in turn, from place n on
abbrev pub planted_pipes : List ℕ → ℕ → List (Planted × Planted) → List Pipe
planted_pipes names n [] = []
planted_pipes names n (x ∷ xs) = cond x.0.fixed
    (planted_pipes names n xs)
    (planted_pipe (slice_index names n) x.0 x.1 ∷ planted_pipes names (suc n) xs)

-- the moves of some edges from u to the vertices that hold them
abbrev pub end_moves : ℕ → List Planted → List ℕ → List EdgeMove
end_moves u rows edges = map (λ e. record { edge = e; from = u; to = holder rows e }) edges

-- the place of the first pair whose first edge is greater, or the number of pairs
abbrev pub place_of : List (ℕ × ℕ) → ℕ → ℕ
place_of [] e = 0
place_of (y ∷ ys) e = cond (ltb e y.0) 0 (suc (place_of ys e))

-- what is planted at one end: the end and its edges, the rows, and the names of the edges between nodes
pub record PlantedEnd : Type 0 where
  pub end : ℕ
  pub own : List ℕ
  pub rows : List Planted
  pub edges : List ℕ

-- the rewrite of Propagate: pipe and ends go, and what is planted at both ends comes, with these cells and names of pipes
abbrev pub propagating : ℕ → PlantedEnd → PlantedEnd → List ℕ → List ℕ → Rewrite
propagating pipe u w cells names = record {
  drop_pipes = pipe ∷ [];
  drop_verts = u.end ∷ w.end ∷ [];
  add_verts = planted_verts false cells 0 u.rows ++ planted_verts true cells 0 w.rows;
  set_kinds = [];
  moves = end_moves u.end u.rows u.own ++ end_moves w.end w.rows w.own;
  add_edges = tree_edges u.rows u.edges ++ tree_edges w.rows w.edges;
  add_pipes = planted_pipes names 0 (zip u.rows w.rows);
}

-- a shape with the edges of the end u as its leaves is planted in the place of both ends of a pipe, with new names
pub record ArePlanted (i : Synchronized) (p : Pipe) (end : ℕ) (shape : Shape) (u w : PlantedEnd) : Type 0 where
  pub at_u : List ℕ
  pub at_w : List ℕ
  pub new_verts : AreNew (vert_names i) (at_u ++ at_w)
  pub new_edges : AreNew (edge_names i) (u.edges ++ w.edges)
  pub end_u : u.end ≡ end
  pub end_w : w.end ≡ opposite p end
  pub own_u : u.own ≡ edges_of i end
  pub own_w : w.own ≡ edges_of i (opposite p end)
  pub planted_u : Plants (λ x. x) shape.body shape.root at_u (shape.root ∷ u.edges) u.rows
  pub planted_w : Plants (partner p end) shape.body (partner p end shape.root)
      at_w (partner p end shape.root ∷ w.edges) w.rows
  pub few_new_verts : length (at_u ++ at_w) < 2 ^ 60
  pub few_new_edges : length (u.edges ++ w.edges) < 2 ^ 60
