-- The reduction Propagate, which puts the order tree of an end of a pipe in the place of both ends
-- (Bläsius, Rutter 2016; Bläsius, Fink, Rutter 2021).
use Rattle.std.specs.Prelude.{◌≡◌, ℕ, cond, eqb, List, [], ◌∷◌, ◌++◌, map, length, reverse}
use Rattle.std.specs.List.{zip}
use Rattle.cp_board.specs.declared.parts.Kind.TheVariants.{Q}
use Rattle.cp_board.specs.declared.parts.Vert.{Vert}
use Rattle.cp_board.specs.declared.parts.Pipe.{Pipe}
use Rattle.cp_base.specs.declared.shape.Shape.{Shape}
use Rattle.cp_lists.specs.Turns.{turned_to_least}
use Rattle.cp_board.specs.Names.{AreNew}
use Rattle.cp_board.specs.Instances.{Synchronized, vert_names, edge_names, pipe_names, cells}
use Rattle.cp_board.specs.Steps.{opposite, partner}
use Rattle.cp_board.specs.Plantings.{Planted, Plants, holder, tree_edges, free_nodes, fixed_nodes}
use Rattle.cp_board.specs.Changes.{verts_by_name, edges_by_name, pipes_by_name, pairs_by_first, other_verts, other_pipes, moved_edges, free_vert}

-- a Q-vertex for each Q-node, with its edges, from above first, in the one direction or in the other
abbrev pub fixed_verts : (List ℕ → List ℕ) → List ℕ → List Planted → List Vert
fixed_verts direction cells nodes = map (λ x. record {
  name = x.1.vertex;
  kind = Q x.0 (turned_to_least (direction x.1.edges));
}) (zip cells nodes)

-- one pipe for each two P-nodes of one place, in which edges of one place are partners
abbrev pub node_pipes : List ℕ → List Planted → List Planted → List Pipe
node_pipes names nodes_u nodes_w = map (λ x. record {
  name = x.0;
  a = x.1.0.vertex;
  b = x.1.1.vertex;
  pairs = pairs_by_first (zip x.1.0.edges x.1.1.edges);
}) (zip names (zip nodes_u nodes_w))

-- Propagate: the shape is planted in the place of the end u, and its mirror in the place of the other end w;
-- two P-nodes of one place are joined by a pipe, two Q-nodes by a cell
pub record IsPropagated (i : Synchronized) (p : Pipe) (u : ℕ) (shape : Shape) (j : Synchronized) : Type 0 where
  pub at_u : List ℕ
  pub at_w : List ℕ
  pub new_verts : AreNew (vert_names i) (at_u ++ at_w)
  pub edges_u : List ℕ
  pub edges_w : List ℕ
  pub new_edges : AreNew (edge_names i) (edges_u ++ edges_w)
  pub rows_u : List Planted
  pub rows_w : List Planted
  pub planted_u : Plants (λ x. x) shape.body shape.root at_u (shape.root ∷ edges_u) rows_u
  pub planted_w : Plants (partner p u) shape.body (partner p u shape.root)
      at_w (partner p u shape.root ∷ edges_w) rows_w
  pub new_cells : List ℕ
  pub one_cell_each : length new_cells ≡ length (fixed_nodes rows_u)
  pub are_cells : AreNew (cells i) new_cells
  pub names : List ℕ
  pub one_name_each : length names ≡ length (free_nodes rows_u)
  pub new_pipes : AreNew (pipe_names i) names
  pub verts : j.verts ≡ verts_by_name (other_verts i (u ∷ opposite p u ∷ [])
      ++ map (λ r. free_vert r.vertex) (free_nodes rows_u ++ free_nodes rows_w)
      ++ fixed_verts (λ es. es) new_cells (fixed_nodes rows_u)
      ++ fixed_verts reverse new_cells (fixed_nodes rows_w))
  pub edges : j.edges ≡ edges_by_name (moved_edges i (λ e v.
      cond (eqb v u) (holder rows_u e) (cond (eqb v (opposite p u)) (holder rows_w e) v))
      ++ tree_edges rows_u edges_u
      ++ tree_edges rows_w edges_w)
  pub pipes : j.pipes ≡ pipes_by_name (other_pipes i (p.name ∷ [])
      ++ node_pipes names (free_nodes rows_u) (free_nodes rows_w))
