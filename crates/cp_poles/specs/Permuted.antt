-- Lists of edges from a rotation system, and a rotation where one pole of a bond gets another order.
use Rattle.std.specs.Prelude.{◌≡◌, ◌≢◌, ℕ, ◌/◌, List, map, slice_index}
use Rattle.std.specs.List.{Contains}
use Rattle.cp_conn.specs.NamedGraphs.{NamedGraph, rank}
use Rattle.cp_rot.specs.Systems.{System, list_of}
use Rattle.cp_board.specs.Rotations.{IsRotationOf}

-- the name of the edge of a dart, where edges are numbered in the order of their names
abbrev pub edge_of_dart : NamedGraph → ℕ → ℕ
edge_of_dart g d = slice_index g.edges (d / 2)

-- the edges round a vertex
abbrev pub listed_edges : NamedGraph → System → ℕ → List ℕ
listed_edges g r w = map (edge_of_dart g) (list_of r (rank g.verts w))

-- t is a rotation like s, with this order at u, and some list at v
pub record IsReordered (g : NamedGraph) (s : ℕ → List ℕ) (u v : ℕ) (order : List ℕ) (t : ℕ → List ℕ) : Type 0 where
  pub rotation : IsRotationOf g t
  pub first : t u ≡ order
  pub others : (w : ℕ) → Contains g.verts w → w ≢ u → w ≢ v → t w ≡ s w
