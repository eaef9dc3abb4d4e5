-- Changes of an instance of synchronized planarity that several reductions make.
use Rattle.std.specs.Prelude.{◌≡◌, ℕ, not, cond, eqb, List, [], ◌∷◌, map}
use Rattle.std.specs.List.{filter}
use Rattle.cp_board.specs.declared.parts.Kind.{Kind}
use Rattle.cp_board.specs.declared.parts.Kind.TheVariants.{P}
use Rattle.cp_board.specs.declared.parts.Vert.{Vert}
use Rattle.cp_board.specs.declared.parts.EdgeRow.{EdgeRow}
use Rattle.cp_board.specs.declared.parts.Pipe.{Pipe}
use Rattle.cp_board.specs.Names.{has, by_name}
use Rattle.cp_board.specs.Instances.{Synchronized}

-- items in the order of their names
abbrev pub verts_by_name : List Vert → List Vert
verts_by_name vs = by_name (λ v. v.name) vs

-- edges in the order of their names
abbrev pub edges_by_name : List EdgeRow → List EdgeRow
edges_by_name es = by_name (λ e. e.name) es

-- pipes in the order of their names
abbrev pub pipes_by_name : List Pipe → List Pipe
pipes_by_name ps = by_name (λ p. p.name) ps

-- pairs in the order of their first edges
abbrev pub pairs_by_first : List (ℕ × ℕ) → List (ℕ × ℕ)
pairs_by_first xs = by_name (λ x. x.0) xs

-- the pipes that are not dropped
abbrev pub other_pipes : Synchronized → List ℕ → List Pipe
other_pipes i dropped = filter (λ p. not (has dropped p.name)) i.pipes

-- the vertices that are not dropped
abbrev pub other_verts : Synchronized → List ℕ → List Vert
other_verts i dropped = filter (λ v. not (has dropped v.name)) i.verts

-- the edges, where end v of edge e moves to `to e v`
abbrev pub moved_edges : Synchronized → (ℕ → ℕ → ℕ) → List EdgeRow
moved_edges i to = map (λ e. record { name = e.name; a = to e.name e.a; b = to e.name e.b }) i.edges

-- the P-vertex of this name
abbrev pub free_vert : ℕ → Vert
free_vert v = record { name = v; kind = P }

-- vertex v with another kind, where it has this name
abbrev pub with_kind : ℕ → Kind → Vert → Vert
with_kind name kind v = cond (eqb v.name name) (record { name = name; kind = kind }) v

-- the pipe goes, and nothing else changes
pub record IsWithoutPipe (i : Synchronized) (pipe : ℕ) (j : Synchronized) : Type 0 where
  pub verts : j.verts ≡ i.verts
  pub edges : j.edges ≡ i.edges
  pub pipes : j.pipes ≡ other_pipes i (pipe ∷ [])
