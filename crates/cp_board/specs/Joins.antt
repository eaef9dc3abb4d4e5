-- The reduction Join of a pipe between two cut vertices (Bläsius, Fink, Rutter 2021).
use Rattle.std.specs.Prelude.{◌≡◌, ℕ, ◌<◌, cond, eqb, ◌↔◌, List, [], ◌∷◌, ◌++◌, map, length, slice_index}
use Rattle.std.specs.List.{All, Contains, flat_map, position_or_len, zip}
use Rattle.std.specs.List.Sorted.{IsPermutation, IsStrictlyIncreasing}
use Rattle.cp_orbits.specs.Connected.{Connected}
use Rattle.cp_conn.specs.CutVertex.{without_vertex}
use Rattle.cp_board.specs.declared.parts.EdgeRow.{EdgeRow}
use Rattle.cp_board.specs.declared.parts.Pipe.{Pipe}
use Rattle.cp_board.specs.Names.{has, AreNew}
use Rattle.cp_conn.specs.NamedGraphs.{NamedGraph, pairs, edges_at, far, rank}
use Rattle.cp_board.specs.Instances.{Synchronized, vert_names, edge_names, pipe_names, edges_of, graph}
use Rattle.cp_board.specs.Steps.{degree, partner}
use Rattle.cp_board.specs.Changes.{verts_by_name, edges_by_name, pipes_by_name, other_verts, other_pipes, moved_edges, free_vert}

-- the place of the part that has edge e
abbrev pub part_of : List (List ℕ) → ℕ → ℕ
part_of parts e = position_or_len (λ part. has part e) parts

-- the edges of u in parts: two are in one part where they enter one component when u is removed; each part
-- rises, and the parts stand by their least edges
pub record ArePartsAt (g : NamedGraph) (u : ℕ) (parts : List (List ℕ)) : Type 0 where
  pub whole : IsPermutation (edges_at g u) (flat_map (λ part. part) parts)
  pub filled : All (λ part. 0 < length part) parts
  pub rise : All IsStrictlyIncreasing parts
  pub by_least : IsStrictlyIncreasing (map (λ part. slice_index part 0) parts)
  pub one : (e f : ℕ) → Contains (edges_at g u) e → Contains (edges_at g u) f
      → (part_of parts e ≡ part_of parts f) ↔ Connected (without_vertex u (pairs g)) (far g u e) (far g u f)

-- the vertex for the part of edge e
abbrev pub vertex_for : List (List ℕ) → List ℕ → ℕ → ℕ
vertex_for parts verts e = slice_index verts (part_of parts e)

-- the new edge for edge x of the pipe's end a: they are made for these edges, rising
abbrev pub edge_for : Synchronized → Pipe → List ℕ → ℕ → ℕ
edge_for i p hats x = slice_index hats (rank (edges_of i p.a) x)

-- one pipe for each part, from its outer to its inner vertex; the new edge for each of its edges is the partner
abbrev pub part_pipes : (ℕ → ℕ) → List ℕ → List ℕ → List ℕ → List (List ℕ) → List Pipe
part_pipes hat names outer inner parts = map (λ x. record {
  name = x.0;
  a = x.1.0;
  b = x.1.1.0;
  pairs = map (λ e. (e, hat e)) x.1.1.1;
}) (zip names (zip outer (zip inner parts)))

-- the new edge for edge x of the pipe's end a: from the inner vertex of its part to that of its partner's part
abbrev pub bipartite_edge : Synchronized → Pipe → List ℕ → List (List ℕ) → List ℕ → List (List ℕ) → List ℕ → ℕ
    → EdgeRow
bipartite_edge i p hats parts_a inner_a parts_b inner_b x = record {
  name = edge_for i p hats x;
  a = vertex_for parts_a inner_a x;
  b = vertex_for parts_b inner_b (partner p p.a x);
}

-- Join: the ends a and b of the pipe are parted into outer vertices, one for each part of their edges, and one
-- bipartite graph of the inner vertices of both ends has one new edge for each pair
pub record IsJoined (i : Synchronized) (p : Pipe) (j : Synchronized) : Type 0 where
  pub parts_a : List (List ℕ)
  pub parts_b : List (List ℕ)
  pub are_parts_a : ArePartsAt (graph i) p.a parts_a
  pub are_parts_b : ArePartsAt (graph i) p.b parts_b
  pub outer_a : List ℕ
  pub inner_a : List ℕ
  pub outer_b : List ℕ
  pub inner_b : List ℕ
  pub one_each_a : (length outer_a ≡ length parts_a) × (length inner_a ≡ length parts_a)
  pub one_each_b : (length outer_b ≡ length parts_b) × (length inner_b ≡ length parts_b)
  pub new_verts : AreNew (vert_names i) (outer_a ++ inner_a ++ outer_b ++ inner_b)
  pub hats : List ℕ
  pub one_hat_each : length hats ≡ degree p
  pub new_edges : AreNew (edge_names i) hats
  pub names_a : List ℕ
  pub names_b : List ℕ
  pub one_name_each : (length names_a ≡ length parts_a) × (length names_b ≡ length parts_b)
  pub new_pipes : AreNew (pipe_names i) (names_a ++ names_b)
  pub verts : j.verts ≡ verts_by_name (other_verts i (p.a ∷ p.b ∷ [])
      ++ map free_vert (outer_a ++ inner_a ++ outer_b ++ inner_b))
  pub edges : j.edges ≡ edges_by_name (moved_edges i (λ e v.
      cond (eqb v p.a) (vertex_for parts_a outer_a e) (cond (eqb v p.b) (vertex_for parts_b outer_b e) v))
      ++ map (bipartite_edge i p hats parts_a inner_a parts_b inner_b) (edges_of i p.a))
  pub pipes : j.pipes ≡ pipes_by_name (other_pipes i (p.name ∷ [])
      ++ part_pipes (edge_for i p hats) names_a outer_a inner_a parts_a
      ++ part_pipes (λ y. edge_for i p hats (partner p p.b y)) names_b outer_b inner_b parts_b)
