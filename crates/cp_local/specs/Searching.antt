-- A search that finds the edges of the vertices that it has found.
use Rattle.std.specs.Prelude.{ℕ, ◌<◌, ◌≤◌, List, length, nat_eq, slice_index}
use Rattle.std.specs.List.{Contains}
use Rattle.indexmap.specs.IndexSet.{insert_key}
use Rattle.cp_lists.specs.CyclicLists.{Has, Distinct}
use Rattle.cp_orbits.specs.Connected.{Connected}
use Rattle.cp_conn.specs.NamedGraphs.{pairs}
use Rattle.cp_board.specs.Instances.{Synchronized, edge_names, edges_of, ends_of, graph, vert_names}

-- the vertices with both ends of an edge, each at its first place
abbrev pub with_ends : Synchronized → List ℕ → ℕ → List ℕ
with_ends i vs e = insert_key nat_eq (insert_key nat_eq vs (ends_of i e).0) (ends_of i e).1

-- a search has found these vertices and edges: the ends of the edges are found, and all edges of the first k vertices
pub record IsSearched (i : Synchronized) (k : ℕ) (verts es : List ℕ) : Type 0 where
  pub within : k ≤ length verts
  pub verts_once : Distinct verts
  pub verts_live : (x : ℕ) → Has x verts → Contains (vert_names i) x
  pub edges_live : (e : ℕ) → Has e es → Contains (edge_names i) e
  pub ends_found : (e : ℕ) → Has e es → Has (ends_of i e).0 verts × Has (ends_of i e).1 verts
  pub edges_found : (j : ℕ) → j < k → (e : ℕ) → Contains (edges_of i (slice_index verts j)) e → Has e es

-- each of the vertices us is connected to one of vs
abbrev pub AreJoinedTo : Synchronized → List ℕ → List ℕ → Type 0
AreJoinedTo i vs us = (x : ℕ) → Has x us → (y : ℕ) × Has y vs × Connected (pairs (graph i)) y x
