-- Clustered graphs (Feng, Cohen and Eades 1995): a graph whose nodes lie in nested clusters.
use Rattle.std.specs.Prelude.{◌≡◌, ℕ, ℤ, ◌+◌, ◌-◌, ◌/◌, ◌%◌, ◌<◌, ◌==◌, cond, List, length, slice_index, slice_index_or, pos}

-- The nodes' ids, the source and target of each edge, the parent of each cluster from cluster 1 on,
-- and the home of each node, which is the innermost cluster that has it. Cluster 0 is the root.
pub record Clustered : Type 0 where
  pub ids : List ℤ
  pub ends : List (ℕ × ℕ)
  pub parents : List ℕ
  pub homes : List ℕ

-- the number of nodes
abbrev pub nodes : Clustered → ℕ
nodes g = length g.ids

-- the number of edges
abbrev pub edges : Clustered → ℕ
edges g = length g.ends

-- the number of clusters, with the root
abbrev pub clusters : Clustered → ℕ
clusters g = length g.parents + 1

-- the first end of an edge
abbrev pub source : Clustered → ℕ → ℕ
source g e = (slice_index_or g.ends e (0, 0)).0

-- the second end of an edge
abbrev pub target : Clustered → ℕ → ℕ
target g e = (slice_index_or g.ends e (0, 0)).1

-- the cluster round cluster c, which is not the root
abbrev pub parent : Clustered → ℕ → ℕ
parent g c = slice_index g.parents (c - 1)

-- the innermost cluster of a node
abbrev pub home : Clustered → ℕ → ℕ
home g v = slice_index g.homes v

-- the id of node v in the file
abbrev pub id : Clustered → ℕ → ℤ
id g v = slice_index_or g.ids v (pos 0)

-- the node at which dart d stands: dart 2e at the source of edge e, dart 2e + 1 at its target
abbrev pub node_of : Clustered → ℕ → ℕ
node_of g d = cond (d % 2 == 0) (source g (d / 2)) (target g (d / 2))

-- Edges end at nodes, each node has a home, and clusters are numbered as they are opened, so that
-- each but the root lies in one of a lower number.
pub record IsClustered (g : Clustered) : Type 0 where
  pub source_is_node : (e : ℕ) → e < edges g → source g e < nodes g
  pub target_is_node : (e : ℕ) → e < edges g → target g e < nodes g
  pub one_home : length g.homes ≡ nodes g
  pub home_is_cluster : (v : ℕ) → v < nodes g → home g v < clusters g
  pub inside_a_lower : (c : ℕ) → 0 < c → c < clusters g → parent g c < c
