-- How much room the check of a layout needs.
use Rattle.std.specs.Prelude.{◌≡◌, ℕ, ◌+◌, ◌*◌}
use Rattle.cp_cgraph.specs.Clustered.{Clustered, nodes, edges, clusters}
use Rattle.cp_border.specs.Borders.{sum_below, crossed}
use Rattle.cp_border.specs.Tables.{Tables, HasPlaces}

-- numbers of nodes, edges, clusters and border vertices
pub record Sizes : Type 0 where
  pub nodes : ℕ
  pub edges : ℕ
  pub clusters : ℕ
  pub borders : ℕ

-- how many border vertices the edges of a graph have
abbrev pub border_vertices : Clustered → ℕ
border_vertices g = sum_below (crossed g) (edges g)

-- the graph has these numbers
pub record AreSizesOf (s : Sizes) (g : Clustered) : Type 0 where
  pub nodes_fit : s.nodes ≡ nodes g
  pub edges_fit : s.edges ≡ edges g
  pub clusters_fit : s.clusters ≡ clusters g
  pub borders_fit : s.borders ≡ border_vertices g

-- the number of vertices of the border graph of a graph with these numbers
abbrev pub vertex_number : Sizes → ℕ
vertex_number s = s.nodes + s.borders

-- the number of darts of the border graph
abbrev pub dart_number : Sizes → ℕ
dart_number s = 2 * (s.edges + 2 * s.borders)

-- the tables, and lists of these lengths, hold what a check writes
pub record HasRoom (s : Sizes) (tables : Tables) (node_counts cluster_counts dart_marks marks stack : ℕ) : Type 0 where
  pub table_room : HasPlaces s.nodes s.edges s.borders tables
  pub node_room : node_counts ≡ s.nodes
  pub cluster_room : cluster_counts ≡ s.clusters
  pub dart_room : dart_marks ≡ dart_number s
  pub mark_room : marks ≡ vertex_number s
  pub stack_room : stack ≡ vertex_number s
