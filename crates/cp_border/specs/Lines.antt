-- The lines of a layout, and what a fault of one says.
use Rattle.std.specs.Prelude.{ℕ, ◌+◌, ◌*◌, ◌<◌, ◌==◌, length}
use Rattle.cp_lists.specs.Count.{Exactly}
use Rattle.cp_cgraph.specs.Clustered.{Clustered, edges, node_of}
use Rattle.cp_cgraph.specs.Crossings.{leaves}
use Rattle.cp_cgraph.specs.declared.layout.Layout.{Layout}
use Rattle.cp_border.specs.Borders.{node_list, cluster_list}
use Rattle.cp_border.specs.Good.{IsRightCluster}

-- node v has a list, of exactly the darts that stand there
abbrev pub HasNodeList : Clustered → Layout → ℕ → Type 0
HasNodeList g l v = (v < length l.nodes) × Exactly (2 * edges g) (λ d. node_of g d == v) (node_list l v)

-- cluster k has a list, of exactly the edges that leave it
abbrev pub HasBorderList : Clustered → Layout → ℕ → Type 0
HasBorderList g l k = (k < length l.clusters + 1) × Exactly (edges g) (leaves g k) (cluster_list l k)

-- the line of cluster k is wrong, and those of the clusters before it are right
abbrev pub IsFirstWrongBorder : Clustered → Layout → ℕ → Type 0
IsFirstWrongBorder g l k = ¬ IsRightCluster g l k × ((j : ℕ) → j < k → IsRightCluster g l j)
