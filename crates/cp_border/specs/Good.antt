-- Good layouts, and c-planarity (Feng, Cohen and Eades 1995) by counting.
use Rattle.std.specs.Prelude.{ℕ, ◌+◌, ◌*◌, ◌<◌, ◌==◌, length}
use Rattle.cp_lists.specs.Count.{Exactly}
use Rattle.cp_cgraph.specs.Clustered.{Clustered, nodes, edges, clusters, node_of}
use Rattle.cp_cgraph.specs.Crossings.{leaves}
use Rattle.cp_cgraph.specs.declared.layout.Layout.{Layout}
use Rattle.cp_rot.specs.Genus.{HasGenusZero}
use Rattle.cp_border.specs.Borders.{borders, node_list, cluster_list}

-- node i has a list of exactly its darts, and there is no list without a node
pub record IsRightNode (g : Clustered) (l : Layout) (i : ℕ) : Type 0 where
  pub present : i < nodes g → (i < length l.nodes) × Exactly (2 * edges g) (λ d. node_of g d == i) (node_list l i)
  pub expected : i < length l.nodes → i < nodes g

-- cluster k, which is not the root, has a list of exactly the edges that leave it, and there is no
-- list without a cluster
pub record IsRightCluster (g : Clustered) (l : Layout) (k : ℕ) : Type 0 where
  pub present : 0 < k → k < clusters g → (k < length l.clusters + 1) × Exactly (edges g) (leaves g k) (cluster_list l k)
  pub expected : k < length l.clusters + 1 → k < clusters g

-- one list a node and one a cluster, each holding what it should, each once
pub record IsArranged (g : Clustered) (l : Layout) : Type 0 where
  pub nodes_right : (i : ℕ) → IsRightNode g l i
  pub clusters_right : (k : ℕ) → IsRightCluster g l k

-- graph and borders together have Euler genus zero
pub record IsGood (g : Clustered) (l : Layout) : Type 0 where
  pub arranged : IsArranged g l
  pub flat : HasGenusZero (borders g l)

-- i is the least node number whose line is wrong
pub record IsFirstWrongNode (g : Clustered) (l : Layout) (i : ℕ) : Type 0 where
  pub wrong : ¬ IsRightNode g l i
  pub right_before : (j : ℕ) → j < i → IsRightNode g l j

-- all node lines are right, and k is the least cluster number whose line is wrong
pub record IsFirstWrongCluster (g : Clustered) (l : Layout) (k : ℕ) : Type 0 where
  pub nodes_right : (i : ℕ) → IsRightNode g l i
  pub wrong : ¬ IsRightCluster g l k
  pub right_before : (j : ℕ) → j < k → IsRightCluster g l j

-- some layout is good
abbrev pub IsCPlanar : Clustered → Type 0
IsCPlanar g = (l : Layout) × IsGood g l
