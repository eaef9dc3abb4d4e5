-- Search trees in one list of nodes, of which each has only nodes before it as its children.
use Rattle.std.specs.Prelude.{◌≡◌, ℕ, zero, suc, ◌+◌, ◌<◌, ◌≤◌, List, [], ◌∷◌, ◌++◌, length, slice_index_or}
use Rattle.cp_store.specs.declared.nodes.Node.{Node}

-- the items of the tree with this root: root 0 has none, and root k + 1 those of node k
abbrev pub items_at : {T : Type 0} → List (List T) → ℕ → List T
items_at ls zero = []
items_at ls (suc k) = slice_index_or ls k []

-- the items of a node, where those of the nodes before it are given
abbrev pub node_items : {T : Type 0} → List (List T) → Node T → List T
node_items ls n = items_at ls n.before ++ n.item ∷ items_at ls n.behind

-- the items of each node, where those of the nodes before them are given
abbrev pub grown : {T : Type 0} → List (List T) → List (Node T) → List (List T)
grown ls [] = ls
grown ls (n ∷ ns) = grown (ls ++ node_items ls n ∷ []) ns

-- the children of a node stand before it, and its count is that of its items
pub record IsNode {T : Type 0} (ls : List (List T)) (n : Node T) : Type 0 where
  pub before : n.before ≤ length ls
  pub behind : n.behind ≤ length ls
  pub count : n.count ≡ length (items_at ls n.before) + length (items_at ls n.behind) + 1
  pub small : n.count ≤ 1152921504606846976

-- each node is right, where the items of those before them are given
abbrev pub AreNodes : {T : Type 0} → List (List T) → List (Node T) → Type 0
AreNodes ls [] = Unit {0}
AreNodes ls (n ∷ ns) = IsNode ls n × AreNodes (ls ++ node_items ls n ∷ []) ns

-- what a node tells of the tree with this root
pub record IsNodeOf {T : Type 0} (ls : List (List T)) (root : ℕ) (n : Node T) : Type 0 where
  pub items : items_at ls root ≡ node_items ls n
  pub before : n.before < root
  pub behind : n.behind < root
  pub count : n.count ≡ length (items_at ls root)
  pub small : n.count ≤ 1152921504606846976

-- the second forest has all trees of the first
pub record Keeps {T : Type 0} (old new : List (List T)) : Type 0 where
  pub longer : length old ≤ length new
  pub same : (root : ℕ) → root ≤ length old → items_at new root ≡ items_at old root

-- a tree of these items
pub record IsTree {T : Type 0} (ls : List (List T)) (root : ℕ) (xs : List T) : Type 0 where
  pub within : root ≤ length ls
  pub items : items_at ls root ≡ xs

-- the tree before the item of a root, the item, and the tree behind it
pub record IsOpened {T : Type 0} (ls : List (List T)) (root before : ℕ) (item : T) (behind : ℕ) : Type 0 where
  pub items : items_at ls root ≡ items_at ls before ++ item ∷ items_at ls behind
  pub before_less : before < root
  pub behind_less : behind < root
