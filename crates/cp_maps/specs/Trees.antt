-- A tree planted at a vertex, as the kids of a node.
use Rattle.std.specs.Prelude.{ℕ, List, [], ◌∷◌, ◌++◌}
use Rattle.cp_faces.specs.Twins.{twin}

-- the kids of a node: leaves, and nodes with kids of their own
pub data Kids : Type 0 where
  no_kid : Kids
  leaf_kid : ℕ → Kids → Kids
  node_kid : ℕ → Kids → Kids → Kids

-- the darts of the kids at their node
abbrev pub darts_of_kids : Kids → List ℕ
darts_of_kids no_kid = []
darts_of_kids (leaf_kid x ks) = x ∷ darts_of_kids ks
darts_of_kids (node_kid up inner ks) = up ∷ darts_of_kids ks

-- the leaves from left to right
abbrev pub leaves_of : Kids → List ℕ
leaves_of no_kid = []
leaves_of (leaf_kid x ks) = x ∷ leaves_of ks
leaves_of (node_kid up inner ks) = leaves_of inner ++ leaves_of ks

-- the lists of the nodes among the kids, each beginning with its edge up
abbrev pub lists_of_nodes : Kids → List (List ℕ)
lists_of_nodes no_kid = []
lists_of_nodes (leaf_kid x ks) = lists_of_nodes ks
lists_of_nodes (node_kid up inner ks) = (twin up ∷ darts_of_kids inner) ∷ (lists_of_nodes inner ++ lists_of_nodes ks)
