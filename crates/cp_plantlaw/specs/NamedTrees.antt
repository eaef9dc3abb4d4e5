-- A tree planted in the place of a vertex, with names for its vertices and edges; and two such trees of one form.
use Rattle.std.specs.Prelude.{ℕ, List, [], ◌∷◌, ◌++◌, map, reverse}

-- the kids of a node: leaves, and inner nodes, each with its vertex, its edge from above and its kids
pub data Named : Type 0 where
  no_kid : Named
  leaf_kid : ℕ → Named → Named
  node_kid : ℕ → ℕ → Named → Named → Named

-- the edges to the kids
abbrev pub tops : Named → List ℕ
tops Named.no_kid = []
tops (Named.leaf_kid x ks) = x ∷ tops ks
tops (Named.node_kid v g inner ks) = g ∷ tops ks

-- the leaves from left to right
abbrev pub word : Named → List ℕ
word Named.no_kid = []
word (Named.leaf_kid x ks) = x ∷ word ks
word (Named.node_kid v g inner ks) = word inner ++ word ks

-- the inner nodes, each before its kids, as vertices with their edges, from above first
abbrev pub rows : Named → List (ℕ × List ℕ)
rows Named.no_kid = []
rows (Named.leaf_kid x ks) = rows ks
rows (Named.node_kid v g inner ks) = (v, g ∷ tops inner) ∷ (rows inner ++ rows ks)

-- their vertices
abbrev pub verts : Named → List ℕ
verts ks = map (λ r. r.0) (rows ks)

-- the kids of a node in two trees of one form: a leaf of the first, and the two vertices, the two edges from above and
-- the kids of an inner node
pub data Paired : Type 0 where
  no_kid : Paired
  leaf_kid : ℕ → Paired → Paired
  node_kid : ℕ × ℕ → ℕ × ℕ → Paired → Paired → Paired

-- the kids in the first tree
abbrev pub first : Paired → Named
first Paired.no_kid = Named.no_kid
first (Paired.leaf_kid x ks) = Named.leaf_kid x (first ks)
first (Paired.node_kid v g inner ks) = Named.node_kid v.0 g.0 (first inner) (first ks)

-- two vertices of one place with the orders of their edges, each from above first
pub record PairedRow : Type 0 where
  pub vertex : ℕ × ℕ
  pub edges : List ℕ
  pub others : List ℕ

-- the second tree has the partners of the leaves of the first
module _ (partner : ℕ → ℕ) where
  -- the kids in the second tree, all from right to left, in front of some others
  abbrev pub mirrored : Paired → Named → Named
  mirrored Paired.no_kid others = others
  mirrored (Paired.leaf_kid x ks) others = mirrored ks (Named.leaf_kid (partner x) others)
  mirrored (Paired.node_kid v g inner ks) others =
      mirrored ks (Named.node_kid v.1 g.1 (mirrored inner Named.no_kid) others)

  -- the edges to the kids in both trees
  abbrev pub both_tops : Paired → List (ℕ × ℕ)
  both_tops Paired.no_kid = []
  both_tops (Paired.leaf_kid x ks) = (x, partner x) ∷ both_tops ks
  both_tops (Paired.node_kid v g inner ks) = g ∷ both_tops ks

  -- a node with these kids: in the second tree they stand from right to left
  abbrev pub node_row : ℕ × ℕ → ℕ × ℕ → List (ℕ × ℕ) → PairedRow
  node_row v g ks = record {
    vertex = v;
    edges = g.0 ∷ map (λ k. k.0) ks;
    others = g.1 ∷ reverse (map (λ k. k.1) ks);
  }

  -- the inner nodes, each before its kids
  abbrev pub paired_rows : Paired → List PairedRow
  paired_rows Paired.no_kid = []
  paired_rows (Paired.leaf_kid x ks) = paired_rows ks
  paired_rows (Paired.node_kid v g inner ks) =
      node_row v g (both_tops inner) ∷ (paired_rows inner ++ paired_rows ks)
