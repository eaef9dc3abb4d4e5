-- Order trees of a vertex of a block: their pairs are the cyclic orders that the vertex has in the plane.
use Rattle.std.specs.Prelude.{◌≡◌, ℕ, ◌≤◌, ◌<◌, ◌↔◌, Bool, true, List, ◌∷◌, length}
use Rattle.cp_pq.specs.Trees.{PQTree, IsPair}
use Rattle.cp_embed.specs.ListedBlocks.{ListedGraph, touches, list_given}
use Rattle.cp_embed.specs.Realisations.{IsRealised}
use Rattle.cp_embed.specs.TreePairs.{pairs_of}

-- root is the least edge of v
pub record IsLeastEdge (ends : List (ℕ × ℕ)) (v root : ℕ) : Type 0 where
  pub within : root < length ends
  pub is_end : touches ends v root ≡ true
  pub least : (k : ℕ) → k < length ends → touches ends v k ≡ true → root ≤ k

-- v has two edges
pub record HasTwoEdges (ends : List (ℕ × ℕ)) (v : ℕ) : Type 0 where
  pub first : ℕ
  pub second : ℕ
  pub less : first < second
  pub within : second < length ends
  pub first_at : touches ends v first ≡ true
  pub second_at : touches ends v second ≡ true

-- some rotation system of the block in the plane keeps the given lists of all vertices but t, each by its bit, and has
-- the cyclic order at t
abbrev pub IsEmbedded : ListedGraph → ℕ → List ℕ → (ℕ → Bool) → Type 0
IsEmbedded block t order bit = IsRealised block.graph (list_given block.lists) t order bit

-- the tree has a pair
abbrev pub HasSomePair : PQTree → Type 0
HasSomePair tree = (order : List ℕ) × (bits : List Bool) × IsPair tree order bits

-- the tree of t: its root is the least edge of t; a cyclic order of the edges of t, written from there on, with bits of
-- all vertices is, with some further bits, a pair of the tree exactly where the block is so embedded; and it has a pair
pub record IsEmbeddingTree (block : ListedGraph) (t : ℕ) (tree : PQTree) : Type 0 where
  pub root : IsLeastEdge block.graph.ends t tree.root
  pub vars : block.graph.vertices ≤ tree.vars
  pub exact : (word : List ℕ) (bit : ℕ → Bool) → pairs_of block.graph.vertices tree word bit
      ↔ IsEmbedded block t (tree.root ∷ word) bit
  pub some_pair : HasSomePair tree

-- the block has no rotation system in the plane that keeps the given lists of all vertices but t
abbrev pub IsNeverEmbedded : ListedGraph → ℕ → Type 0
IsNeverEmbedded block t = (order : List ℕ) (bit : ℕ → Bool) → IsEmbedded block t order bit → ⊥

-- a block, a vertex of it, and the order tree of this vertex
pub record Embedding : Type 0 where
  pub block : ListedGraph
  pub vertex : ℕ
  pub tree : PQTree
