-- Rotation systems of a block in the plane in which each vertex with a list keeps it in the direction of its bit, and
-- the order trees whose bits are these directions (Bläsius and Rutter 2016).
use Rattle.std.specs.Prelude.{◌≡◌, ℕ, ◌<◌, ◌≤◌, ◌↔◌, Bool, List, take}
use Rattle.cp_rot.specs.Genus.{HasGenusZero}
use Rattle.cp_rot.specs.Systems.{System}
use Rattle.cp_pq.specs.Bits.{bit_of}
use Rattle.cp_pq.specs.Trees.{PQTree, IsPair}
use Rattle.cp_embed.specs.Directions.{KeepsDirection}
use Rattle.cp_embed.specs.Embeddings.{Embedding, HasSomePair}
use Rattle.cp_embed.specs.ListedBlocks.{ListedGraph, list_given}
use Rattle.cp_embed.specs.Realisations.{IsRotationOfGraph, edges_round}

-- the system is one of the block in the plane, and each vertex with a list keeps it in the direction of its bit
pub record IsDirectedBy (block : ListedGraph) (bit : ℕ → Bool) (r : System) : Type 0 where
  pub of_graph : IsRotationOfGraph block.graph r
  pub plane : HasGenusZero r
  pub lists_kept : (v : ℕ) → v < block.graph.vertices
      → KeepsDirection (list_given block.lists v) (bit v) (edges_round r v)

-- the block has such a system
abbrev pub CanBeDirected : ListedGraph → (ℕ → Bool) → Type 0
CanBeDirected block bit = (r : System) × IsDirectedBy block bit r

-- the first bits are those of the vertices
abbrev pub BeginWith : ℕ → (ℕ → Bool) → List Bool → Type 0
BeginWith n bit bits = (v : ℕ) → v < n → bit_of bits v ≡ bit v

-- a pair of the tree that begins with the bits
abbrev pub HasPairWith : ℕ → PQTree → (ℕ → Bool) → Type 0
HasPairWith n tree bit = (order : List ℕ) × (bits : List Bool) × IsPair tree order bits × BeginWith n bit bits

-- the second tree is that of the first where t, too, keeps its list: bits of the vertices begin those of a pair exactly
-- where the block has a system with these directions, and each pair is one of the first tree, with the list at t in
-- the direction of its bit
pub record IsDirectedTree (block : ListedGraph) (t : ℕ) (old new : PQTree) : Type 0 where
  pub vars : block.graph.vertices ≤ old.vars
  pub vars_kept : old.vars ≤ new.vars
  pub exact : (bit : ℕ → Bool) → HasPairWith block.graph.vertices new bit ↔ CanBeDirected block bit
  pub pairs : (order : List ℕ) (bits : List Bool) → IsPair new order bits → IsPair old order (take old.vars bits)
  pub list_kept : (order : List ℕ) (bits : List Bool) → IsPair new order bits
      → KeepsDirection (list_given block.lists t) (bit_of bits t) order
  pub some_pair : HasSomePair new

-- a block with the order tree of one of its vertices, and the tree in which this vertex, too, keeps its list
pub record Directions : Type 0 where
  pub embedding : Embedding
  pub tree : PQTree
