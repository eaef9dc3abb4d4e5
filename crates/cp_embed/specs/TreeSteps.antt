-- Order trees of the stages of an embedding, and the steps from one to the next.
use Rattle.std.specs.Prelude.{◌≡◌, ◌≢◌, ℕ, ◌≤◌, ◌↔◌, Bool, Option, Some, None, List, [], ◌∷◌, length, map, reverse}
use Rattle.cp_lists.specs.CyclicLists.{Has, Distinct}
use Rattle.cp_conn.specs.Darts.{start}
use Rattle.cp_pq.specs.declared.node.Node.{Node}
use Rattle.cp_pq.specs.declared.node.Node.TheVariants.{Leaf, Q}
use Rattle.cp_pq.specs.declared.part.Part.{Part}
use Rattle.cp_pq.specs.Bits.{bit_of}
use Rattle.cp_pq.specs.Nodes.{leaves}
use Rattle.cp_pq.specs.Promises.{IsReduced, IsForced, IsReplaced, IsNeverConsecutive, IsNeverInRow, star_body}
use Rattle.cp_pq.specs.Readings.{Reads, given}
use Rattle.cp_pq.specs.Trees.{PQTree, IsWellFormed}
use Rattle.cp_embed.specs.Arrangements.{IsArrangementOf}
use Rattle.cp_embed.specs.Directions.{directed, edge_of}
use Rattle.cp_embed.specs.ListedBlocks.{ListedGraph, list_given}
use Rattle.cp_embed.specs.Pairs.{SamePairs}
use Rattle.cp_embed.specs.Splits.{IsSplit}
use Rattle.cp_embed.specs.Sweeps.{LeadsInto, IsStagePair}
use Rattle.cp_embed.specs.TreePairs.{pairs_of}

-- one leaf alone, or a Q-node of all in this order
abbrev pub row_body : ℕ → List ℕ → Node
row_body var (x ∷ []) = Leaf x
row_body var xs = Q var (map Leaf xs)

-- the node reads exactly the arrangements of the items
abbrev pub ReadsAnyOrder : Node → List ℕ → Type 0
ReadsAnyOrder node items =
    (bits : List Bool) (word : List ℕ) → Reads (given bits) node word ↔ IsArrangementOf word items

-- the node reads exactly the row in the direction of the bit of var, for each var of so many
pub record ReadsRow (node : Node) (row : List ℕ) (var vars : ℕ) : Type 0 where
  pub only : (bits : List Bool) (word : List ℕ) → Reads (given bits) node word → word ≡ directed (bit_of bits var) row
  pub all : (bits : List Bool) → length bits ≡ vars → Reads (given bits) node (directed (bit_of bits var) row)

-- a vertex x without a given list is taken: the tree is reduced by its edges to the vertices before, and a node that reads
-- its others in any order stands in their place
pub record IsFreeStep (x : ℕ) (ins outs : List ℕ) (old new : PQTree) (part : Part) : Type 0 where
  pub mid : PQTree
  pub node : Node
  pub reduced : IsReduced ins old mid
  pub replaced : IsReplaced ins node mid new part
  pub node_is : node ≡ star_body x outs
  pub reads : ReadsAnyOrder node outs
  pub node_leaves : (k : ℕ) → Has k (leaves node) ↔ Has k outs

-- a vertex x with a given list is taken: the tree is forced to the part of the list with its edges to the vertices
-- before, and a node that reads the other part in reverse stands in their place, both by the bit of x
pub record IsListedStep (x : ℕ) (list ins outs : List ℕ) (old new : PQTree) (part : Part) : Type 0 where
  pub mid : PQTree
  pub node : Node
  pub first : List ℕ
  pub second : List ℕ
  pub split : IsSplit list ins outs first second
  pub forced : IsForced first x old mid
  pub replaced : IsReplaced ins node mid new part
  pub node_is : node ≡ row_body x (reverse second)
  pub reads : ReadsRow node (reverse second) x mid.vars
  pub node_leaves : (k : ℕ) → Has k (leaves node) ↔ Has k outs

-- x is taken, by what is given for it
abbrev pub IsTreeStep : Option (List ℕ) → ℕ → List ℕ → List ℕ → PQTree → PQTree → Part → Type 0
IsTreeStep None x ins outs old new part = IsFreeStep x ins outs old new part
IsTreeStep (Some list) x ins outs old new part = IsListedStep x list ins outs old new part

-- x cannot be taken: no order of the tree's shape has its edges to the vertices before consecutive, as its given list
-- has them
abbrev pub IsRefusedStep : Option (List ℕ) → List ℕ → List ℕ → PQTree → Type 0
IsRefusedStep None ins outs tree = IsNeverConsecutive ins tree
IsRefusedStep (Some list) ins outs tree =
    (first second : List ℕ) → IsSplit list ins outs first second → IsNeverInRow first tree

-- the tree of the stage in which these vertices are taken: its root is the edge of r, its leaves are the edges that
-- leave these vertices, and its pairs with bits of all vertices are those of the stage
pub record IsStageTree (block : ListedGraph) (r : ℕ) (taken : List ℕ) (tree : PQTree) : Type 0 where
  pub formed : IsWellFormed tree
  pub root : tree.root ≡ edge_of r
  pub vars : block.graph.vertices ≤ tree.vars
  pub leaves_are : (k : ℕ) → Has k (tree.root ∷ leaves tree.body)
      ↔ ((d : ℕ) × (edge_of d ≡ k) × LeadsInto (start block.graph.ends) (length block.graph.ends) taken d)
  pub pairs : SamePairs (pairs_of block.graph.vertices tree)
      (IsStagePair (start block.graph.ends) (length block.graph.ends) (list_given block.lists) r taken)

-- items, at least one, that may come into the tree: none of them is in it
pub record IsFreshSet (items : List ℕ) (tree : PQTree) : Type 0 where
  pub not_empty : items ≢ []
  pub once : Distinct items
  pub fresh : (k : ℕ) → Has k items → Has k (tree.root ∷ leaves tree.body) → ⊥
