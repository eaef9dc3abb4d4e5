-- From a pair of the order tree of a vertex back to lists for all vertices.
use Rattle.std.specs.Prelude.{◌≡◌, ◌≢◌, ℕ, ◌<◌, Bool, true, false, List, [], ◌∷◌, ◌++◌, length, slice_index_or}
use Rattle.std.proofs.Common.{reverse}
use Rattle.cp_lists.specs.CyclicLists.{Has}
use Rattle.cp_lists.specs.Turns.{IsTurn}
use Rattle.cp_pq.specs.Trees.{PQTree, IsPair}
use Rattle.cp_rot.specs.Systems.{System}
use Rattle.cp_embed.specs.Arrangements.{IsArrangementOf}
use Rattle.cp_embed.specs.ListedBlocks.{ListedGraph, list_given, touches}
use Rattle.cp_embed.specs.Realisations.{Realises, edges_round}

-- the cyclic order, which may begin with any item, and the bits are a pair of the tree
pub record IsTurnedPair (tree : PQTree) (order : List ℕ) (bits : List Bool) : Type 0 where
  pub word : List ℕ
  pub turn : IsTurn order (tree.root ∷ word)
  pub pair : IsPair tree (tree.root ∷ word) bits

-- the lists, one for each vertex and each up to a turn, are those of a rotation system of the block in the plane that
-- has the order at t and keeps the given list of each other vertex in the direction of its bit
pub record AreUnwound (block : ListedGraph) (t : ℕ) (order : List ℕ) (bit : ℕ → Bool) (lists : List (List ℕ)) : Type 0
  where
    pub list_each : length lists ≡ block.graph.vertices
    pub system : System
    pub realises : Realises block.graph (list_given block.lists) t order bit system
    pub lists_are : (v : ℕ) → v < block.graph.vertices → IsTurn (slice_index_or lists v []) (edges_round system v)

-- in the word, whose items are edges, the edges of the vertex are one run, and they are the items of outs
pub record HasEdgesAsRun (ends : List (ℕ × ℕ)) (vertex : ℕ) (outs word : List ℕ) : Type 0 where
  pub front : List ℕ
  pub run : List ℕ
  pub behind : List ℕ
  pub word_is : word ≡ front ++ (run ++ behind)
  pub run_is : IsArrangementOf run outs
  pub outs_is : IsArrangementOf outs outs
  pub some : outs ≢ []
  pub within : (k : ℕ) → Has k word → k < length ends
  pub front_apart : (k : ℕ) → Has k front → touches ends vertex k ≡ false
  pub run_touches : (k : ℕ) → Has k run → touches ends vertex k ≡ true

-- a run of the word that arranges outs is exchanged for the row, and the list is the row and then this run in reverse
pub record IsTakenOutOf (word outs row before list : List ℕ) : Type 0 where
  pub front : List ℕ
  pub run : List ℕ
  pub behind : List ℕ
  pub word_is : word ≡ front ++ (run ++ behind)
  pub run_is : IsArrangementOf run outs
  pub before_is : before ≡ front ++ (row ++ behind)
  pub list_is : list ≡ row ++ reverse run
