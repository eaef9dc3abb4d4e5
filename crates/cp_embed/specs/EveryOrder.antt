-- Trees that admit each cyclic order of their leaves.
use Rattle.std.specs.Prelude.{ℕ, Bool, List, ◌∷◌}
use Rattle.std.specs.List.Sorted.{IsPermutation}
use Rattle.cp_pq.specs.Nodes.{leaves}
use Rattle.cp_pq.specs.Trees.{PQTree, IsPair}

-- each cyclic order of the leaves, written from the root on, is with some bits a pair of the tree
abbrev pub HasEveryOrder : PQTree → Type 0
HasEveryOrder tree = (word : List ℕ) → IsPermutation (leaves tree.body) word
    → (bits : List Bool) × IsPair tree (tree.root ∷ word) bits
