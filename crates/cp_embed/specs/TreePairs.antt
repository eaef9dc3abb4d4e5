-- The pairs of an order tree as a set of pairs.
use Rattle.std.specs.Prelude.{◌≡◌, ℕ, ◌<◌, Bool, List, ◌∷◌}
use Rattle.cp_pq.specs.Bits.{bit_of}
use Rattle.cp_pq.specs.Trees.{PQTree, IsPair}
use Rattle.cp_embed.specs.Pairs.{Pairs}

-- a word behind the root, and bits of the first n vars: with some bits of the further vars they are a pair of the tree
abbrev pub pairs_of : ℕ → PQTree → Pairs
pairs_of n tree word bit =
    (bits : List Bool) × IsPair tree (tree.root ∷ word) bits × ((v : ℕ) → v < n → bit_of bits v ≡ bit v)
