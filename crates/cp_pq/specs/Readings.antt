-- Readings of nodes: what a licence allows. One notion serves bits, which license one direction of each Q-node, and
-- shapes, which license both.
use Rattle.std.specs.Prelude.{◌≡◌, ℕ, Bool, true, false, ◌&&◌, nat_lt, List, [], ◌∷◌, ◌++◌, length, reverse}
use Rattle.std.specs.Bool.{beq}
use Rattle.std.specs.List.Sorted.{IsPermutation}
use Rattle.cp_pq.specs.declared.node.Node.{Node}
use Rattle.cp_pq.specs.declared.node.Node.TheVariants.{Leaf, P, Q}
use Rattle.cp_pq.specs.Bits.{bit_of}

-- a leaf reads itself; a P-node reads its kids in any order; a Q-node reads its kids in the given order where its var
-- may have the bit false, and in the reverse order where it may have the bit true
mutual
  pub data Reads (may : ℕ → Bool → Bool) : Node → List ℕ → Type 0 where
    leaf : (x : ℕ) → Reads may (Leaf x) (x ∷ [])
    any_order : (owner : ℕ) (kids turn : List Node) (xs : List ℕ) → IsPermutation kids turn → ReadsAll may turn xs
        → Reads may (P owner kids) xs
    forward : (var : ℕ) (kids : List Node) (xs : List ℕ) → may var false ≡ true → ReadsAll may kids xs
        → Reads may (Q var kids) xs
    backward : (var : ℕ) (kids : List Node) (xs : List ℕ) → may var true ≡ true → ReadsAll may (reverse kids) xs
        → Reads may (Q var kids) xs

  -- a row of nodes reads one reading of each, one behind the other
  pub data ReadsAll (may : ℕ → Bool → Bool) : List Node → List ℕ → Type 0 where
    none : ReadsAll may [] []
    more : (k : Node) (ks : List Node) (xs ys : List ℕ) → Reads may k xs → ReadsAll may ks ys
        → ReadsAll may (k ∷ ks) (xs ++ ys)

-- the licence of bits: each var has its one bit
abbrev pub given : List Bool → ℕ → Bool → Bool
given bits v b = nat_lt v (length bits) && beq (bit_of bits v) b

-- the licence of a shape: each var may have either bit
abbrev pub any_bit : ℕ → Bool → Bool
any_bit v b = true
