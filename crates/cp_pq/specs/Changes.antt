-- What becomes of the node that holds a whole set.
use Rattle.std.specs.Prelude.{◌≡◌, ℕ, Bool, true, List}
use Rattle.cp_pq.specs.declared.node.Node.{Node}
use Rattle.cp_pq.specs.Bits.{differ}
use Rattle.cp_pq.specs.Readings.{Reads}
use Rattle.cp_pq.specs.Words.{together}

-- what the first licence allows the second allows
abbrev pub Wider : (ℕ → Bool → Bool) → (ℕ → Bool → Bool) → Type 0
Wider may wide = (v : ℕ) (b : Bool) → may v b ≡ true → wide v b ≡ true

-- the licence read by a bit: turned where the bit is true
abbrev pub by_bit : Bool → (ℕ → Bool → Bool) → ℕ → Bool → Bool
by_bit b may v f = may v (differ b f)

-- the readings of n that have the set together are those of m, where the ties L to the bit of y hold. Where y is a var of
-- n (old), its bit is licensed in those of n
pub record IsDone (q p : ℕ → Bool) (old : Bool) (y : ℕ) (L : (ℕ → Bool → Bool) → Type 0) (n m : Node) : Type 0 where
  pub to : (may : ℕ → Bool → Bool) (xs : List ℕ) → Reads may n xs → together q p xs ≡ true
      → (b : Bool) × (old ≡ true → may y b ≡ true) × L (by_bit b may)
      × ((wide : ℕ → Bool → Bool) → Wider may wide → wide y b ≡ true → Reads wide m xs)
  pub fro : (may : ℕ → Bool → Bool) (xs : List ℕ) → Reads may m xs → ((b : Bool) → may y b ≡ true → L (by_bit b may))
      → Reads may n xs × (together q p xs ≡ true)
