-- Sets of pairs of a word of edges and bits, and what the calls on an order tree make of them (Booth, Lueker 1976).
use Rattle.std.specs.Prelude.{◌≡◌, ℕ, Bool, List, ◌++◌, ◌↔◌}
use Rattle.std.proofs.Common.{reverse}
use Rattle.cp_embed.specs.Arrangements.{IsArrangementOf}
use Rattle.cp_embed.specs.Directions.{directed}

-- a set of pairs: which words with which bits
abbrev pub Pairs : Type 1
Pairs = List ℕ → (ℕ → Bool) → Type 0

-- the pairs in which the items of the set are consecutive
pub record HasTogether (set : List ℕ) (pairs : Pairs) (word : List ℕ) (bit : ℕ → Bool) : Type 0 where
  pub front : List ℕ
  pub run : List ℕ
  pub behind : List ℕ
  pub word_is : word ≡ front ++ (run ++ behind)
  pub run_is : IsArrangementOf run set
  pub pair : pairs word bit

-- the pairs with the items of the set exchanged for the new ones in any order
pub record IsExchanged (set new : List ℕ) (pairs : Pairs) (word : List ℕ) (bit : ℕ → Bool) : Type 0 where
  pub front : List ℕ
  pub run : List ℕ
  pub taken : List ℕ
  pub behind : List ℕ
  pub word_is : word ≡ front ++ (run ++ behind)
  pub run_is : IsArrangementOf run new
  pub taken_is : IsArrangementOf taken set
  pub pair : pairs (front ++ (taken ++ behind)) bit

-- the pairs in which the row stands in one piece, in the direction of the bit of v
pub record HasRun (row : List ℕ) (v : ℕ) (pairs : Pairs) (word : List ℕ) (bit : ℕ → Bool) : Type 0 where
  pub front : List ℕ
  pub behind : List ℕ
  pub word_is : word ≡ front ++ (directed (bit v) row ++ behind)
  pub pair : pairs word bit

-- the pairs with the row exchanged for the new row, both in the direction of the bit of v
pub record IsRunExchanged (row new : List ℕ) (v : ℕ) (pairs : Pairs) (word : List ℕ) (bit : ℕ → Bool) : Type 0 where
  pub front : List ℕ
  pub behind : List ℕ
  pub word_is : word ≡ front ++ (directed (bit v) new ++ behind)
  pub pair : pairs (front ++ (directed (bit v) row ++ behind)) bit

-- both sets have the same pairs
abbrev pub SamePairs : Pairs → Pairs → Type 0
SamePairs pairs others = (word : List ℕ) (bit : ℕ → Bool) → pairs word bit ↔ others word bit

-- a word behind a step of a sweep: in a word before, a run us of the edges of ins is exchanged for the reverse of a
-- row of
-- the edges of outs, and the two are the list of the vertex that is taken
pub record IsStepWord (ins outs : List ℕ) (kept before : List ℕ → Type 0) (word : List ℕ) : Type 0 where
  pub us : List ℕ
  pub vs : List ℕ
  pub front : List ℕ
  pub behind : List ℕ
  pub us_is : IsArrangementOf us ins
  pub vs_is : IsArrangementOf vs outs
  pub list_kept : kept (us ++ vs)
  pub word_is : word ≡ front ++ (reverse vs ++ behind)
  pub taken_from : before (front ++ (us ++ behind))
