-- Words that are pairs, cut at the slash.
use Rattle.std.proofs.Common.{◌≡◌, ℕ, ◌<◌, ◌^◌, List, ◌∷◌, ◌++◌, inl, subst, sym, ◌∙◌, arith}
use Rattle.std.specs.Fmt.{decimal}
use Rattle.cp_trace.specs.Reading.{Lacks, pair_word}
use Rattle.cp_trace.proofs.CutLemmas.{cut_unique, lacks_not}
use Rattle.cp_trace.proofs.NumberLemmas.{lacks-decimal}

-- the word is the text of no pair
abbrev pub IsNoPair : List ℕ → Type 0
IsNoPair word = (x y : ℕ) → x < 2 ^ 63 → y < 2 ^ 63 → word ≡ pair_word (x, y) → ⊥

-- without a slash there is no pair
pub no_slash : (word : List ℕ) → Lacks 47 word → IsNoPair word
no_slash word lacks x y sx sy h = lacks_not 47 (decimal x) (decimal y) (subst (Lacks 47) h lacks)

module _ (word first second : List ℕ) (lacks : Lacks 47 first) (cut : word ≡ first ++ 47 ∷ second) where
  -- the parts of a pair
  parts_of : (x y : ℕ) → x < 2 ^ 63 → word ≡ pair_word (x, y) → (first ≡ decimal x) × (second ≡ decimal y)
  parts_of x y sx h =
      cut_unique 47 first (decimal x) second (decimal y) lacks
      (lacks-decimal 47 x (inl (omega arith)) (omega (arith, sx))) (sym cut ∙ h)

  -- no pair has another first part
  pub no_first : ((n : ℕ) → n < 2 ^ 63 → first ≡ decimal n → ⊥) → IsNoPair word
  no_first none x y sx sy h = none x sx (parts_of x y sx h).0

  -- nor another second part
  pub no_second : ((n : ℕ) → n < 2 ^ 63 → second ≡ decimal n → ⊥) → IsNoPair word
  no_second none x y sx sy h = none y sy (parts_of x y sx h).1
