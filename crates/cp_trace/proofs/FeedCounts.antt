-- Lines counted by their line feeds.
use Rattle.std.proofs.Common.{◌≡◌, ℕ, ◌+◌, eqb, cond, List, [], ◌∷◌, ◌++◌, length, refl, ap, ◌∙◌, subst, arith}
use Rattle.std.specs.List.{AllByRecursion}
use Rattle.std.proofs.lemmas.Bool.{ne_eqb}
use Rattle.std.proofs.lemmas.List.Sums.{sum_by-append, sum_by-cons}
use Rattle.cp_trace.specs.Faults.{IsFaultAt, IsLine}
use Rattle.cp_trace.specs.Reading.{StopsInRun, feeds}
use Rattle.cp_trace.specs.Texts.{text_of}

-- one for a line feed, and none for each other byte
abbrev feed : ℕ → ℕ
feed byte = cond (eqb byte 10) 1 0

-- one byte more
feeds-cons : (byte : ℕ) (bytes : List ℕ) → feeds (byte ∷ bytes) ≡ feed byte + feeds bytes
feeds-cons byte bytes = sum_by-cons feed byte bytes

-- two parts of bytes
feeds-append : (a b : List ℕ) → feeds (a ++ b) ≡ feeds a + feeds b
feeds-append a b = sum_by-append feed a b

-- no line ends in a line
feeds-line : (line : List ℕ) → IsLine line → feeds line ≡ 0
feeds-line [] whole = refl
feeds-line (byte ∷ bytes) whole =
    let none : feed byte ≡ 0 = ap (λ b. cond b 1 0) (ne_eqb byte 10 whole.0) in
    omega (arith, none, feeds-cons byte bytes, feeds-line bytes whole.1)

-- in a text of lines each ends
feeds-text_of : (lines : List (List ℕ)) → AllByRecursion IsLine lines → feeds (text_of lines) ≡ length lines
feeds-text_of [] whole = refl
feeds-text_of (line ∷ lines) whole =
    let one : feeds (10 ∷ []) ≡ 1 = refl in
    omega (
      arith,
      one,
      feeds-append (line ++ 10 ∷ []) (text_of lines),
      feeds-append line (10 ∷ []),
      feeds-line line whole.0,
      feeds-text_of lines whole.1,
    )

module _ (bytes rest : List ℕ) (stop : StopsInRun bytes rest) where
  -- before the line at fault as many lines end as there are
  counted : feeds bytes ≡ length stop.before + feeds rest
  counted = ap feeds stop.front ∙ feeds-append (text_of stop.before) rest
      ∙ ap (λ n. n + feeds rest) (feeds-text_of stop.before stop.whole)

  -- so the difference tells the line
  pub line_at_fault : (line : ℕ) → line + feeds rest ≡ feeds bytes + 1 → IsFaultAt bytes line
  line_at_fault line h = subst (IsFaultAt bytes)
      (let e : length stop.before + 1 ≡ line = omega (arith, counted, h) in e) stop.fault
