-- The digits at the front of bytes.
use Rattle.std.proofs.Common.{◌≡◌, ℕ, ◌+◌, ◌<◌, ◌≤◌, ◌||◌, Bool, true, false, cond, ltb, List, [], ◌∷◌, Some, None, take, drop, get_or, refl, sym, ap, ◌∙◌, subst, inl, inr, arith}
use Rattle.std.specs.Prelude.{position}
use Rattle.std.specs.List.{AllByRecursion, position_from}
use Rattle.std.specs.Str.Parse.{AllDigits}
use Rattle.std.proofs.lemmas.Bool.{ltb-false, ltb-true, or_parts}
use Rattle.std.proofs.lemmas.Iterator.Adapters.{position_from-zero}
use Rattle.std.proofs.lemmas.List.{drop_more, get_or_default, get_or-take, length-take}
use Rattle.std.proofs.lemmas.List.Elements.{recursion_from_All}
use Rattle.std.proofs.lemmas.List.Quantifiers.{position-Some}
use Rattle.std.proofs.lemmas.Str.{digit_value_digit}
use Rattle.cp_trace.specs.Bodies.{HasNoDigit}

-- a byte that is no digit
abbrev pub no_digit : ℕ → Bool
no_digit b = ltb b 48 || ltb 57 b

-- a byte that is not such is a digit
digit_from : (b : ℕ) → no_digit b ≡ false → (48 ≤ b) × (b ≤ 57)
digit_from b h =
    let both = or_parts (ltb b 48) (ltb 57 b) h in
    (ltb-false b 48 both.0, ltb-false 57 b both.1)

-- bytes of which none is such are digits
digits_from : (bs : List ℕ) → AllByRecursion (λ b. no_digit b ≡ false) bs → AllDigits 10 bs
digits_from [] all = tt
digits_from (b ∷ bs) all =
    let range = digit_from b all.0 in
    let value = digit_value_digit b (range.0, range.1) in
    (omega (arith, value, range.1), digits_from bs all.1)

-- one byte more
step : (b i : ℕ) (bs : List ℕ) (t : Bool) → no_digit b ≡ t
    → ((j : ℕ) → position_from no_digit j bs ≡ None → AllByRecursion (λ x. no_digit x ≡ false) bs)
    → cond t (Some i) (position_from no_digit (i + 1) bs) ≡ None → AllByRecursion (λ x. no_digit x ≡ false) (b ∷ bs)
step b i bs true e rest h = absurd cc
step b i bs false e rest h = (e, rest (i + 1) h)

-- where none is found there is none
none_from : (bs : List ℕ) (i : ℕ) → position_from no_digit i bs ≡ None → AllByRecursion (λ b. no_digit b ≡ false) bs
none_from [] i h = tt
none_from (b ∷ bs) i h = step b i bs (no_digit b) refl (none_from bs) h

-- bytes in which no other is found are digits
pub all_digits : (bs : List ℕ) → position no_digit bs ≡ None → AllDigits 10 bs
all_digits bs h = digits_from bs (none_from bs 0 (sym (position_from-zero no_digit bs) ∙ h))

-- a byte that is no digit stands first
no_digit_first : (b : ℕ) (bs : List ℕ) → no_digit b ≡ true → HasNoDigit (b ∷ bs)
no_digit_first b bs h = cases (ltb b 48) refl
  where
    cases : (t : Bool) → ltb b 48 ≡ t → HasNoDigit (b ∷ bs)
    cases true e = inl (ltb-true b 48 e)
    cases false e = inr (ltb-true 57 b (sym (ap (λ t. t || ltb 57 b) e) ∙ h))

-- before the first other byte stand digits, and then it
pub digits_front : (n : ℕ) (bs : List ℕ) → position no_digit bs ≡ Some n
    → AllDigits 10 (take n bs) × HasNoDigit (drop n bs)
digits_front n bs h =
    let at = position-Some no_digit bs n 0 h in (
      digits_from (take n bs) (recursion_from_All (λ b. no_digit b ≡ false) (take n bs) (λ k d lt.
          let below : k < n = omega (arith, length-take n bs) in
          let same : get_or (take n bs) k d ≡ get_or bs k 0 = get_or_default (take n bs) k d 0 lt
          ∙ get_or-take n bs k 0 below in
          ap no_digit same ∙ at.2 k below)),
      subst HasNoDigit (sym (drop_more bs n 0 at.0)) (no_digit_first (get_or bs n 0) (drop (n + 1) bs) at.1),
    )
