-- Decimals and the items that are spelled with them.
use Rattle.std.proofs.Common.{◌≡◌, ◌≢◌, ℕ, ◌<◌, ◌≤◌, ◌^◌, List, [], ◌∷◌, length, get_or, Result, Ok, Err, refl, sym, ap, ◌∙◌, subst, ◌⊎◌, inl, inr, arith, MatchOption, zero, suc, None, Some}
use Rattle.std.specs.Fmt.{decimal}
use Rattle.std.specs.Result.{MatchResult, result_ok}
use Rattle.std.specs.Str.Parse.{AllDigits, digits_value, ParsesUnsigned}
use Rattle.std.proofs.lemmas.Str.Parse.{IsNumeralModel, numerals_by_value, tells_digits, digit_from_value, parse_plain}
use Rattle.std.proofs.lemmas.Fmt.{digits_decimal, decimal-digits_value, parse-decimal, first_decimal, decimal_digit, decimal_nonempty, IsAscii-decimal}
use Rattle.std.proofs.lemmas.Str.{IsUtf8-from_ascii}
use Rattle.std.specs.Str.{IsUtf8}
use Rattle.cp_trace.specs.Reading.{Lacks, IsPlain}

-- decimals are read by the values of their digits
pub own : IsNumeralModel (AllDigits 10) (digits_value 10)
own = numerals_by_value (AllDigits 10) tells_digits

-- a byte that is no digit is not among digits
lacks_digits : (c : ℕ) (ds : List ℕ) → (c < 48) ⊎ (57 < c) → AllDigits 10 ds → Lacks c ds
lacks_digits c [] h all = tt
lacks_digits c (d ∷ ds) h all =
    let range = digit_from_value d all.0 in (
      elim h [
        | inl low ↦ λ e. absurd (omega (arith, range.0))
        | inr high ↦ λ e. absurd
            (omega (arith, range.1))
      ],
      lacks_digits c ds h all.1,
    )

-- only digits stand in a decimal
pub lacks-decimal : (c n : ℕ) → (c < 48) ⊎ (57 < c) → n < 2 ^ 64 → Lacks c (decimal n)
lacks-decimal c n h small = lacks_digits c (decimal n) h (digits_decimal own n small)

-- a decimal of at least two digits does not begin with a zero
long_decimal : (n x y : ℕ) (ys : List ℕ) → n < 2 ^ 64 → x ∷ y ∷ ys ≡ decimal n → 48 < x
long_decimal zero x y ys small h =
    let one : x ∷ y ∷ ys ≡ 48 ∷ [] = h ∙ decimal_digit 0 (omega arith) in
    absurd cc
long_decimal (suc n) x y ys small h =
    let first = first_decimal (suc n) (omega arith) (omega arith) in
    omega (arith, first, ap (λ t. get_or t 0 0) h)

-- a decimal begins with a digit
first_in_range : (n x : ℕ) (xs : List ℕ) → n < 2 ^ 64 → x ∷ xs ≡ decimal n → (48 ≤ x) × (x ≤ 57)
first_in_range n x xs small h =
    let all : AllDigits 10 (x ∷ xs) = subst (AllDigits 10) (sym h) (digits_decimal own n (omega arith)) in
    digit_from_value x all.0

-- a decimal begins as one
pub plain-decimal : (n : ℕ) (text : List ℕ) → n < 2 ^ 64 → text ≡ decimal n → IsPlain text
plain-decimal n [] small h = absurd (omega (arith, decimal_nonempty n (omega arith), ap (length {A = ℕ}) h))
plain-decimal n (x ∷ []) small h = first_in_range n x [] small h
plain-decimal n (x ∷ y ∷ ys) small h = (long_decimal n x y ys small h, (first_in_range n x (y ∷ ys) small h).1)

-- a front of a number is no plus sign
no_plus : (text : List ℕ) → IsPlain text → get_or text 0 0 ≢ 43
no_plus [] plain e = plain
no_plus (x ∷ []) plain e = omega arith
no_plus (x ∷ y ∷ ys) plain e = omega arith

-- a front of a number that is a zero stands alone
lone_zero : (text : List ℕ) → IsPlain text → get_or text 0 0 ≡ 48 → length text ≡ 1
lone_zero [] plain e = absurd plain
lone_zero (x ∷ []) plain e = refl
lone_zero (x ∷ y ∷ ys) plain e = absurd (omega arith)

-- what is parsed of such a front is the number that is spelled
pub number_read : {E : Type 0} (text : List ℕ) (r : Result ℕ E) → IsPlain text → ParsesUnsigned 64 10 text r
    → MatchOption (result_ok r) ((n : ℕ) → n < 2 ^ 64 → text ≡ decimal n → ⊥) (λ n. (n < 2 ^ 64) × (text ≡ decimal n))
number_read {E} text (Ok x) plain h =
    let told = parse_plain own {E = E} 64 text (Ok x) h (no_plus text plain) in
    let below : x < 2 ^ 64 = subst (λ n. n < 2 ^ 64) (sym told.1) told.0.2 in (
      below,
      sym (ap decimal told.1 ∙ decimal-digits_value own text told.0.0 told.0.1 (lone_zero text plain)
          (omega (arith, told.0.2))),
    )
number_read text (Err e) plain h = λ n small spelled. let no = parse-decimal 64 n text (Err e) small
    (omega arith) spelled h in absurd cc

-- a decimal is a text
pub utf8-decimal : (n : ℕ) (text : List ℕ) → n < 2 ^ 64 → text ≡ decimal n → IsUtf8 text
utf8-decimal n text small h = subst IsUtf8 (sym h) (IsUtf8-from_ascii (decimal n) (IsAscii-decimal n (omega arith)))

-- where a result has no value it is an error
pub failed : {T E : Type 0} (r : Result T E) (P : T → Type 0) (Q : E → Type 0) → None ≡ result_ok r
    → MatchResult r P Q → (e : E) × Q e
failed (Ok x) P Q h m = absurd cc
failed (Err e) P Q h m = (e, m)

-- where a result has a value it is no error
pub went_well : {T E : Type 0} (r : Result T E) (x : T) (P : T → Type 0) (Q : E → Type 0) → Some x ≡ result_ok r
    → MatchResult r P Q → P x
went_well (Ok y) x P Q h m =
    let same : y ≡ x = cc in
    subst P same m
went_well (Err e) x P Q h m = absurd cc
