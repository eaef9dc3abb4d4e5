-- Which runs of bytes are numbers (integers and reals of Himsolt's GML), and the value of an integer.
use Rattle.std.specs.Prelude.{ℕ, ◌+◌, ◌*◌, ◌-◌, Bool, true, false, ◌==◌, nat_lt, nat_le, ◌||◌, ◌&&◌, not, if◌then◌else◌, List, [], ◌∷◌, drop, length, fold, ℤ, pos, neg_ℤ, Option, Some, None}
use Rattle.std.specs.List.{prefix_len}
use Rattle.cp_gml.specs.Bytes.{is_digit, is_sign, is_exponent_mark}

-- the run without a sign at its front
abbrev pub unsigned : List ℕ → List ℕ
unsigned [] = []
unsigned (b ∷ bs) = if is_sign b then bs else (b ∷ bs)

-- one or more digits, and nothing else
abbrev pub is_digits : List ℕ → Bool
is_digits run = not (length run == 0) && prefix_len is_digit run == length run

-- an optional sign and one or more digits
abbrev pub is_integer : List ℕ → Bool
is_integer run = is_digits (unsigned run)

-- e or E, an optional sign and digits
abbrev pub is_exponent : List ℕ → Bool
is_exponent [] = false
is_exponent (b ∷ bs) = is_exponent_mark b && is_integer bs

-- nothing, or an exponent
abbrev pub is_optional_exponent : List ℕ → Bool
is_optional_exponent [] = true
is_optional_exponent (b ∷ bs) = is_exponent (b ∷ bs)

-- what follows the digits before the point, where there are any: an exponent, or a point, digits
-- unless some stood before it, and an optional exponent
abbrev pub is_fraction : Bool → List ℕ → Bool
is_fraction some [] = false
is_fraction some (b ∷ bs) =
    if b == 46
    then (some || nat_lt 0 (prefix_len is_digit bs)) && is_optional_exponent (drop (prefix_len is_digit bs) bs)
    else some && is_exponent (b ∷ bs)

-- a number with a point or an exponent, without its sign
abbrev pub is_unsigned_real : List ℕ → Bool
is_unsigned_real run = is_fraction (nat_lt 0 (prefix_len is_digit run)) (drop (prefix_len is_digit run) run)

-- an optional sign and a number with a point or an exponent
abbrev pub is_real : List ℕ → Bool
is_real run = is_unsigned_real (unsigned run)

-- the value of digits, the one of most weight first
abbrev pub decimal_value : List ℕ → ℕ
decimal_value digits = fold (λ n b. n * 10 + (b - 48)) 0 digits

-- whether the first byte is a minus
abbrev pub is_negative : List ℕ → Bool
is_negative [] = false
is_negative (b ∷ bs) = b == 45

-- the number of this sign and size, if it is in the range of ids, -2147483648 to 2147483647
abbrev pub signed_value : Bool → ℕ → Option ℤ
signed_value true n = if nat_le n 2147483648 then Some (neg_ℤ (pos n)) else None
signed_value false n = if nat_le n 2147483647 then Some (pos n) else None

-- the value of an integer, if it is in the range of ids
abbrev pub integer_value : List ℕ → Option ℤ
integer_value run = signed_value (is_negative run) (decimal_value (unsigned run))

-- the integer in the range of ids that a run of bytes writes
abbrev pub integer_of : List ℕ → Option ℤ
integer_of run = if is_integer run then integer_value run else None
