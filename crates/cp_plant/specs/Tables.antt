-- Tables from keys to values.
use Rattle.std.specs.Prelude.{ℕ, eqb, List}
use Rattle.std.specs.List.{find}
use Rattle.std.specs.Option.{option_map_or}

-- the value of the first pair of a key, or another value where there is none
abbrev pub value_or : List (ℕ × ℕ) → ℕ → ℕ → ℕ
value_or pairs x other = option_map_or (λ y. y.1) (find (λ y. eqb y.0 x) pairs) other
