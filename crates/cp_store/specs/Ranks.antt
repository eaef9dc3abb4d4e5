-- Ranks by two numbers of 64 bits.
use Rattle.std.specs.Prelude.{ℕ, ◌+◌, ◌*◌}

-- the rank of two numbers, of which the first counts more
abbrev pub rank : ℕ × ℕ → ℕ
rank r = r.0 * 18446744073709551616 + r.1
