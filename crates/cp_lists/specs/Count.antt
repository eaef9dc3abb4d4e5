-- Counting, and lists that hold exactly what passes a test.
use Rattle.std.specs.Prelude.{◌≡◌, ℕ, zero, suc, ◌+◌, ◌<◌, Bool, true, cond, not, ◌&&◌, eqb, ◌↔◌, List, length, slice_index}
use Rattle.std.specs.List.{Contains}

-- how many of the numbers below n pass a test
abbrev pub count : ℕ → (ℕ → Bool) → ℕ
count zero p = 0
count (suc n) p = cond (p n) 1 0 + count n p

-- the test p, which a does not pass any more
abbrev pub without : (ℕ → Bool) → ℕ → ℕ → Bool
without p a x = p x && not (eqb x a)

-- exactly c of the numbers below n have the property P: some test tells which, and c pass it
pub record IsCount (P : ℕ → Type 0) (n c : ℕ) : Type 0 where
  pub test : ℕ → Bool
  pub decides : (x : ℕ) → x < n → (test x ≡ true) ↔ P x
  pub counted : c ≡ count n test

-- the list holds each number below n that passes the test exactly once, and nothing else
pub record Exactly (n : ℕ) (p : ℕ → Bool) (xs : List ℕ) : Type 0 where
  pub each_passes : (i : ℕ) → i < length xs → (slice_index xs i < n) × (p (slice_index xs i) ≡ true)
  pub each_once : (i j : ℕ) → i < length xs → j < length xs → slice_index xs i ≡ slice_index xs j → i ≡ j
  pub all : (x : ℕ) → x < n → p x ≡ true → Contains xs x
