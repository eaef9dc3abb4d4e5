-- Permutations of the numbers below a bound, and their orbits.
use Rattle.std.specs.Prelude.{◌≡◌, ◌≢◌, ℕ, ◌<◌, ◌≤◌, cond, eqb}
use Rattle.std.specs.Fn.{iterate}

-- f maps the numbers below n to themselves, and no two of them to one
pub record Permutes (n : ℕ) (f : ℕ → ℕ) : Type 0 where
  pub below : (x : ℕ) → x < n → f x < n
  pub apart : (x y : ℕ) → x < n → y < n → f x ≡ f y → x ≡ y

-- repeating f leads from x to y
abbrev pub Reaches : (ℕ → ℕ) → ℕ → ℕ → Type 0
Reaches f x y = (k : ℕ) × (iterate f k x ≡ y)

-- f leads back to x after k steps, and not after fewer, but none
pub record CycleLength (f : ℕ → ℕ) (x k : ℕ) : Type 0 where
  pub some : 1 ≤ k
  pub returns : iterate f k x ≡ x
  pub first : (i : ℕ) → 1 ≤ i → i < k → iterate f i x ≢ x

-- x is the least number that repeating f leads to from x, so it stands for its orbit
abbrev pub IsLeastOfOrbit : (ℕ → ℕ) → ℕ → Type 0
IsLeastOfOrbit f x = (k : ℕ) → x ≤ iterate f k x

-- x, but b for a and a for b
abbrev pub exchange : ℕ → ℕ → ℕ → ℕ
exchange a b x = cond (eqb x a) b (cond (eqb x b) a x)

-- f with the number d left out: what f takes to d goes on to where f takes d
abbrev pub splice : (ℕ → ℕ) → ℕ → ℕ → ℕ
splice f d x = cond (eqb (f x) d) (f d) (f x)

-- f with the new number x put in behind d
abbrev pub put : (ℕ → ℕ) → ℕ → ℕ → ℕ → ℕ
put f x d y = cond (eqb y d) x (cond (eqb y x) (f d) (f y))

-- p and q map the numbers below n to each other, and undo each other
pub record Renumbers (n : ℕ) (p q : ℕ → ℕ) : Type 0 where
  pub there : (x : ℕ) → x < n → p x < n
  pub back : (x : ℕ) → x < n → q x < n
  pub there_back : (x : ℕ) → x < n → q (p x) ≡ x
  pub back_there : (x : ℕ) → x < n → p (q x) ≡ x
