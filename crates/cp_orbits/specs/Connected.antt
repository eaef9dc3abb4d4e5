-- Connection by pairs: the relation of graph theory, by walks.
use Rattle.std.specs.Prelude.{◌≡◌, ℕ, ◌≤◌, ◌⊎◌, List}
use Rattle.std.specs.List.{Contains}

-- the pair joins x and y, in one or the other order
abbrev pub Joins : ℕ × ℕ → ℕ → ℕ → Type 0
Joins e x y = ((e.0 ≡ x) × (e.1 ≡ y)) ⊎ ((e.0 ≡ y) × (e.1 ≡ x))

-- a walk leads from x to y: each two neighbours on it are joined by one of the pairs
pub data Connected (es : List (ℕ × ℕ)) (x : ℕ) : ℕ → Type 0 where
  here : Connected es x x
  step : {y z : ℕ} → Connected es x y → (e : ℕ × ℕ) → Contains es e → Joins e y z → Connected es x z

-- x is the least number that is connected to it, so it stands for its component
abbrev pub IsLeastConnected : List (ℕ × ℕ) → ℕ → Type 0
IsLeastConnected es x = (y : ℕ) → Connected es x y → x ≤ y
