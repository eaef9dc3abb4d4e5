-- Rows of the cycles of a map: the least items of the cycles, then what the map makes of them, and so on.
use Rattle.std.specs.Prelude.{ℕ, zero, suc, Bool, true, ◌&&◌, leb, List, [], ◌++◌, map}
use Rattle.std.specs.List.{filter}

-- x is not above y and the next items on its cycle, n in all
abbrev pub lowest : (ℕ → ℕ) → ℕ → ℕ → ℕ → Bool
lowest m zero x y = true
lowest m (suc n) x y = leb x y && lowest m n x (m y)

-- the items that are least on their cycles of n items
abbrev pub leaders : (ℕ → ℕ) → ℕ → List ℕ → List ℕ
leaders m n es = filter (λ x. lowest m n x x) es

-- the row, its image, and so on, n rows
abbrev pub layers : (ℕ → ℕ) → ℕ → List ℕ → List ℕ
layers m zero row = []
layers m (suc n) row = row ++ layers m n (map m row)
