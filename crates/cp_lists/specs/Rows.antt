-- Several lists in one.
use Rattle.std.specs.Prelude.{ℕ, List, [], ◌∷◌, ◌++◌}

-- all lists one behind the other
abbrev pub flat : List (List ℕ) → List ℕ
flat [] = []
flat (xs ∷ rows) = xs ++ flat rows
