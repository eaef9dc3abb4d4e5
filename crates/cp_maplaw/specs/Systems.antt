-- The lists of a rotation system.
use Rattle.std.specs.Prelude.{ℕ, List, [], ◌∷◌, suc, zero}
use Rattle.cp_rot.specs.Systems.{System, list_of}

-- the lists of the vertices below v
abbrev pub rows_upto : (ℕ → List ℕ) → ℕ → List (List ℕ)
rows_upto lists zero = []
rows_upto lists (suc v) = lists v ∷ rows_upto lists v

-- the lists of a system
abbrev pub rows_of : System → List (List ℕ)
rows_of r = rows_upto (list_of r) r.vertices
