-- What a row of compared nodes asks of a licence.
use Rattle.std.specs.Prelude.{ℕ, Bool, false, List, [], ◌∷◌}
use Rattle.cp_pq.specs.declared.found.Found.{Found}
use Rattle.cp_pq.specs.Words.{Licensed}

-- the ties of a line hold; where there is no line, nothing does
abbrev pub Grant : (ℕ → Bool → Bool) → Found → Type 0
Grant may (Found.Out m) = Unit {0}
Grant may (Found.In m) = Unit {0}
Grant may (Found.Line front back ties) = Licensed false may ties
Grant may Found.Torn = ⊥

-- the ties of all lines of a row hold, and none of it is torn
abbrev pub Grants : (ℕ → Bool → Bool) → List Found → Type 0
Grants may [] = Unit {0}
Grants may (f ∷ fs) = Grant may f × Grants may fs
