-- Ties as equations.
use Rattle.std.specs.Prelude.{ℕ, Bool, List, map}
use Rattle.cp_base.specs.declared.equation.Equation.{Equation}

-- the var has the bit of y, turned where the tie says so
abbrev pub tie_equation : ℕ → ℕ × Bool → Equation
tie_equation y t = record { x = t.0; y = y; odd = t.1 }

-- one equation for each tie
abbrev pub tie_equations : ℕ → List (ℕ × Bool) → List Equation
tie_equations y ts = map (tie_equation y) ts
