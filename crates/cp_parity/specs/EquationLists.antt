-- Lists of the places of equations by var.
use Rattle.std.specs.Prelude.{◌≡◌, ℕ, ◌<◌, Some, List, [], length, slice_get, slice_index_or}
use Rattle.std.specs.List.{Contains}
use Rattle.cp_base.specs.declared.equation.Equation.{Equation}
use Rattle.cp_parity.specs.Equations.{Touches}

-- the list holds the places of the equations of var x among the first bound ones
pub record AreOf (eqs : List Equation) (bound x : ℕ) (places : List ℕ) : Type 0 where
  pub within : (p : ℕ) → Contains places p → (e : Equation) × (slice_get eqs p ≡ Some e) × Touches e x
  pub all : (p : ℕ) (e : Equation) → p < bound → slice_get eqs p ≡ Some e → Touches e x → Contains places p

-- each var has the list of the places of its equations among the first bound ones
pub record AreListed (eqs : List Equation) (vars bound : ℕ) (lists : List (List ℕ)) : Type 0 where
  pub size : length lists ≡ vars
  pub each : (x : ℕ) → x < vars → AreOf eqs bound x (slice_index_or lists x [])
