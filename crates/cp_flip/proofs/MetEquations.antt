-- Equations over the bits of a tree, as the search for bits sees them.
use Rattle.std.proofs.Common.{ℕ, zero, suc, Bool, List, [], ◌∷◌, arith}
use Rattle.std.specs.List.{All, AllByRecursion}
use Rattle.cp_base.specs.declared.equation.Equation.{Equation}
use Rattle.cp_base.specs.Bits.{IsMet, IsOverVars}

-- what holds of all items by recursion holds at each place
pub all_at : {A : Type 0} (P : A → Type 0) (xs : List A) → AllByRecursion P xs → All P xs
all_at P [] all k d lt = absurd (omega arith)
all_at P (x ∷ xs) all zero d lt = all.0
all_at P (x ∷ xs) all (suc k) d lt = all_at P xs all.1 k d (omega arith)

-- and back
pub all_by : {A : Type 0} (P : A → Type 0) (xs : List A) → All P xs → AllByRecursion P xs
all_by P [] all = tt
all_by P (x ∷ xs) all = (all 0 x (omega arith), all_by P xs (λ k d lt. all (suc k) d (omega arith)))

-- bits that meet the equations for the search meet them for the tree
pub parity-met : (bits : List Bool) (equations : List Equation) → All (IsMet bits) equations
    → AllByRecursion (IsMet bits) equations
parity-met bits equations met = all_by (IsMet bits) equations met

-- and back
pub met-parity : (bits : List Bool) (equations : List Equation) → AllByRecursion (IsMet bits) equations
    → All (IsMet bits) equations
met-parity bits equations met = all_at (IsMet bits) equations met

-- equations over the vars of the tree
pub over_vars : (vars : ℕ) (equations : List Equation) → AllByRecursion (IsOverVars vars) equations
    → All (IsOverVars vars) equations
over_vars vars equations over = all_at (IsOverVars vars) equations over
