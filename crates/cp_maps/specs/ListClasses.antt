-- The classes of the items of a list, in its cyclic order.
use Rattle.std.specs.Prelude.{◌≡◌, ℕ, eqb, List, [], ◌∷◌, ◌↔◌}
use Rattle.std.specs.List.{filter}
use Rattle.cp_lists.specs.CyclicLists.{Has, follow}

-- the list has exactly the items of row of one class, in their cyclic order, and some item
pub record IsClassOf (cls : ℕ → ℕ) (row ys : List ℕ) : Type 0 where
  pub one : ℕ
  pub some : Has one ys
  pub items : (d : ℕ) → Has d ys ↔ (Has d row × (cls d ≡ cls one))
  pub order : (d : ℕ) → Has d ys → follow ys d ≡ follow (filter (λ y. eqb (cls y) (cls one)) row) d

-- each list is a class of row
abbrev pub EachClassOf : (ℕ → ℕ) → List ℕ → List (List ℕ) → Type 0
EachClassOf cls row [] = Unit {0}
EachClassOf cls row (ys ∷ copies) = IsClassOf cls row ys × EachClassOf cls row copies
