-- Lists of the same items in any order.
use Rattle.std.specs.Prelude.{ℕ, ◌↔◌, List}
use Rattle.cp_lists.specs.CyclicLists.{Has, Distinct}

-- xs has the items of ys, each once
pub record IsArrangementOf (xs ys : List ℕ) : Type 0 where
  pub distinct : Distinct xs
  pub items : (d : ℕ) → Has d xs ↔ Has d ys
