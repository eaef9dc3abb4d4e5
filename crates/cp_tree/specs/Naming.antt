-- Shapes whose leaves get other names.
use Rattle.std.specs.Prelude.{ℕ}
use Rattle.cp_base.specs.declared.shape.Branch.{Branch}
use Rattle.cp_base.specs.declared.shape.Branch.TheOpen.{Branch-F}
use Rattle.cp_base.specs.declared.shape.Branch.TheFolds.{fold-Branch}
use Rattle.cp_base.specs.declared.shape.Branch.TheVariants as branch
use Rattle.cp_base.specs.declared.shape.Shape.{Shape}

-- the branch of a layer whose kids are renamed
abbrev pub renamed_step : (ℕ → ℕ) → Branch-F Branch → Branch
renamed_step f (Branch-F.Leaf x) = branch.Leaf (f x)
renamed_step f (Branch-F.P kids) = branch.P kids
renamed_step f (Branch-F.Q kids) = branch.Q kids

-- the branch with leaf f x in the place of each leaf x
unfoldable pub renamed : (ℕ → ℕ) → Branch → Branch
renamed f = fold-Branch Branch (renamed_step f)

-- the shape with leaf f x in the place of each leaf x, its root too
abbrev pub renamed_shape : (ℕ → ℕ) → Shape → Shape
renamed_shape f s = record { root = f s.root; body = renamed f s.body }
