-- What the orders of a vertex that is no cut vertex are, in the rotations of its block (Bläsius, Rutter 2016).
use Rattle.std.specs.Prelude.{◌≡◌, ℕ, true, List, [], ◌∷◌, take}
use Rattle.std.specs.List.{Contains}
use Rattle.std.specs.List.Sorted.{IsPermutation}
use Rattle.cp_base.specs.declared.shape.Shape.{Shape}
use Rattle.cp_base.specs.Shapes.{Admits, IsStar, branches, leaves}
use Rattle.cp_conn.specs.Bonds.{IsBond}
use Rattle.cp_conn.specs.NamedGraphs.{InOneBlock}
use Rattle.cp_board.specs.Blocks.{IsBlockOrder, IsUnembeddable}
use Rattle.cp_board.specs.Instances.{IsPVertex, Synchronized, edges_of, graph}
use Rattle.cp_board.specs.Names.{rising}
use Rattle.cp_tree.specs.declared.end_tree.EndTree.{EndTree}
use Rattle.cp_tree.specs.declared.end_tree.EndTree.TheVariants as end
use Rattle.cp_tree.specs.declared.fault.TreeFault.{TreeFault}
use Rattle.cp_tree.specs.declared.fault.TreeFault.TheVariants as fault

-- u has each cyclic order of its edges in some rotation of its block
abbrev pub HasEveryOrder : Synchronized → ℕ → Type 0
HasEveryOrder i u = (order : List ℕ) → IsPermutation (edges_of i u) order → IsBlockOrder i u order

-- u has some order in some rotation of its block
abbrev pub HasSomeOrder : Synchronized → ℕ → Type 0
HasSomeOrder i u = (order : List ℕ) × IsBlockOrder i u order

-- u and the P-vertex v are a bond, and u has each order
pub record IsPoleOf (i : Synchronized) (u v : ℕ) : Type 0 where
  pub bond : IsBond (graph i) u v
  pub free : IsPVertex i v
  pub every_order : HasEveryOrder i u

-- the shape has the edges of u as its leaves, the least as its root, and is no star; it admits each order that u has,
-- and u has not every order
pub record IsShapeOf (i : Synchronized) (u : ℕ) (shape : Shape) : Type 0 where
  pub branching : branches shape.body ≡ true
  pub leaves : rising (shape.root ∷ leaves shape.body) ≡ edges_of i u
  pub least : take 1 (edges_of i u) ≡ shape.root ∷ []
  pub no_star : ¬ IsStar shape.body
  pub admits : (order : List ℕ) → IsBlockOrder i u order → Admits shape order
  pub not_every : ¬ HasEveryOrder i u

-- the pole where u has every order, and else the shape
abbrev pub IsEndTree : Synchronized → ℕ → EndTree → Type 0
IsEndTree i u (end.Pole v) = IsPoleOf i u v
IsEndTree i u (end.Shape s) = IsShapeOf i u s

-- where an edge is told, the block of u has no rotation, and this is its least edge
abbrev pub IsTreeFault : Synchronized → ℕ → TreeFault → Type 0
IsTreeFault i u told = (e : ℕ) → told ≡ fault.NotPlanar e → IsUnembeddable i e
    × ((f : ℕ) → Contains (edges_of i u) f → InOneBlock (graph i) e f)
