-- Order trees, the pairs of a cyclic order and bits that they have, and the orders that their shapes admit.
use Rattle.std.specs.Prelude.{◌≡◌, ℕ, Bool, true, List, ◌∷◌, length}
use Rattle.std.specs.List.{AllByRecursion}
use Rattle.cp_lists.specs.CyclicLists.{Distinct}
use Rattle.cp_base.specs.declared.equation.Equation.{Equation}
use Rattle.cp_pq.specs.declared.node.Node.{Node}
use Rattle.cp_pq.specs.Nodes.{leaves, is_branching, has_vars_below}
use Rattle.cp_pq.specs.Bits.{IsMet, IsOverVars}
use Rattle.cp_pq.specs.Readings.{Reads, given, any_bit}

-- a root leaf, a body, a number of vars and equations over their bits (Booth, Lueker 1976, with bits)
pub record PQTree : Type 0 where
  pub root : ℕ
  pub body : Node
  pub vars : ℕ
  pub equations : List Equation

-- the tree with this root, body, number of vars and equations
abbrev pub make_tree : ℕ → Node → ℕ → List Equation → PQTree
make_tree root body vars equations = record { root = root; body = body; vars = vars; equations = equations }

-- inner nodes have at least two kids, the root and the leaves of the body are distinct, and all vars are below the
-- number of vars
pub record IsWellFormed (tree : PQTree) : Type 0 where
  pub branching : is_branching tree.body ≡ true
  pub distinct : Distinct (tree.root ∷ leaves tree.body)
  pub vars_below : has_vars_below tree.vars tree.body ≡ true
  pub equations_below : AllByRecursion (IsOverVars tree.vars) tree.equations

-- a pair of the tree: a cyclic order, written from the root on, and one bit for each var. The bits meet all equations,
-- and behind the root stands a reading of the body by the bits
pub record IsPair (tree : PQTree) (order : List ℕ) (bits : List Bool) : Type 0 where
  pub word : List ℕ
  pub order_is : order ≡ tree.root ∷ word
  pub bits_count : length bits ≡ tree.vars
  pub reads : Reads (given bits) tree.body word
  pub met : AllByRecursion (IsMet bits) tree.equations

-- the shape of the tree admits a cyclic order, written from the root on: behind the root stands a reading of the body
-- in which each Q-node is read in either direction
abbrev pub Admits : PQTree → List ℕ → Type 0
Admits tree order = (word : List ℕ) × (order ≡ tree.root ∷ word) × Reads any_bit tree.body word
