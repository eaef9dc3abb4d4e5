-- What tests of trees ask: tests of small stars, for lists that are written out, and the leaves of a tree.
use Rattle.std.specs.Prelude.{◌≡◌, ◌<◌, ◌≤◌, ℕ, Bool, true, false, not, ◌&&◌, eqb, nat_lt, length, List, [], ◌∷◌}
use Rattle.std.specs.List.{list_all}
use Rattle.std.specs.List.Sorted.{IsPermutation, IsStrictlyIncreasing}
use Rattle.cp_lists.specs.CyclicLists.{Has, Distinct}
use Rattle.cp_pq.specs.declared.node.Node.{Node}
use Rattle.cp_pq.specs.Nodes.{leaves, is_branching, has_vars_below}
use Rattle.cp_pq.specs.Trees.{PQTree}
use Rattle.cp_pq.specs.Orders.{inside}

-- whether the numbers of a list are distinct
abbrev pub are_apart : List ℕ → Bool
are_apart [] = true
are_apart (x ∷ xs) = list_all (λ y. not (eqb y x)) xs && are_apart xs

-- whether the numbers of a list rise strictly
abbrev pub is_rising : List ℕ → Bool
is_rising [] = true
is_rising (x ∷ []) = true
is_rising (x ∷ y ∷ xs) = nat_lt x y && is_rising (y ∷ xs)

-- whether a list is not empty
abbrev pub is_some : List ℕ → Bool
is_some [] = false
is_some (x ∷ xs) = true

-- whether the root and the leaves are distinct, and the set is a rising list of some of the leaves
abbrev pub is_star_with : ℕ → List ℕ → List ℕ → Bool
is_star_with root xs set = are_apart (root ∷ xs) && (is_some set && (is_rising set && list_all (inside xs) set))

-- the tree has this root and these leaves
pub record HasLeaves (root : ℕ) (xs : List ℕ) (tree : PQTree) : Type 0 where
  pub root_is : tree.root ≡ root
  pub leaves_are : IsPermutation xs (leaves tree.body)

-- a rising list of so many numbers, from 1 to their count
pub record AreNumbers (count : ℕ) (xs : List ℕ) : Type 0 where
  pub rising : IsStrictlyIncreasing xs
  pub within : (x : ℕ) → Has x xs → (0 < x) × (x ≤ count)
  pub long : length xs ≡ count

-- a node with the leaves from 1 to a count, each once, that can be the body of a tree without vars
pub record IsGrown (count : ℕ) (node : Node) : Type 0 where
  pub branching : is_branching node ≡ true
  pub distinct : Distinct (leaves node)
  pub vars_below : has_vars_below 0 node ≡ true
  pub leaves_in : (x : ℕ) → Has x (leaves node) → (0 < x) × (x ≤ count)
  pub leaves_are : (x : ℕ) → 0 < x → x ≤ count → Has x (leaves node)
