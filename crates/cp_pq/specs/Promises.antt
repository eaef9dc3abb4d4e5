-- What the calls on order trees promise.
use Rattle.std.specs.Prelude.{◌≡◌, ◌≢◌, ◌≤◌, ℕ, ◌⊎◌, ◌↔◌, Bool, true, cond, Option, Some, None, length, List, [], ◌∷◌, ◌++◌, map, take, reverse}
use Rattle.std.specs.List.Sorted.{IsPermutation, IsStrictlyIncreasing}
use Rattle.cp_lists.specs.CyclicLists.{Has, Distinct}
use Rattle.cp_pq.specs.declared.node.Node.{Node}
use Rattle.cp_pq.specs.declared.node.Node.TheVariants.{Leaf, P, Q}
use Rattle.cp_pq.specs.declared.part.Part.{Part}
use Rattle.cp_pq.specs.Nodes.{leaves, is_branching, has_vars_below}
use Rattle.cp_pq.specs.Bits.{bit_of}
use Rattle.cp_pq.specs.Readings.{Reads, given, any_bit}
use Rattle.cp_pq.specs.Trees.{PQTree, make_tree, IsPair, Admits}
use Rattle.cp_pq.specs.Orders.{IsConsecutive, HasRow}
use Rattle.cp_pq.specs.Owners.{KeepsOwners, ExchangesOwners}

-- a rising list of leaves of the body, at least one
pub record IsLeafSet (set : List ℕ) (tree : PQTree) : Type 0 where
  pub rising : IsStrictlyIncreasing set
  pub not_empty : set ≢ []
  pub leaves_of : (x : ℕ) → Has x set → Has x (leaves tree.body)

-- one leaf alone, or a P-node of all
abbrev pub star_body : ℕ → List ℕ → Node
star_body owner (x ∷ []) = Leaf x
star_body owner xs = P owner (map Leaf xs)

-- the tree of one P-node: its pairs are all orders of the root and the leaves, with all bits
pub record IsStar (root : ℕ) (leaves : List ℕ) (owner vars : ℕ) (tree : PQTree) : Type 0 where
  pub tree_is : tree ≡ make_tree root (star_body owner leaves) vars []
  pub pairs : (order : List ℕ) (bits : List Bool) → IsPair tree order bits
      ↔ ((length bits ≡ vars) × ((word : List ℕ) × (order ≡ root ∷ word) × IsPermutation leaves word))

-- the new tree has the pairs of the old one in which the set is consecutive, with some further bits, and its shape
-- admits the orders of the old one in which the set is consecutive, at least one
pub record IsReduced (set : List ℕ) (old new : PQTree) : Type 0 where
  pub keeps : (order : List ℕ) (bits : List Bool) → IsPair old order bits → IsConsecutive set order
      → (more : List Bool) × IsPair new order (bits ++ more)
  pub only : (order : List ℕ) (bits : List Bool) → IsPair new order bits
      → IsPair old order (take old.vars bits) × IsConsecutive set order
  pub shape : (order : List ℕ) → Admits new order ↔ (Admits old order × IsConsecutive set order)
  pub possible : (order : List ℕ) × Admits old order × IsConsecutive set order
  pub vars_kept : old.vars ≤ new.vars
  pub root : new.root ≡ old.root
  pub leaves_kept : IsPermutation (leaves old.body) (leaves new.body)
  pub owners : KeepsOwners old.body new.body

-- the shape of the tree admits no order in which the set is consecutive
abbrev pub IsNeverConsecutive : List ℕ → PQTree → Type 0
IsNeverConsecutive set tree = (order : List ℕ) → Admits tree order → IsConsecutive set order → ⊥

-- the row in the direction of a bit: where it is true, from its end
abbrev pub in_direction : {A : Type 0} → Bool → List A → List A
in_direction bit row = cond bit (reverse row) row

-- the new tree has the pairs of the old one that have the row in the direction of the bit of var, with some further
-- bits, and its shape admits the orders of the old one that have the row in either direction, at least one
pub record IsForced (row : List ℕ) (var : ℕ) (old new : PQTree) : Type 0 where
  pub keeps : (order : List ℕ) (bits : List Bool) → IsPair old order bits
      → HasRow (in_direction (bit_of bits var) row) order
      → (more : List Bool) × IsPair new order (bits ++ more)
  pub only : (order : List ℕ) (bits : List Bool) → IsPair new order bits
      → IsPair old order (take old.vars bits) × HasRow (in_direction (bit_of bits var) row) order
  pub shape : (order : List ℕ) → Admits new order ↔ (Admits old order × (HasRow row order ⊎ HasRow (reverse row) order))
  pub possible : (order : List ℕ) × Admits old order × (HasRow row order ⊎ HasRow (reverse row) order)
  pub vars_kept : old.vars ≤ new.vars
  pub root : new.root ≡ old.root
  pub leaves_kept : IsPermutation (leaves old.body) (leaves new.body)
  pub owners : KeepsOwners old.body new.body

-- the shape of the tree admits no order that has the row in either direction
abbrev pub IsNeverInRow : List ℕ → PQTree → Type 0
IsNeverInRow row tree = (order : List ℕ) → Admits tree order → HasRow row order ⊎ HasRow (reverse row) order → ⊥

-- a reading of a part: of its one kid, or of a Q-node with its kids and its var
abbrev pub reading_of : (ℕ → Bool → Bool) → Option ℕ → List Node → List ℕ → Type 0
reading_of may None kids word = (kid : Node) × (kids ≡ kid ∷ []) × Reads may kid word
reading_of may (Some var) kids word = Reads may (Q var kids) word

-- a word is a reading of a part
abbrev pub ReadsPart : (ℕ → Bool → Bool) → Part → List ℕ → Type 0
ReadsPart may part word = reading_of may part.var part.kids word

-- a pair of the old tree reads the set as a run that is a reading of the part. Each reading of the part in place of this
-- run gives a pair of the old tree, and each reading of the node in its place a pair of the new one
pub record HasPart (set : List ℕ) (old new : PQTree) (part : Part) (node : Node) (order : List ℕ) (bits : List Bool) : Type 0 where
  pub before : List ℕ
  pub run : List ℕ
  pub after : List ℕ
  pub order_is : order ≡ before ++ (run ++ after)
  pub run_is : IsPermutation set run
  pub reads : ReadsPart (given bits) part run
  pub again : (word : List ℕ) → ReadsPart (given bits) part word → IsPair old (before ++ (word ++ after)) bits
  pub exchanged : (word : List ℕ) → Reads (given bits) node word → IsPair new (before ++ (word ++ after)) bits

-- a pair of the new tree is one of the old, in which a reading of the part is exchanged for a reading of the node
pub record IsPutIn (old : PQTree) (part : Part) (node : Node) (order : List ℕ) (bits : List Bool) : Type 0 where
  pub before : List ℕ
  pub run : List ℕ
  pub after : List ℕ
  pub order_is : order ≡ before ++ (run ++ after)
  pub reads : Reads (given bits) node run
  pub taken : (word : List ℕ) × ReadsPart (given bits) part word × IsPair old (before ++ (word ++ after)) bits

-- an order of the old shape reads the set as a run that is a reading of the part, where each Q-node is read in either
-- direction. Each reading of the node in its place gives an order of the new shape. Where the part is one node, each
-- reading of this gives an order of the old shape; a run of kids of a Q-node is bound to the direction of its Q-node
pub record HasPartInShape (set : List ℕ) (old new : PQTree) (part : Part) (node : Node) (order : List ℕ) : Type 0 where
  pub before : List ℕ
  pub run : List ℕ
  pub after : List ℕ
  pub order_is : order ≡ before ++ (run ++ after)
  pub run_is : IsPermutation set run
  pub reads : ReadsPart any_bit part run
  pub again : part.var ≡ None → (word : List ℕ) → ReadsPart any_bit part word → Admits old (before ++ (word ++ after))
  pub exchanged : (word : List ℕ) → Reads any_bit node word → Admits new (before ++ (word ++ after))

-- an order of the new shape is one of the old, in which a reading of the part is exchanged for a reading of the node
pub record IsPutInShape (old : PQTree) (part : Part) (node : Node) (order : List ℕ) : Type 0 where
  pub before : List ℕ
  pub run : List ℕ
  pub after : List ℕ
  pub order_is : order ≡ before ++ (run ++ after)
  pub reads : Reads any_bit node run
  pub taken : (word : List ℕ) × ReadsPart any_bit part word × Admits old (before ++ (word ++ after))

-- the new leaves are the old ones, with those of the set exchanged for those of the node
pub record ExchangesLeaves (set node old new : List ℕ) : Type 0 where
  pub rest : List ℕ
  pub old_are : IsPermutation old (set ++ rest)
  pub new_are : IsPermutation new (node ++ rest)

-- the part of the old tree that the set fills is replaced by the node
pub record IsReplaced (set : List ℕ) (node : Node) (old new : PQTree) (part : Part) : Type 0 where
  pub keeps : (order : List ℕ) (bits : List Bool) → IsPair old order bits → HasPart set old new part node order bits
  pub only : (order : List ℕ) (bits : List Bool) → IsPair new order bits → IsPutIn old part node order bits
  pub shape_keeps : (order : List ℕ) → Admits old order → HasPartInShape set old new part node order
  pub shape_only : (order : List ℕ) → Admits new order → IsPutInShape old part node order
  pub root : new.root ≡ old.root
  pub vars : new.vars ≡ old.vars
  pub equations : new.equations ≡ old.equations
  pub leaves_exchanged : ExchangesLeaves set (leaves node) (leaves old.body) (leaves new.body)
  pub owners : ExchangesOwners set node old.body new.body

-- a node that may be put into the tree in place of the set: its leaves are distinct and, but for those of the set, none
-- of them is in the tree; its vars are vars of the tree, and its inner nodes have at least two kids
pub record IsFreshNode (set : List ℕ) (node : Node) (tree : PQTree) : Type 0 where
  pub branching : is_branching node ≡ true
  pub distinct : Distinct (leaves node)
  pub fresh : (x : ℕ) → Has x (leaves node) → Has x (tree.root ∷ leaves tree.body) → Has x set
  pub vars_below : has_vars_below tree.vars node ≡ true
