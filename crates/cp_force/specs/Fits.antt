-- Nodes fitted to an order of leaves: the one reading that a node may have with its leaves in their places.
use Rattle.std.specs.Prelude.{◌≡◌, ℕ, ◌<◌, ◌↔◌, Bool, true, false, nat_eq, nat_lt, unwrap_or, List, [], ◌∷◌}
use Rattle.std.specs.List.{flat_map, list_all, AllByRecursion}
use Rattle.std.specs.HashMap.{get, HashMap}
use Rattle.std.specs.declared.hash.FoldHasher.{FoldHasher}
use Rattle.std.specs.declared.hash.BuildHasherDefault.{BuildHasherDefault}
use Rattle.cp_lists.specs.CyclicLists.{Has}
use Rattle.cp_pq.specs.declared.node.Node.{Node}
use Rattle.cp_pq.specs.Nodes.{leaves, all_leaves, has_vars_below}
use Rattle.cp_pq.specs.Readings.{Reads, ReadsAll}
use Rattle.cp_pq.specs.Words.{Licensed}
use Rattle.cp_force.specs.declared.fitting.Fitted.{Fitted}
use Rattle.cp_pq.specs.Promises.{in_direction}

-- the place of each leaf of an order
abbrev pub PlaceMap : Type 0
PlaceMap = HashMap ℕ ℕ (BuildHasherDefault FoldHasher)

-- the place of a leaf, or 0 for a number that is no leaf of the order
unfoldable pub place_in : PlaceMap → ℕ → ℕ
place_in places x = unwrap_or (get nat_eq places x) 0

-- each leaf of the word stands before those behind it
abbrev pub Rises : (ℕ → ℕ) → List ℕ → Type 0
Rises place [] = Unit {0}
Rises place (x ∷ xs) = ((y : ℕ) → Has y xs → place x < place y) × Rises place xs

-- the vars of the ties are among so many
abbrev pub AreBelow : ℕ → List (ℕ × Bool) → Type 0
AreBelow vars ties = AllByRecursion (λ t. t.0 < vars) ties

-- the key is the place of a leaf of the node; a reading by rising places is the word, and comes exactly where the ties
-- are licensed, which are ties of vars of the node
pub record IsFitted (place : ℕ → ℕ) (n : Node) (f : Fitted) : Type 0 where
  pub near : (x : ℕ) × Has x (leaves n) × (f.key ≡ place x)
  pub only : (may : ℕ → Bool → Bool) (xs : List ℕ) → Reads may n xs → Rises place xs
      → (xs ≡ f.word) × Licensed false may f.ties
  pub reads : (may : ℕ → Bool → Bool) → Licensed false may f.ties → Reads may n f.word
  pub below : (vars : ℕ) → has_vars_below vars n ≡ true → AreBelow vars f.ties

-- the same of a row of nodes that is read in its order or turned: by rising places it is read in one of these
-- directions
pub record IsFittedRow (place : ℕ → ℕ) (ks : List Node) (turned : Bool) (f : Fitted) : Type 0 where
  pub near : (x : ℕ) × Has x (all_leaves ks) × (f.key ≡ place x)
  pub only : (may : ℕ → Bool → Bool) (way : Bool) (xs : List ℕ) → ReadsAll may (in_direction way ks) xs → Rises place xs
      → (way ≡ turned) × (xs ≡ f.word) × Licensed false may f.ties
  pub reads : (may : ℕ → Bool → Bool) → Licensed false may f.ties → ReadsAll may (in_direction turned ks) f.word
  pub below : (vars : ℕ) → list_all (has_vars_below vars) ks ≡ true → AreBelow vars f.ties

-- the words of a row, one behind the other
abbrev pub words_of : List Fitted → List ℕ
words_of row = flat_map (λ f. f.word) row

-- the ties of a row, one behind the other
abbrev pub ties_of : List Fitted → List (ℕ × Bool)
ties_of row = flat_map (λ f. f.ties) row

-- the key of the first node of a row
abbrev pub first_key : List Fitted → ℕ
first_key [] = 0
first_key (f ∷ fs) = f.key

-- whether the second node of a row comes before the first
abbrev pub is_turned : List Fitted → Bool
is_turned [] = false
is_turned (f ∷ []) = false
is_turned (f ∷ g ∷ fs) = nat_lt g.key f.key

-- the order is a reading of the node exactly where the ties are licensed, which are ties of vars of the node
pub record IsTiedReading (n : Node) (order : List ℕ) (ties : List (ℕ × Bool)) : Type 0 where
  pub reads : (may : ℕ → Bool → Bool) → Reads may n order ↔ Licensed false may ties
  pub below : (vars : ℕ) → has_vars_below vars n ≡ true → AreBelow vars ties

-- the order is a reading of the row in one direction, exactly where the ties are licensed, and none in the other
pub record IsTiedRow (ks : List Node) (order : List ℕ) (turned : Bool) (ties : List (ℕ × Bool)) : Type 0 where
  pub reads : (may : ℕ → Bool → Bool) (way : Bool) → ReadsAll may (in_direction way ks) order
      ↔ ((way ≡ turned) × Licensed false may ties)
  pub below : (vars : ℕ) → list_all (has_vars_below vars) ks ≡ true → AreBelow vars ties
