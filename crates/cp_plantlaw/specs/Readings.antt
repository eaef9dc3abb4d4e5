-- The order that lists of planted vertices read (Booth, Lueker 1976; Bläsius, Fink, Rutter 2021): each edge from
-- above stands for what is read below it.
use Rattle.std.specs.Prelude.{◌≡◌, ◌≢◌, ℕ, List, [], ◌∷◌, ◌++◌, map, reverse, take}
use Rattle.std.specs.List.{All, Contains}
use Rattle.cp_lists.specs.Turns.{IsTurn}
use Rattle.cp_board.specs.declared.parts.Pipe.{Pipe}
use Rattle.cp_board.specs.Instances.{Synchronized, vert_names}
use Rattle.cp_board.specs.Plantings.{Planted}
use Rattle.cp_board.specs.Steps.{opposite, partner}

-- what the lists t read below the edge `top` of the planted rows: an edge that no row begins with is read itself, and
-- the first edge of a row is read as the other edges of its vertex, from this edge on, each read in turn
mutual
  pub data ReadsBelow (rows : List Planted) (t : ℕ → List ℕ) : ℕ → List ℕ → Type 0 where
    leaf : (x : ℕ) → All (λ r. take 1 r.edges ≢ x ∷ []) rows → ReadsBelow rows t x (x ∷ [])
    node : (r : Planted) (top : ℕ) (tops others xs : List ℕ)
        → Contains rows r
        → r.edges ≡ top ∷ tops
        → IsTurn (t r.vertex) (top ∷ others)
        → ReadsEach rows t others xs
        → ReadsBelow rows t top xs

  pub data ReadsEach (rows : List Planted) (t : ℕ → List ℕ) : List ℕ → List ℕ → Type 0 where
    none : ReadsEach rows t [] []
    more : (x : ℕ) (others xs ys : List ℕ)
        → ReadsBelow rows t x xs
        → ReadsEach rows t others ys
        → ReadsEach rows t (x ∷ others) (xs ++ ys)

-- the lists s of an instance, read from lists t of what Propagate makes of it: the end u has the root edge followed by
-- what the tree planted in its place reads below it, the other end its mirror, and all others keep their lists
pub record IsReadBack (i : Synchronized) (p : Pipe) (u root : ℕ) (rows : List Planted) (t s : ℕ → List ℕ) : Type 0 where
  pub word : List ℕ
  pub reads : ReadsBelow rows t root word
  pub at_end : IsTurn (root ∷ word) (s u)
  pub at_other : IsTurn (reverse (map (partner p u) (root ∷ word))) (s (opposite p u))
  pub others : (v : ℕ) → Contains (vert_names i) v → v ≢ u → v ≢ opposite p u → s v ≡ t v
