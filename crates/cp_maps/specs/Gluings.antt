-- Lists put together: pairs of darts, copies of one vertex, and lists that grow from one.
use Rattle.std.specs.Prelude.{◌≡◌, ℕ, eqb, List, [], ◌∷◌, ◌++◌, ◌⊎◌, cond}
use Rattle.std.specs.List.{filter}
use Rattle.cp_lists.specs.CyclicLists.{Has, Lacks, follow}
use Rattle.cp_lists.specs.Rows.{flat}
use Rattle.cp_lists.specs.Turns.{IsTurn}
use Rattle.cp_faces.specs.Twins.{twin}
use Rattle.cp_maps.specs.Genus.{AllApart}
use Rattle.cp_maps.specs.Maps.{IsMapOf, has}

-- the dart q in place of t, and all others as they are
abbrev pub in_place : ℕ → ℕ → ℕ → ℕ
in_place t q d = cond (eqb d t) q d

-- the dart in place of d, where the second dart of each pair takes the place of the twin of the first
abbrev pub onto : List (ℕ × ℕ) → ℕ → ℕ
onto [] d = d
onto (p ∷ ps) d = cond (eqb d (twin p.0)) p.1 (onto ps d)

-- each list has a dart whose twin is in those before
abbrev pub Grows : List ℕ → List (List ℕ) → Type 0
Grows all [] = Unit {0}
Grows all (ys ∷ group) = ((x : ℕ) × Has x all × Has (twin x) ys) × Grows (all ++ ys) group

-- a list that holds, of the darts of some vertices made one, at least those that lead out of them
pub record HoldsLeaving (zs all : List ℕ) : Type 0 where
  pub within : (d : ℕ) → Has d zs → Has d all
  pub outward : (d : ℕ) → Has d all → Lacks (twin d) all → Has d zs

-- the list is made of the copies: the first stands in it in one piece, up to turns, and the rest is made of the others
abbrev pub IsAssembled : List ℕ → List (List ℕ) → Type 0
IsAssembled row [] = row ≡ []
IsAssembled row (xs ∷ copies) = (rest : List ℕ) × IsTurn (xs ++ rest) row × IsAssembled rest copies

-- each list is, up to a turn, what the list xs has of its items
abbrev pub EachTurnOf : List ℕ → List (List ℕ) → Type 0
EachTurnOf xs [] = Unit {0}
EachTurnOf xs (ys ∷ copies) = IsTurn (filter (λ d. has d ys) xs) ys × EachTurnOf xs copies

-- the lists are copies of one list: each is, up to a turn, what it has of it, and together they have all of it
pub record AreCopiesOf (xs : List ℕ) (copies : List (List ℕ)) : Type 0 where
  pub turned : EachTurnOf xs copies
  pub all : (d : ℕ) → Has d xs → Has d (flat copies)

-- lists that are divided into copies, those of one list all in different components of the map
abbrev pub AreDivided : ℕ → (ℕ → ℕ) → List (List ℕ × List (List ℕ)) → Type 0
AreDivided e g [] = Unit {0}
AreDivided e g (x ∷ xs) = (AreCopiesOf x.0 x.1 × AllApart e g x.1) × AreDivided e g xs

-- the copies of all lists
abbrev pub all_copies : List (List ℕ × List (List ℕ)) → List (List ℕ)
all_copies [] = []
all_copies (x ∷ xs) = x.1 ++ all_copies xs

-- at the items of each list a dart leads to the next one of its class
abbrev pub AreSplitBy : (ℕ → ℕ) → (ℕ → ℕ) → List (List ℕ) → Type 0
AreSplitBy class g [] = Unit {0}
AreSplitBy class g (xs ∷ rows) =
    ((d : ℕ) → Has d xs → g d ≡ follow (filter (λ y. eqb (class y) (class d)) xs) d) × AreSplitBy class g rows

-- of a group of lists, those that grow from zs as far as it goes, and those that are left
pub record Grown (zs : List ℕ) (group : List (List ℕ)) : Type 0 where
  pub taken : List (List ℕ)
  pub left : List (List ℕ)
  pub grows : Grows zs taken
  pub closed : (d : ℕ) → Has d (flat left) → Lacks (twin d) (zs ++ flat taken)
  pub taken_item : (d : ℕ) → Has d (flat taken) → Has d (flat group)
  pub left_item : (d : ℕ) → Has d (flat left) → Has d (flat group)
  pub each : (d : ℕ) → Has d (flat group) → Has d (flat taken) ⊎ Has d (flat left)
  pub order : (n : ℕ) (f : ℕ → ℕ) (first : List (List ℕ)) → IsMapOf n f (first ++ group)
      → IsMapOf n f (first ++ (taken ++ left))
