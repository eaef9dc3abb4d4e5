-- Branches between two poles (Bläsius, Fink and Rutter 2021): the parts into which two vertices divide a map.
use Rattle.std.specs.Prelude.{◌≡◌, ◌≢◌, ℕ, List, [], ◌∷◌, ◌++◌, ◌*◌, Bool, ◌⊎◌}
use Rattle.std.specs.List.{filter}
use Rattle.cp_lists.specs.CyclicLists.{Has}
use Rattle.cp_lists.specs.Rows.{flat}
use Rattle.cp_lists.specs.Turns.{IsTurn}
use Rattle.cp_faces.specs.Twins.{twin}
use Rattle.cp_maps.specs.Gluings.{Grows}
use Rattle.cp_maps.specs.Maps.{SameRings}

-- a branch: its dart at the one pole, its darts at the other in their order, and the lists of its vertices between
pub record Branch : Type 0 where
  pub head : ℕ
  pub tail : List ℕ
  pub inner : List (List ℕ)

-- the lists of a branch whose two poles are one vertex
abbrev pub closed_lists : Branch → List (List ℕ)
closed_lists b = (b.tail ++ b.head ∷ []) ∷ b.inner

-- the darts at the one pole
abbrev pub heads : List Branch → List ℕ
heads [] = []
heads (b ∷ bs) = b.head ∷ heads bs

-- the darts at the other pole: behind the darts zs of no branch those of the branches, the last branch first
abbrev pub tails : List ℕ → List Branch → List ℕ
tails zs [] = zs
tails zs (b ∷ bs) = tails zs bs ++ b.tail

-- the lists between the poles, and the lists rows of no branch
abbrev pub inners : List (List ℕ) → List Branch → List (List ℕ)
inners rows [] = rows
inners rows (b ∷ bs) = b.inner ++ inners rows bs

-- all darts: those of the branches, and those of none
abbrev pub all_darts : List ℕ → List (List ℕ) → List Branch → List ℕ
all_darts zs rows [] = flat (zs ∷ rows)
all_darts zs rows (b ∷ bs) = flat (closed_lists b) ++ all_darts zs rows bs

-- a property of each branch
abbrev pub EachBranch : (Branch → Type 0) → List Branch → Type 0
EachBranch good [] = Unit {0}
EachBranch good (b ∷ bs) = good b × EachBranch good bs

-- the branch has both darts of each of its edges
abbrev pub HasTwins : Branch → Type 0
HasTwins b = (d : ℕ) → Has d (flat (closed_lists b)) → Has (twin d) (flat (closed_lists b))

-- the two darts y at the one pole and q at the other lead into one connected part of the rows beside the branch
pub record AreLinked (e : ℕ) (us vs : List ℕ) (rows inner : List (List ℕ)) (y q : ℕ) : Type 0 where
  pub first : List ℕ
  pub link : List (List ℕ)
  pub others : List (List ℕ)
  pub beside : SameRings (2 * e) (us ∷ vs ∷ rows) (us ∷ vs ∷ ((first ∷ link) ++ (inner ++ others)))
  pub grows : Grows first link
  pub into : Has (twin y) (first ++ flat link)
  pub out : Has (twin q) (first ++ flat link)

-- the darts y and q at the poles are those of one edge, beside the branch
pub record AreOfOneEdge (e : ℕ) (us vs : List ℕ) (rows inner : List (List ℕ)) (y q : ℕ) : Type 0 where
  pub others : List (List ℕ)
  pub beside : SameRings (2 * e) (us ∷ vs ∷ rows) (us ∷ vs ∷ (inner ++ others))
  pub twins : q ≡ twin y

-- the branch is one between the poles us and vs among the rows: beside it another dart y leads from the one pole to the
-- dart q of the other, from which on this pole has the darts of the branch in the order of its tail
pub record IsBranchOf (e : ℕ) (us vs : List ℕ) (rows : List (List ℕ)) (b : Branch) : Type 0 where
  pub y : ℕ
  pub q : ℕ
  pub keep : ℕ → Bool
  pub at_one : Has b.head us
  pub other : Has y us
  pub two : y ≢ b.head
  pub order : IsTurn (filter keep vs) (q ∷ b.tail)
  pub linked : AreLinked e us vs rows b.inner y q ⊎ AreOfOneEdge e us vs rows b.inner y q
