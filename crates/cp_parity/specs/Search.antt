-- What holds within a search through the vars along the equations.
use Rattle.std.specs.Prelude.{◌≡◌, ℕ, ◌<◌, ◌≤◌, ◌↔◌, Bool, false, Option, Some, List, [], ◌∷◌, length, slice_get, slice_index_or}
use Rattle.cp_base.specs.declared.equation.Equation.{Equation}
use Rattle.cp_orbits.specs.Connected.{Joins}
use Rattle.cp_parity.specs.declared.found.Found.{Found}
use Rattle.cp_parity.specs.Equations.{differ, Touches, IsWalk, is_odd_at}

-- whether an odd number of the equations at the places is odd
abbrev pub parity : List Equation → List ℕ → Bool
parity eqs [] = false
parity eqs (place ∷ places) = differ (is_odd_at eqs place) (parity eqs places)

-- a walk leads from the one var to the other, and its parity tells whether their bits differ
pub record Leads (eqs : List Equation) (f : Found) (walk : List ℕ) (g : Found) : Type 0 where
  pub walked : IsWalk eqs f.var walk g.var
  pub tied : parity eqs walk ≡ differ f.bit g.bit

-- what was found behind the root hangs below an earlier one, which is not before the root
abbrev pub AreRooted : ℕ → List Found → Type 0
AreRooted root found =
    (k : ℕ) (f : Found) → root < k → slice_get found k ≡ Some f → (root ≤ f.up) × (f.up < k)

-- an equation ties f, at place k, to an earlier one, which is not before the root
pub record Hangs (eqs : List Equation) (root : ℕ) (found : List Found) (k : ℕ) (f : Found) : Type 0 where
  pub above : Found
  pub equation : Equation
  pub not_before : root ≤ f.up
  pub earlier : f.up < k
  pub up_at : slice_get found f.up ≡ Some above
  pub link_at : slice_get eqs f.link ≡ Some equation
  pub joined : Joins (equation.x, equation.y) f.var above.var
  pub tied : differ f.bit above.bit ≡ equation.odd

-- all that was found behind the root hangs below it
abbrev pub IsTree : List Equation → ℕ → List Found → Type 0
IsTree eqs root found = (k : ℕ) (f : Found) → root < k → slice_get found k ≡ Some f → Hangs eqs root found k f

-- places tells of each var where it stands among those found, if it does
pub record ArePlaced (found : List Found) (places : List (Option ℕ)) : Type 0 where
  pub named : (x k : ℕ) → slice_get places x ≡ Some (Some k) → (f : Found) × (slice_get found k ≡ Some f) × (f.var ≡ x)
  pub placed : (k : ℕ) (f : Found) → slice_get found k ≡ Some f → slice_get places f.var ≡ Some (Some k)

-- a search from the root is under way
pub record IsSearch (eqs : List Equation) (root : ℕ) (found : List Found) (places : List (Option ℕ)) : Type 0 where
  pub are_placed : ArePlaced found places
  pub is_tree : IsTree eqs root found

-- what was found stays where it is
abbrev pub StayFound : List Found → List Found → Type 0
StayFound found more = (k : ℕ) (f : Found) → slice_get found k ≡ Some f → slice_get more k ≡ Some f

-- the search went on
pub record GoesOn (eqs : List Equation) (root : ℕ) (found : List Found) (places : List (Option ℕ))
    (more : List Found) (named : List (Option ℕ)) : Type 0 where
  pub is_search : IsSearch eqs root more named
  pub same_size : length named ≡ length places
  pub stay : StayFound found more

-- both vars of the equation were found, both before the root or both not, and their bits meet it
pub record IsSettled (root : ℕ) (found : List Found) (e : Equation) : Type 0 where
  pub one : ℕ
  pub other : ℕ
  pub first : Found
  pub second : Found
  pub one_at : slice_get found one ≡ Some first
  pub other_at : slice_get found other ≡ Some second
  pub one_var : first.var ≡ e.x
  pub other_var : second.var ≡ e.y
  pub met : differ first.bit second.bit ≡ e.odd
  pub together : (one < root) ↔ (other < root)

-- the equations of the first done vars that were found are settled
abbrev pub AreDone : List Equation → ℕ → List Found → ℕ → Type 0
AreDone eqs root found done =
    (k : ℕ) (f : Found) (i : ℕ) (e : Equation)
    → k < done → slice_get found k ≡ Some f → slice_get eqs i ≡ Some e → Touches e f.var → IsSettled root found e

-- the equations of all vars that were found are settled
abbrev pub AreAllDone : List Equation → List Found → Type 0
AreAllDone eqs found = AreDone eqs (length found) found (length found)

-- var x was found
abbrev pub IsFound : List Found → ℕ → Type 0
IsFound found x = (k : ℕ) × (f : Found) × (slice_get found k ≡ Some f) × (f.var ≡ x)

-- the first done vars that were found have their bits
abbrev pub HasBits : List Found → ℕ → List Bool → Type 0
HasBits found done bits =
    (k : ℕ) (f : Found) → k < done → slice_get found k ≡ Some f → slice_index_or bits f.var false ≡ f.bit
