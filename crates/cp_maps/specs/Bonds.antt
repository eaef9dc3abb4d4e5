-- Bonds by the darts of a map (Bläsius, Fink and Rutter 2021): two vertices that are the poles of parallel parts.
use Rattle.std.specs.Prelude.{◌≡◌, ℕ, List, ◌⊎◌}
use Rattle.cp_lists.specs.CyclicLists.{Has}
use Rattle.cp_lists.specs.Rows.{flat}
use Rattle.cp_faces.specs.Twins.{twin}
use Rattle.cp_maps.specs.Genus.{OnePart}
use Rattle.cp_maps.specs.Maps.{next_by}

-- the darts of the list lead into parts of the rest, each into one of its own, with the partner's twin in it
pub record Leads (e : ℕ) (h along : ℕ → ℕ) (us vs : List ℕ) (left : List (List ℕ)) (todo : List ℕ) : Type 0 where
  pub inside : (x : ℕ) → Has x todo → Has (twin x) (flat left)
  pub partner : (x : ℕ) → Has x todo → Has (twin (along x)) (flat left)
  pub start : (x : ℕ) → Has x todo → Has x us
  pub finish : (x : ℕ) → Has x todo → Has (along x) vs
  pub joined : (x : ℕ) → Has x todo → OnePart e h (twin x) (twin (along x))
  pub apart : (x y : ℕ) → Has x todo → Has y todo → OnePart e h (twin x) (twin y) → x ≡ y

-- each dart of the one vertex goes on as a dart of the other, and each dart of the other is met: along its own edge, or
-- through a component of the map without the two vertices, into which no other dart of the first vertex leads
pub record AreBonded (e : ℕ) (along : ℕ → ℕ) (us vs : List ℕ) (rows : List (List ℕ)) : Type 0 where
  pub within : (x : ℕ) → Has x us → Has (along x) vs
  pub onto : (y : ℕ) → Has y vs → (x : ℕ) × Has x us × (along x ≡ y)
  pub onward : (x : ℕ) → Has x us
      → (along x ≡ twin x) ⊎ (Has (twin x) (flat rows) × Has (twin (along x)) (flat rows)
      × OnePart e (next_by rows) (twin x) (twin (along x)))
  pub one_each : (x y : ℕ) → Has x us → Has y us → Has (twin x) (flat rows) → Has (twin y) (flat rows)
      → OnePart e (next_by rows) (twin x) (twin y) → x ≡ y
