-- Cut vertices (Hopcroft, Tarjan 1973).
use Rattle.std.specs.Prelude.{◌≡◌, ◌≢◌, ℕ, ◌<◌, Bool, not, ◌&&◌, eqb, List, filter, slice_index}
use Rattle.std.specs.List.{Contains}
use Rattle.cp_orbits.specs.Connected.{Joins, Connected}

-- the pair does not touch v
abbrev pub avoids : ℕ → ℕ × ℕ → Bool
avoids v e = not (eqb e.0 v) && not (eqb e.1 v)

-- the pairs that do not touch v: what is left of a graph where v is removed
abbrev pub without_vertex : ℕ → List (ℕ × ℕ) → List (ℕ × ℕ)
without_vertex v es = filter (avoids v) es

-- of n vertices, any two stay connected where another one is removed
abbrev pub AreBiconnected : ℕ → List (ℕ × ℕ) → Type 0
AreBiconnected n es = (v x y : ℕ) → x < n → y < n → x ≢ v → y ≢ v → Connected (without_vertex v es) x y

-- x is another vertex than v, and some pair joins the two
pub record IsNeighbour (es : List (ℕ × ℕ)) (v x : ℕ) : Type 0 where
  pub pair : ℕ × ℕ
  pub contained : Contains es pair
  pub joined : Joins pair v x
  pub other : x ≡ v → ⊥

-- some neighbour of v has another value in the list than label
pub record HasNeighbourApart (es : List (ℕ × ℕ)) (v : ℕ) (least : List ℕ) (label : ℕ) : Type 0 where
  pub which : ℕ
  pub near : IsNeighbour es v which
  pub differs : slice_index least which ≡ label → ⊥

-- removing v leaves two of its neighbours in different components
pub record IsCutVertex (es : List (ℕ × ℕ)) (v : ℕ) : Type 0 where
  pub one : ℕ
  pub two : ℕ
  pub near_one : IsNeighbour es v one
  pub near_two : IsNeighbour es v two
  pub apart : Connected (without_vertex v es) one two → ⊥
