-- Order trees that are planted row by row.
use Rattle.std.specs.Prelude.{◌≡◌, ℕ, suc, ◌+◌, Bool, true, false, eqb, List, [], ◌∷◌, ◌++◌, length, map, slice_index}
use Rattle.std.specs.List.{find}
use Rattle.std.specs.Option.{option_map_or}
use Rattle.cp_base.specs.declared.shape.Branch.{Branch}
use Rattle.cp_base.specs.declared.shape.Branch.TheVariants.{P, Q}
use Rattle.cp_base.specs.declared.shape.Branch.TheOpen.{Branch-F}
use Rattle.cp_base.specs.declared.shape.Branch.TheFolds.{fold-Branch}
use Rattle.cp_board.specs.Plantings.{Planted, Plants, PlantsAll}

-- all numbers together
abbrev pub total : List ℕ → ℕ
total [] = 0
total (n ∷ ns) = n + total ns

-- the number of inner nodes of a branch, from those of its kids
abbrev pub inner_nodes_step : Branch-F ℕ → ℕ
inner_nodes_step (Branch-F.Leaf x) = 0
inner_nodes_step (Branch-F.P kids) = suc (total kids)
inner_nodes_step (Branch-F.Q kids) = suc (total kids)

-- the number of inner nodes of a branch
unfoldable pub inner_nodes : Branch → ℕ
inner_nodes = fold-Branch ℕ inner_nodes_step

-- the second edge of the first pair that begins with x, and x itself where none does
abbrev pub partner_in : List (ℕ × ℕ) → ℕ → ℕ
partner_in pairs x = option_map_or (λ y. y.1) (find (λ y. eqb y.0 x) pairs) x

-- some names are those from place k on
abbrev pub AreNamesFrom : List ℕ → ℕ → List ℕ → Type 0
AreNamesFrom names k [] = Unit {0}
AreNamesFrom names k (x ∷ xs) = (x ≡ slice_index names k) × AreNamesFrom names (suc k) xs

-- the edge from above of a row
abbrev pub first_edge : Planted → ℕ
first_edge r = slice_index r.edges 0

-- the Q-node or the P-node with these kids
abbrev pub node_of : Bool → List Branch → Branch
node_of true kids = Q kids
node_of false kids = P kids

-- the rows of a branch below the edge `top` stand behind those before, with the next names
pub record IsGrown (f : ℕ → ℕ) (verts edges : List ℕ) (branch : Branch) (top : ℕ)
    (before after : List Planted) : Type 0 where
  pub new : List Planted
  pub grown : after ≡ before ++ new
  pub plants : Plants f branch top (map (λ r. r.vertex) new) (map first_edge new) new
  pub verts_next : AreNamesFrom verts (length before) (map (λ r. r.vertex) new)
  pub edges_next : AreNamesFrom edges (length before) (map first_edge new)

-- and the rows of some branches below their edges
pub record AreGrown (f : ℕ → ℕ) (verts edges : List ℕ) (kids : List Branch) (tops : List ℕ)
    (before after : List Planted) : Type 0 where
  pub new : List Planted
  pub grown : after ≡ before ++ new
  pub plants : PlantsAll f kids tops (map (λ r. r.vertex) new) (map first_edge new) new
  pub verts_next : AreNamesFrom verts (length before) (map (λ r. r.vertex) new)
  pub edges_next : AreNamesFrom edges (length before) (map first_edge new)
