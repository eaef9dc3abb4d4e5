-- Clustered graphs on which the definitions are tried.
use Rattle.std.specs.Prelude.{◌≡◌, pos, true, false, [], ◌∷◌, refl}
use Rattle.cp_cgraph.specs.Clustered.{Clustered}
use Rattle.cp_cgraph.specs.Crossings.{contains, leaves, crossings}

-- a loop and two parallel edges from a node two clusters deep to one outside
abbrev pub nested : Clustered
nested = record {
  ids = pos 1 ∷ pos 2 ∷ [];
  ends = (0, 0) ∷ (0, 1) ∷ (0, 1) ∷ [];
  parents = 0 ∷ 1 ∷ [];
  homes =
      2 ∷ 0 ∷ [];
}

-- an edge from inside two nested clusters leaves the inner one first
nested_crossings : crossings nested 1 ≡ 2 ∷ 1 ∷ []
nested_crossings = refl

-- a loop leaves no cluster
nested_loop : crossings nested 0 ≡ []
nested_loop = refl

-- the outer cluster contains the inner one's node
nested_contains : contains nested 1 0 ≡ true
nested_contains = refl

-- the inner cluster does not contain the node outside
nested_outside : contains nested 2 1 ≡ false
nested_outside = refl

-- an edge from one pair of nested clusters into another
abbrev pub across : Clustered
across = record { ids = pos 1 ∷ pos 2 ∷ []; ends = (0, 1) ∷ []; parents = 0 ∷ 1 ∷ 0 ∷ 3 ∷ []; homes = 2 ∷ 4 ∷ [] }

-- an edge from two nested clusters into two others leaves outward and enters inward
across_crossings : crossings across 0 ≡ 2 ∷ 1 ∷ 3 ∷ 4 ∷ []
across_crossings = refl

-- it leaves a cluster round its target alone
across_leaves : leaves across 3 0 ≡ true
across_leaves = refl

-- it does not leave the root
across_root : leaves across 0 0 ≡ false
across_root = refl
