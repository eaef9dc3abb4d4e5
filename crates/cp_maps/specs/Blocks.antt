-- Blocks by the darts of a map (Whitney 1932): classes of edges that are told at each vertex.
use Rattle.std.specs.Prelude.{◌≡◌, ℕ, ◌<◌, List, [], ◌∷◌, ◌++◌, ◌*◌, ◌↔◌}
use Rattle.cp_lists.specs.Crossings.{NoCross}
use Rattle.cp_lists.specs.CyclicLists.{Has, Lacks}
use Rattle.cp_lists.specs.Rows.{flat}
use Rattle.cp_faces.specs.Twins.{twin}
use Rattle.cp_maps.specs.Genus.{OnePart}
use Rattle.cp_maps.specs.Gluings.{IsAssembled}
use Rattle.cp_maps.specs.ListClasses.{EachClassOf}
use Rattle.cp_maps.specs.Maps.{next_by}

-- the class has one value on twins, the lists are without loops and each edge has both its darts in them, and two
-- darts at one vertex are of one class exactly where their twins are in one component of the map without the vertex
pub record AreBlocks (e : ℕ) (class : ℕ → ℕ) (rows : List (List ℕ)) : Type 0 where
  pub bound : (d : ℕ) → d < 2 * e → class d < 2 * e
  pub twins : (d : ℕ) → d < 2 * e → class (twin d) ≡ class d
  pub paired : (d : ℕ) → Has d (flat rows) → Has (twin d) (flat rows)
  pub no_loop : (before : List (List ℕ)) (xs : List ℕ) (behind : List (List ℕ)) → rows ≡ before ++ xs ∷ behind
      → (d : ℕ) → Has d xs → Lacks (twin d) xs
  pub at_vertex : (before : List (List ℕ)) (xs : List ℕ) (behind : List (List ℕ)) → rows ≡ before ++ xs ∷ behind
      → (c d : ℕ) → Has c xs → Has d xs → (class c ≡ class d) ↔ OnePart e (next_by (before ++ behind)) (twin c) (twin d)

-- no two classes cross in a list
abbrev pub NoneCross : (ℕ → ℕ) → List (List ℕ) → Type 0
NoneCross class [] = Unit {0}
NoneCross class (xs ∷ rows) = NoCross class xs × NoneCross class rows

-- each list is made of its copies, which are its classes
abbrev pub AllMade : (ℕ → ℕ) → List (List ℕ × List (List ℕ)) → Type 0
AllMade class [] = Unit {0}
AllMade class (x ∷ groups) = (IsAssembled x.0 x.1 × EachClassOf class x.0 x.1) × AllMade class groups
