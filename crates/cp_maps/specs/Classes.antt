-- Lists in classes, each connected inside, and the one list that each class becomes.
use Rattle.std.specs.Prelude.{◌≡◌, ℕ, List, [], ◌∷◌, ◌++◌, not, ◌↔◌}
use Rattle.std.specs.List.{filter}
use Rattle.cp_lists.specs.CyclicLists.{Has, Lacks}
use Rattle.cp_lists.specs.Rows.{flat}
use Rattle.cp_faces.specs.Twins.{twin}
use Rattle.cp_maps.specs.Gluings.{Grows}
use Rattle.cp_maps.specs.Maps.{has}

-- the darts of a class: its first list, and those that grow from it
abbrev pub class_darts : List ℕ × List (List ℕ) → List ℕ
class_darts c = c.0 ++ flat c.1

-- the lists of all classes
abbrev pub class_lists : List (List ℕ × List (List ℕ)) → List (List ℕ)
class_lists [] = []
class_lists (c ∷ classes) = c.0 ∷ (c.1 ++ class_lists classes)

-- in each class each list is joined to one before it
abbrev pub AllGrow : List (List ℕ × List (List ℕ)) → Type 0
AllGrow [] = Unit {0}
AllGrow (c ∷ classes) = Grows c.0 c.1 × AllGrow classes

-- the list has exactly the darts of edges that leave the class, and where this is one list, in its order
pub record IsClassList (c : List ℕ × List (List ℕ)) (ws : List ℕ) : Type 0 where
  pub leaving : (d : ℕ) → Has d ws ↔ (Has d (class_darts c) × Lacks (twin d) (class_darts c))
  pub single : c.1 ≡ [] → ws ≡ filter (λ d. not (has (twin d) c.0)) c.0

-- one list for each class
abbrev pub AreClassLists : List (List ℕ × List (List ℕ)) → List (List ℕ) → Type 0
AreClassLists [] [] = Unit {0}
AreClassLists [] (ws ∷ rows) = ⊥
AreClassLists (c ∷ classes) [] = ⊥
AreClassLists (c ∷ classes) (ws ∷ rows) = IsClassList c ws × AreClassLists classes rows
