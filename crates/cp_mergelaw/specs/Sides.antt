-- The vertices of one side of a bipartite map made one vertex: what its list keeps of theirs.
use Rattle.std.specs.Prelude.{ℕ, List, [], ◌∷◌, Bool, cond, suc}
use Rattle.std.specs.List.{filter}
use Rattle.cp_lists.specs.Crossings.{Crosses}
use Rattle.cp_lists.specs.CyclicLists.{Has}
use Rattle.cp_lists.specs.Rows.{flat}
use Rattle.cp_lists.specs.Turns.{IsTurn}
use Rattle.cp_faces.specs.Twins.{twin}
use Rattle.cp_maps.specs.Genus.{CanBeFlat}
use Rattle.cp_maps.specs.Maps.{has}
use Rattle.cp_maps.specs.Mirrors.{mirror}

-- each edge has one dart in the lists of the side and one in the other lists
pub record AreSides (side others : List (List ℕ)) : Type 0 where
  pub across : (d : ℕ) → Has d (flat side) → Has (twin d) (flat others)
  pub back : (d : ℕ) → Has d (flat others) → Has (twin d) (flat side)

-- no list is empty
abbrev pub NoneBare : List (List ℕ) → Type 0
NoneBare [] = Unit {0}
NoneBare ([] ∷ rows) = ⊥
NoneBare ((x ∷ xs) ∷ rows) = NoneBare rows

-- the test for the darts of a list
abbrev pub is_of : List ℕ → ℕ → Bool
is_of xs d = has d xs

-- the test for darts whose twin is in a list: their edge leads to its vertex
abbrev pub leads_to : List ℕ → ℕ → Bool
leads_to xs d = has (twin d) xs

-- the whole list has the darts of the list xs in their cyclic order
abbrev pub RestrictsTo : List ℕ → List ℕ → Type 0
RestrictsTo whole xs = IsTurn xs (filter (is_of xs) whole)

-- the list xs is the reverse of what the whole list has of edges that lead to it
abbrev pub IsMirrorIn : List ℕ → List ℕ → Type 0
IsMirrorIn whole xs = IsTurn xs (mirror (filter (leads_to xs) whole))

-- a property of each list
abbrev pub EachList : (List ℕ → Type 0) → List (List ℕ) → Type 0
EachList good [] = Unit {0}
EachList good (xs ∷ rows) = good xs × EachList good rows

-- what the test for xs passes does not stand crosswise in the whole list with what the test for ys passes
abbrev pub Uncrossed : (List ℕ → ℕ → Bool) → List ℕ → List ℕ → List ℕ → Type 0
Uncrossed test whole xs ys = Crosses (test xs) (test ys) whole → ⊥

-- no two of the lists stand crosswise in the whole list
abbrev pub AllUncrossed : (List ℕ → ℕ → Bool) → List ℕ → List (List ℕ) → Type 0
AllUncrossed test whole [] = Unit {0}
AllUncrossed test whole (xs ∷ rows) = EachList (Uncrossed test whole xs) rows × AllUncrossed test whole rows

-- the place of the first list whose test the item passes, and the number of lists where it passes none
abbrev pub class_by : (List ℕ → ℕ → Bool) → List (List ℕ) → ℕ → ℕ
class_by test [] d = 0
class_by test (xs ∷ rows) d = cond (test xs d) 0 (suc (class_by test rows d))

-- the whole list is put together of the lists: it keeps the order of each, and no two of them cross in it
pub record IsMergeOf (whole : List ℕ) (rows : List (List ℕ)) : Type 0 where
  pub restricted : EachList (RestrictsTo whole) rows
  pub uncrossed : AllUncrossed is_of whole rows

-- the side made one vertex: the map is flat, the list of the vertex is put together of those of the side and is read in
-- reverse by each vertex of the other side, and no two of these cross in it
pub record IsMergedSide (e : ℕ) (side others : List (List ℕ)) (whole : List ℕ) : Type 0 where
  pub can_be_flat : CanBeFlat e (whole ∷ others)
  pub merge : IsMergeOf whole side
  pub mirrored : EachList (IsMirrorIn whole) others
  pub others_uncrossed : AllUncrossed leads_to whole others
