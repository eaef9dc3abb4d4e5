-- Maps with their lists in another order, turned, or under other names for their darts.
use Rattle.std.proofs.Common.{ℕ, ◌*◌, ◌<◌, ◌≤◌, List, [], ◌∷◌, ◌++◌, map, sym, subst, IsPermutation}
use Rattle.cp_lists.specs.CyclicLists.{Distinct, Has}
use Rattle.cp_lists.specs.Rows.{flat}
use Rattle.cp_lists.specs.Turns.{IsTurn}
use Rattle.cp_lists.proofs.DistinctLists.{Lacks-from, has_lacks}
use Rattle.cp_lists.proofs.FlatLists.{flat-map}
use Rattle.cp_lists.proofs.MappedLists.{Distinct-map_on, Has-map_on, map_on-Has}
use Rattle.cp_lists.proofs.PermutedLists.{along_permutation}
use Rattle.cp_maps.specs.Genus.{CanBeFlat}
use Rattle.cp_maps.specs.Maps.{IsMapOf, next_by}
use Rattle.cp_maps.specs.Names.{Names}
use Rattle.cp_maps.proofs.Genus.{OneGenus-IsFlat, OneGenus-sym}
use Rattle.cp_maps.proofs.ListFacts.{Below-from, below_item}
use Rattle.cp_maps.proofs.MapLists.{IsMapOf-among, IsMapOf-by, IsMapOf-front, IsMapOf-swap, IsMapOf-turn}
use Rattle.cp_maps.proofs.Names.{named_lists-OneGenus}

-- lists can stand in another order behind any first ones
abbrev Reorders : ℕ → (ℕ → ℕ) → List (List ℕ) → List (List ℕ) → Type 0
Reorders n f rows others = (first : List (List ℕ)) → IsMapOf n f (first ++ rows) → IsMapOf n f (first ++ others)

-- a map has its lists in any order
pub IsMapOf-IsPermutation : (n : ℕ) (f : ℕ → ℕ) (rows others : List (List ℕ)) → IsPermutation rows others
    → IsMapOf n f rows → IsMapOf n f others
IsMapOf-IsPermutation n f rows others perm is =
    along_permutation (Reorders n f) (λ xs first h. h)
    (λ x xs ys r first h. IsMapOf-among n f x first ys (r (x ∷ first) (IsMapOf-front n f x first xs h)))
    (λ x y xs first h.
    IsMapOf-among n f y first (x ∷ xs)
    (IsMapOf-among n f x (y ∷ first) xs
    (IsMapOf-swap n f y x (first ++ xs)
    (IsMapOf-front n f y (x ∷ first) xs (IsMapOf-front n f x first (y ∷ xs) h)))))
    (λ xs ys zs r q first h. q first (r first h)) rows others perm [] is

-- each list is a turn of the one at its place
abbrev pub AreTurned : List (List ℕ) → List (List ℕ) → Type 0
AreTurned [] [] = Unit {0}
AreTurned [] (ys ∷ others) = ⊥
AreTurned (xs ∷ rows) [] = ⊥
AreTurned (xs ∷ rows) (ys ∷ others) = IsTurn xs ys × AreTurned rows others

-- a map has turns of its lists, behind any first ones
pub IsMapOf-AreTurned : (n : ℕ) (f : ℕ → ℕ) (first rows others : List (List ℕ)) → AreTurned rows others
    → IsMapOf n f (first ++ rows) → IsMapOf n f (first ++ others)
IsMapOf-AreTurned n f first [] [] turned is = is
IsMapOf-AreTurned n f first [] (ys ∷ others) turned is = absurd turned
IsMapOf-AreTurned n f first (xs ∷ rows) [] turned is = absurd turned
IsMapOf-AreTurned n f first (xs ∷ rows) (ys ∷ others) turned is =
    IsMapOf-among n f ys first others
    (IsMapOf-AreTurned n f (ys ∷ first) rows others turned.1
    (IsMapOf-turn n f xs ys (first ++ rows) turned.0 (IsMapOf-front n f xs first rows is)))

-- what can be flat can be so with the lists in another order
pub CanBeFlat-IsPermutation : (e : ℕ) (rows others : List (List ℕ)) → IsPermutation rows others
    → CanBeFlat e rows → CanBeFlat e others
CanBeFlat-IsPermutation e rows others perm can =
    (can.0, IsMapOf-IsPermutation (2 * e) can.0 rows others perm can.1, can.2)

-- and with turns of its lists
pub CanBeFlat-AreTurned : (e : ℕ) (rows others : List (List ℕ)) → AreTurned rows others
    → CanBeFlat e rows → CanBeFlat e others
CanBeFlat-AreTurned e rows others turned can =
    (can.0, IsMapOf-AreTurned (2 * e) can.0 [] rows others turned can.1, can.2)

-- where images are distinct the items are
pub Distinct-unmapped : (f : ℕ → ℕ) (xs : List ℕ) → Distinct (map f xs) → Distinct xs
Distinct-unmapped f [] once = tt
Distinct-unmapped f (x ∷ xs) once = (
  Lacks-from x xs (λ h. has_lacks (f x) (map f xs) (Has-map_on f x xs h) once.0),
  Distinct-unmapped f xs once.1,
)

-- other names for the darts of m edges, on a stock of e edges
module _ (m e : ℕ) (j : ℕ → ℕ) (rows : List (List ℕ)) (le : m ≤ e) (names : Names m e j) where
  -- lists that can be flat can be so under the other names
  pub named-CanBeFlat : CanBeFlat m rows → CanBeFlat e (map (map j) rows)
  named-CanBeFlat can =
      let below : (d : ℕ) → Has d (flat rows) → d < 2 * m = λ d h. below_item (2 * m) d (flat rows) can.1.below h in
      let is : IsMapOf (2 * e) (next_by (map (map j) rows)) (map (map j) rows) =
      IsMapOf-by (2 * e) (map (map j) rows)
      (subst Distinct (sym (flat-map j rows)) (Distinct-map_on j (flat rows)
      (λ x y hx hy same. names.apart x y (below x hx) (below y hy) same) can.1.once))
      (Below-from (2 * e) (flat (map (map j) rows)) (λ d h.
      let w = map_on-Has j d (flat rows) (subst (Has d) (flat-map j rows) h) in
      subst (λ y. y < 2 * e) w.2 (names.below w.0 (below w.0 w.1)))) in (
        next_by (map (map j) rows),
        is,
        OneGenus-IsFlat m can.0 e (next_by (map (map j) rows))
            (named_lists-OneGenus m e j can.0 (next_by (map (map j) rows)) rows le names can.1 is) can.2,
      )

  -- and back
  pub CanBeFlat-named : ((d : ℕ) → Has d (flat rows) → d < 2 * m) → CanBeFlat e (map (map j) rows) → CanBeFlat m rows
  CanBeFlat-named below can =
      let is : IsMapOf (2 * m) (next_by rows) rows =
      IsMapOf-by (2 * m) rows
      (Distinct-unmapped j (flat rows) (subst Distinct (flat-map j rows) can.1.once))
      (Below-from (2 * m) (flat rows) below) in (
        next_by rows,
        is,
        OneGenus-IsFlat e can.0 m (next_by rows)
            (OneGenus-sym m (next_by rows) e can.0
            (named_lists-OneGenus m e j (next_by rows) can.0 rows le names is can.1)) can.2,
      )
