-- The lists of a map in another order, and each turned.
use Rattle.std.proofs.Common.{ℕ, List, [], ◌∷◌, ◌++◌, append_assoc, sym, subst, IsPermutation}
use Rattle.std.specs.List.{AllZip}
use Rattle.cp_lists.specs.Turns.{IsTurn}
use Rattle.cp_lists.proofs.PermutedLists.{along_permutation}
use Rattle.cp_maps.specs.Maps.{IsMapOf}
use Rattle.cp_maps.proofs.MapLists.{IsMapOf-among, IsMapOf-front, IsMapOf-turn}

module _ (n : ℕ) (f : ℕ → ℕ) where
  -- the lists behind any others can be put in the place of these
  abbrev CanReplace : List (List ℕ) → List (List ℕ) → Type 0
  CanReplace rows others = (front : List (List ℕ)) → IsMapOf n f (front ++ rows) → IsMapOf n f (front ++ others)

  -- behind one list more
  skip_list : (xs : List ℕ) (rows others : List (List ℕ)) → CanReplace rows others
      → CanReplace (xs ∷ rows) (xs ∷ others)
  skip_list xs rows others h front is =
      subst (IsMapOf n f) (append_assoc front (xs ∷ []) others)
      (h (front ++ xs ∷ []) (subst (IsMapOf n f) (sym (append_assoc front (xs ∷ []) rows)) is))

  -- two lists exchanged
  swap_lists : (xs ys : List ℕ) (rows : List (List ℕ)) → CanReplace (xs ∷ ys ∷ rows) (ys ∷ xs ∷ rows)
  swap_lists xs ys rows front is =
      IsMapOf-among n f ys front (xs ∷ rows)
      (subst (λ zs. IsMapOf n f (ys ∷ zs)) (append_assoc front (xs ∷ []) rows)
      (IsMapOf-front n f ys (front ++ xs ∷ []) rows
      (subst (IsMapOf n f) (sym (append_assoc front (xs ∷ []) (ys ∷ rows))) is)))

  -- a map has its lists in any order
  pub IsMapOf-permuted : (rows others : List (List ℕ)) → IsPermutation rows others → IsMapOf n f rows
      → IsMapOf n f others
  IsMapOf-permuted rows others p is = along_permutation CanReplace
      (λ xs front h. h) skip_list swap_lists
      (λ xs ys zs one two front h. two front (one front h))
      rows others p [] is

  -- behind some others
  turned_behind : (front rows others : List (List ℕ)) → AllZip IsTurn rows others → IsMapOf n f (front ++ rows)
      → IsMapOf n f (front ++ others)
  turned_behind front [] [] turns is = is
  turned_behind front [] (ys ∷ others) turns is = absurd turns
  turned_behind front (xs ∷ rows) [] turns is = absurd turns
  turned_behind front (xs ∷ rows) (ys ∷ others) turns is =
      subst (IsMapOf n f) (append_assoc front (ys ∷ []) others)
      (turned_behind (front ++ ys ∷ []) rows others turns.1
      (subst (IsMapOf n f) (sym (append_assoc front (ys ∷ []) rows))
      (IsMapOf-among n f ys front rows
      (IsMapOf-turn n f xs ys (front ++ rows) turns.0 (IsMapOf-front n f xs front rows is)))))

  -- a map has each of its lists turned
  pub IsMapOf-turned : (rows others : List (List ℕ)) → AllZip IsTurn rows others → IsMapOf n f rows
      → IsMapOf n f others
  IsMapOf-turned rows others turns is = turned_behind [] rows others turns is
