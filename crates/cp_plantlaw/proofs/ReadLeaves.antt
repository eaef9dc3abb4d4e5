-- A reading of a branch has its leaves.
use Rattle.std.proofs.Common.{ℕ, List, [], ◌∷◌, sym, subst, IsPermutation}
use Rattle.std.specs.List.{flat_map}
use Rattle.std.proofs.lemmas.List.Sorted.{IsPermutation-append, IsPermutation-refl, IsPermutation-reverse, IsPermutation-trans}
use Rattle.std.specs.Prelude.{reverse}
use Rattle.cp_base.specs.declared.shape.Branch.{Branch}
use Rattle.cp_base.specs.Shapes.{Reads, ReadsAll, leaves}
use Rattle.cp_board.proofs.ShapeEquations.{leaves_Leaf, leaves_P, leaves_Q}
use Rattle.cp_plantlaw.proofs.PermutedRows.{IsPermutation-flat_map}

-- the leaves of kids in another order
through_order : (kids order : List Branch) (xs : List ℕ) → IsPermutation kids order
    → IsPermutation (flat_map leaves order) xs → IsPermutation (flat_map leaves kids) xs
through_order kids order xs p h =
    IsPermutation-trans (flat_map leaves kids) (flat_map leaves order) xs (IsPermutation-flat_map leaves kids order p) h

mutual
  -- what is read of a branch are its leaves, in some order
  pub reads-leaves : (b : Branch) (xs : List ℕ) → Reads b xs → IsPermutation (leaves b) xs
  reads-leaves _ _ (Reads.leaf x) = subst (λ zs. IsPermutation zs (x ∷ [])) (sym (leaves_Leaf x))
      (IsPermutation-refl (x ∷ []))
  reads-leaves _ _ (Reads.any_order kids order xs p all) =
      subst (λ zs. IsPermutation zs xs) (sym (leaves_P kids))
      (through_order kids order xs p (reads_all-leaves order xs all))
  reads-leaves _ _ (Reads.forward kids xs all) =
      subst (λ zs. IsPermutation zs xs) (sym (leaves_Q kids)) (reads_all-leaves kids xs all)
  reads-leaves _ _ (Reads.backward kids xs all) =
      subst (λ zs. IsPermutation zs xs) (sym (leaves_Q kids))
      (through_order kids (reverse kids) xs (IsPermutation-reverse kids) (reads_all-leaves (reverse kids) xs all))

  -- so of kids
  reads_all-leaves : (kids : List Branch) (xs : List ℕ) → ReadsAll kids xs → IsPermutation (flat_map leaves kids) xs
  reads_all-leaves _ _ ReadsAll.none = IsPermutation-refl []
  reads_all-leaves _ _ (ReadsAll.more k ks xs ys one rest) =
      IsPermutation-append (leaves k) xs (flat_map leaves ks) ys (reads-leaves k xs one) (reads_all-leaves ks ys rest)
