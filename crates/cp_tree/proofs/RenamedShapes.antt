-- Shapes with other names of leaves: their leaves, their kinds of nodes and what they admit.
use Rattle.std.proofs.Common.{◌≡◌, ℕ, List, [], ◌∷◌, ◌++◌, map, reverse, refl, sym, ap, ap₂, ◌∙◌, subst}
use Rattle.std.specs.Prelude.{◌&&◌, leb}
use Rattle.std.specs.List.{AllByRecursion, flat_map, list_all}
use Rattle.std.proofs.lemmas.List.{length-map, map-append, reverse-append}
use Rattle.std.proofs.lemmas.List.Sorted.{IsPermutation-map}
use Rattle.cp_lists.proofs.TurnedLists.{turn-map}
use Rattle.cp_base.specs.declared.shape.Branch.{Branch}
use Rattle.cp_base.specs.declared.shape.Branch.TheOpen.{Branch-F}
use Rattle.cp_base.specs.declared.shape.Branch.TheFolds.{fold-roll-Branch}
use Rattle.cp_base.specs.declared.shape.Branch.TheVariants.{Leaf, P, Q, rolls-Leaf, rolls-P, rolls-Q}
use Rattle.cp_base.specs.declared.shape.Shape.{Shape}
use Rattle.cp_base.specs.Shapes.{Admits, IsStar, Reads, ReadsAll, branches, leaves}
use Rattle.cp_board.proofs.ShapeEquations.{branches_Leaf, branches_Q, leaves_Leaf, leaves_P, leaves_Q}
use Rattle.cp_tree.specs.Naming.{renamed, renamed_shape, renamed_step}
use Rattle.cp_tree.proofs.BranchLayers.{Q_no_P, branch_induction, branches_P, leaf_no_P, leaf_no_Q, same_P}

-- the images of a list in reverse are its images in reverse
map_reverse : {A B : Type 0} (f : A → B) (xs : List A) → map f (reverse xs) ≡ reverse (map f xs)
map_reverse f [] = refl
map_reverse f (x ∷ xs) =
    ap (map f) (reverse-append (x ∷ []) xs) ∙ map-append f (reverse xs) (x ∷ [])
    ∙ ap (λ zs. zs ++ f x ∷ []) (map_reverse f xs) ∙ sym (reverse-append (f x ∷ []) (map f xs))

-- other names of the leaves
module _ (f : ℕ → ℕ) where
  -- a leaf gets its other name
  pub renamed_Leaf : (x : ℕ) → renamed f (Leaf x) ≡ Leaf (f x)
  unfolding renamed
  renamed_Leaf x = ap (renamed f) (sym (rolls-Leaf x)) ∙ fold-roll-Branch Branch (renamed_step f) (Branch-F.Leaf x)

  -- a P-node keeps its kids, renamed
  pub renamed_P : (ks : List Branch) → renamed f (P ks) ≡ P (map (renamed f) ks)
  unfolding renamed
  renamed_P ks = ap (renamed f) (sym (rolls-P ks)) ∙ fold-roll-Branch Branch (renamed_step f) (Branch-F.P ks)

  -- and so does a Q-node
  pub renamed_Q : (ks : List Branch) → renamed f (Q ks) ≡ Q (map (renamed f) ks)
  unfolding renamed
  renamed_Q ks = ap (renamed f) (sym (rolls-Q ks)) ∙ fold-roll-Branch Branch (renamed_step f) (Branch-F.Q ks)

  -- the leaves of a row
  row_leaves : (ks : List Branch) → AllByRecursion (λ k. leaves (renamed f k) ≡ map f (leaves k)) ks
      → flat_map leaves (map (renamed f) ks) ≡ map f (flat_map leaves ks)
  row_leaves [] all = refl
  row_leaves (k ∷ ks) all =
      ap₂ (λ a b. a ++ b) all.0 (row_leaves ks all.1) ∙ sym (map-append f (leaves k) (flat_map leaves ks))

  -- the leaves are renamed
  pub leaves-renamed : (b : Branch) → leaves (renamed f b) ≡ map f (leaves b)
  leaves-renamed = branch_induction (λ b. leaves (renamed f b) ≡ map f (leaves b))
      (λ x. ap leaves (renamed_Leaf x) ∙ leaves_Leaf (f x) ∙ sym (ap (map f) (leaves_Leaf x)))
      (λ ks all. ap leaves (renamed_P ks) ∙ leaves_P (map (renamed f) ks) ∙ row_leaves ks all
      ∙ sym (ap (map f) (leaves_P ks)))
      (λ ks all. ap leaves (renamed_Q ks) ∙ leaves_Q (map (renamed f) ks) ∙ row_leaves ks all
      ∙ sym (ap (map f) (leaves_Q ks)))

  -- the kids of a row branch as before
  row_branches : (ks : List Branch) → AllByRecursion (λ k. branches (renamed f k) ≡ branches k) ks
      → list_all branches (map (renamed f) ks) ≡ list_all branches ks
  row_branches [] all = refl
  row_branches (k ∷ ks) all = ap₂ (λ a b. a && b) all.0 (row_branches ks all.1)

  -- inner nodes have as many kids
  pub branches-renamed : (b : Branch) → branches (renamed f b) ≡ branches b
  branches-renamed = branch_induction (λ b. branches (renamed f b) ≡ branches b)
      (λ x. ap branches (renamed_Leaf x) ∙ branches_Leaf (f x) ∙ sym (branches_Leaf x))
      (λ ks all. ap branches (renamed_P ks) ∙ branches_P (map (renamed f) ks)
      ∙ ap₂ (λ n z. leb 2 n && z) (length-map ks (renamed f)) (row_branches ks all) ∙ sym (branches_P ks))
      (λ ks all. ap branches (renamed_Q ks) ∙ branches_Q (map (renamed f) ks)
      ∙ ap₂ (λ n z. leb 2 n && z) (length-map ks (renamed f)) (row_branches ks all) ∙ sym (branches_Q ks))

  -- what becomes a leaf was one
  leaf_before : (b : Branch) (y : ℕ) → renamed f b ≡ Leaf y → (x : ℕ) × (b ≡ Leaf x)
  leaf_before = branch_induction (λ b. (y : ℕ) → renamed f b ≡ Leaf y → (x : ℕ) × (b ≡ Leaf x))
      (λ x y e. (x, refl))
      (λ ks all y e. absurd (leaf_no_P y (map (renamed f) ks) (sym e ∙ renamed_P ks)))
      (λ ks all y e. absurd (leaf_no_Q y (map (renamed f) ks) (sym e ∙ renamed_Q ks)))

  -- so what becomes a row of leaves was one
  leaves_before : (ks : List Branch) (ys : List ℕ) → map (renamed f) ks ≡ map Leaf ys
      → (xs : List ℕ) × (ks ≡ map Leaf xs)
  leaves_before [] ys e = ([], refl)
  leaves_before (k ∷ ks) [] e = absurd cc
  leaves_before (k ∷ ks) (y ∷ ys) e =
      let one : renamed f k ≡ Leaf y = cc in
      let rest : map (renamed f) ks ≡ map Leaf ys = cc in
      let a = leaf_before k y one in
      let b = leaves_before ks ys rest in
      (a.0 ∷ b.0, ap₂ (λ z zs. z ∷ zs) a.1 b.1)

  -- what becomes a star was one
  pub star_before : (b : Branch) → IsStar (renamed f b) → IsStar b
  star_before = branch_induction (λ b. IsStar (renamed f b) → IsStar b)
      (λ x s. absurd (leaf_no_P (f x) (map Leaf s.0) (sym (renamed_Leaf x) ∙ s.1)))
      (λ ks all s.
      let w = leaves_before ks s.0 (same_P (map (renamed f) ks) (map Leaf s.0) (sym (renamed_P ks) ∙ s.1)) in
      (w.0, ap P w.1))
      (λ ks all s. absurd (Q_no_P (map (renamed f) ks) (map Leaf s.0) (sym (renamed_Q ks) ∙ s.1)))

  mutual
    -- a reading of a branch, renamed, is one of the branch renamed
    pub Reads-renamed : (b : Branch) (xs : List ℕ) → Reads b xs → Reads (renamed f b) (map f xs)
    Reads-renamed _ _ (Reads.leaf x) = subst (λ b. Reads b (f x ∷ [])) (sym (renamed_Leaf x)) (Reads.leaf (f x))
    Reads-renamed _ _ (Reads.any_order ks order xs p all) =
        subst (λ b. Reads b (map f xs)) (sym (renamed_P ks))
        (Reads.any_order (map (renamed f) ks) (map (renamed f) order) (map f xs) (IsPermutation-map
        (renamed f) ks order p)
        (ReadsAll-renamed order xs all))
    Reads-renamed _ _ (Reads.forward ks xs all) =
        subst (λ b. Reads b (map f xs)) (sym (renamed_Q ks))
        (Reads.forward (map (renamed f) ks) (map f xs) (ReadsAll-renamed ks xs all))
    Reads-renamed _ _ (Reads.backward ks xs all) =
        subst (λ b. Reads b (map f xs)) (sym (renamed_Q ks))
        (Reads.backward (map (renamed f) ks) (map f xs)
        (subst (λ bs. ReadsAll bs (map f xs)) (map_reverse (renamed f) ks) (ReadsAll-renamed (reverse ks) xs all)))

    -- and so for a row
    ReadsAll-renamed : (ks : List Branch) (xs : List ℕ) → ReadsAll ks xs → ReadsAll (map (renamed f) ks) (map f xs)
    ReadsAll-renamed _ _ ReadsAll.none = ReadsAll.none
    ReadsAll-renamed _ _ (ReadsAll.more k ks xs ys a b) =
        subst (ReadsAll (map (renamed f) (k ∷ ks))) (sym (map-append f xs ys))
        (ReadsAll.more (renamed f k) (map (renamed f) ks) (map f xs) (map f ys) (Reads-renamed k xs a)
        (ReadsAll-renamed ks ys b))

  -- an order that a shape admits is admitted, renamed, by the shape renamed
  pub Admits-renamed : (s : Shape) (order : List ℕ) → Admits s order → Admits (renamed_shape f s) (map f order)
  Admits-renamed s order a = record {
    word = map f a.word;
    reads = Reads-renamed s.body a.word a.reads;
    turn = turn-map f (s.root ∷ a.word) order a.turn;
  }
