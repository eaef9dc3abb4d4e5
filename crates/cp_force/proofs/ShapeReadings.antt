-- What the shape of a tree admits is what the tree admits, each Q-node in either direction.
use Rattle.std.proofs.Common.{◌≡◌, ℕ, ◌↔◌, List, [], ◌∷◌, map, reverse, refl, sym, ap, ◌∙◌, subst}
use Rattle.std.specs.List.{AllZip}
use Rattle.std.proofs.lemmas.List.Sorted.{IsPermutation-map}
use Rattle.cp_lists.specs.Turns.{IsTurn}
use Rattle.cp_base.specs.declared.shape.Branch.{Branch}
use Rattle.cp_base.specs.declared.shape.Branch.TheOpen.{Branch-F}
use Rattle.cp_base.specs.declared.shape.Branch.TheViews.{out-Branch, out-roll-Branch}
use Rattle.cp_base.specs.declared.shape.Branch.TheVariants as branch
use Rattle.cp_base.specs.Shapes as shape
use Rattle.cp_pq.specs.declared.node.Node.{Node}
use Rattle.cp_pq.specs.declared.node.Node.TheVariants.{Leaf, P, Q}
use Rattle.cp_pq.specs.Readings.{Reads, ReadsAll, leaf, any_order, forward, backward, none, more, any_bit}
use Rattle.cp_pq.specs.Trees.{PQTree, Admits}
use Rattle.cp_force.specs.Shapes.{branch_of, shape_of_tree}
use Rattle.cp_force.proofs.Shapes.{branch_of-Leaf, branch_of-P, branch_of-Q}
use Rattle.cp_force.proofs.NodeLayers.{node_induction, map-reverse}
use Rattle.cp_force.proofs.PermutedRows.{zip_permuted, zip_reversed}

-- the layers of branches
out_Leaf : (x : ℕ) → out-Branch (branch.Leaf x) ≡ Branch-F.Leaf x
out_Leaf x = ap out-Branch (sym (branch.rolls-Leaf x)) ∙ out-roll-Branch (Branch-F.Leaf x)

-- the layer of a P-node
out_P : (ks : List Branch) → out-Branch (branch.P ks) ≡ Branch-F.P ks
out_P ks = ap out-Branch (sym (branch.rolls-P ks)) ∙ out-roll-Branch (Branch-F.P ks)

-- the layer of a Q-node
out_Q : (ks : List Branch) → out-Branch (branch.Q ks) ≡ Branch-F.Q ks
out_Q ks = ap out-Branch (sym (branch.rolls-Q ks)) ∙ out-roll-Branch (Branch-F.Q ks)

-- branches of one layer have one kind and the same parts
same_Leaf : (x y : ℕ) → branch.Leaf x ≡ branch.Leaf y → x ≡ y
same_Leaf x y e = let h : Branch-F.Leaf x ≡ Branch-F.Leaf y = sym (out_Leaf x) ∙ ap out-Branch e ∙ out_Leaf y in cc

-- equal P-nodes have the same kids
same_P : (ks js : List Branch) → branch.P ks ≡ branch.P js → ks ≡ js
same_P ks js e = let h : Branch-F.P ks ≡ Branch-F.P js = sym (out_P ks) ∙ ap out-Branch e ∙ out_P js in cc

-- equal Q-nodes have the same kids
same_Q : (ks js : List Branch) → branch.Q ks ≡ branch.Q js → ks ≡ js
same_Q ks js e = let h : Branch-F.Q ks ≡ Branch-F.Q js = sym (out_Q ks) ∙ ap out-Branch e ∙ out_Q js in cc

-- a leaf is no P-node
leaf_no_P : (x : ℕ) (ks : List Branch) → branch.Leaf x ≡ branch.P ks → ⊥
leaf_no_P x ks e = let h : Branch-F.Leaf x ≡ Branch-F.P ks = sym (out_Leaf x) ∙ ap out-Branch e ∙ out_P ks in cc

-- and no Q-node
leaf_no_Q : (x : ℕ) (ks : List Branch) → branch.Leaf x ≡ branch.Q ks → ⊥
leaf_no_Q x ks e = let h : Branch-F.Leaf x ≡ Branch-F.Q ks = sym (out_Leaf x) ∙ ap out-Branch e ∙ out_Q ks in cc

-- a P-node is no Q-node
P_no_Q : (ks js : List Branch) → branch.P ks ≡ branch.Q js → ⊥
P_no_Q ks js e = let h : Branch-F.P ks ≡ Branch-F.Q js = sym (out_P ks) ∙ ap out-Branch e ∙ out_Q js in cc

-- the node of a leaf
node_of_Leaf : (n : Node) (x : ℕ) → branch_of n ≡ branch.Leaf x → n ≡ Leaf x
node_of_Leaf = node_induction (λ n. (x : ℕ) → branch_of n ≡ branch.Leaf x → n ≡ Leaf x)
    (λ y x e. ap Leaf (same_Leaf y x (sym (branch_of-Leaf y) ∙ e)))
    (λ o ks all x e. absurd (leaf_no_P x (map branch_of ks) (sym e ∙ branch_of-P o ks)))
    (λ v ks all x e. absurd (leaf_no_Q x (map branch_of ks) (sym e ∙ branch_of-Q v ks)))

-- the node of a P-node
node_of_P : (n : Node) (bs : List Branch) → branch_of n ≡ branch.P bs
    → (owner : ℕ) × (ks : List Node) × (n ≡ P owner ks) × (map branch_of ks ≡ bs)
node_of_P = node_induction
    (λ n. (bs : List Branch) → branch_of n ≡ branch.P bs
    → (owner : ℕ) × (ks : List Node) × (n ≡ P owner ks) × (map branch_of ks ≡ bs))
    (λ x bs e. absurd (leaf_no_P x bs (sym (branch_of-Leaf x) ∙ e)))
    (λ o ks all bs e. (o, ks, refl, same_P (map branch_of ks) bs (sym (branch_of-P o ks) ∙ e)))
    (λ v ks all bs e. absurd (P_no_Q bs (map branch_of ks) (sym e ∙ branch_of-Q v ks)))

-- the node of a Q-node
node_of_Q : (n : Node) (bs : List Branch) → branch_of n ≡ branch.Q bs
    → (var : ℕ) × (ks : List Node) × (n ≡ Q var ks) × (map branch_of ks ≡ bs)
node_of_Q = node_induction
    (λ n. (bs : List Branch) → branch_of n ≡ branch.Q bs
    → (var : ℕ) × (ks : List Node) × (n ≡ Q var ks) × (map branch_of ks ≡ bs))
    (λ x bs e. absurd (leaf_no_Q x bs (sym (branch_of-Leaf x) ∙ e)))
    (λ o ks all bs e. absurd (P_no_Q (map branch_of ks) bs (sym (branch_of-P o ks) ∙ e)))
    (λ v ks all bs e. (v, ks, refl, same_Q (map branch_of ks) bs (sym (branch_of-Q v ks) ∙ e)))

-- the branch is that of the node
abbrev HasBranch : Node → Branch → Type 0
HasBranch n b = branch_of n ≡ b

-- nodes and their branches, place by place
zip_branches : (ks : List Node) (bs : List Branch) → map branch_of ks ≡ bs → AllZip HasBranch ks bs
zip_branches [] [] e = tt
zip_branches [] (b ∷ bs) e = absurd cc
zip_branches (k ∷ ks) [] e = absurd cc
zip_branches (k ∷ ks) (b ∷ bs) e =
    let one : branch_of k ≡ b = cc in let rest : map branch_of ks ≡ bs = cc in (one, zip_branches ks bs rest)

mutual
  -- a reading of a node is one of its branch
  pub node_reads : (n : Node) (xs : List ℕ) → Reads any_bit n xs → shape.Reads (branch_of n) xs
  node_reads _ _ (leaf x) = subst (λ b. shape.Reads b (x ∷ [])) (sym (branch_of-Leaf x)) (shape.leaf x)
  node_reads _ _ (any_order o ks turn xs p all) =
      subst (λ b. shape.Reads b xs) (sym (branch_of-P o ks))
      (shape.any_order (map branch_of ks) (map branch_of turn) xs (IsPermutation-map branch_of ks turn p)
      (row_reads turn xs all))
  node_reads _ _ (forward v ks xs m all) =
      subst (λ b. shape.Reads b xs) (sym (branch_of-Q v ks)) (shape.forward (map branch_of ks) xs (row_reads ks xs all))
  node_reads _ _ (backward v ks xs m all) =
      subst (λ b. shape.Reads b xs) (sym (branch_of-Q v ks))
      (shape.backward (map branch_of ks) xs
      (subst (λ bs. shape.ReadsAll bs xs) (map-reverse branch_of ks) (row_reads (reverse ks) xs all)))

  -- and of a row
  row_reads : (ks : List Node) (xs : List ℕ) → ReadsAll any_bit ks xs → shape.ReadsAll (map branch_of ks) xs
  row_reads _ _ none = shape.none
  row_reads _ _ (more k ks xs ys a b) =
      shape.more (branch_of k) (map branch_of ks) xs ys (node_reads k xs a) (row_reads ks ys b)

mutual
  -- a reading of its branch is one of the node
  branch_reads : (b : Branch) (xs : List ℕ) → shape.Reads b xs → (n : Node) → branch_of n ≡ b → Reads any_bit n xs
  branch_reads _ _ (shape.leaf x) n e =
      subst (λ k. Reads any_bit k (x ∷ [])) (sym (node_of_Leaf n x e)) (leaf x)
  branch_reads _ _ (shape.any_order bs turn xs p all) n e =
      let h = node_of_P n bs e in
      let t = zip_permuted HasBranch bs turn p h.1 (zip_branches h.1 bs h.3) in
      subst (λ k. Reads any_bit k xs) (sym h.2) (any_order h.0 h.1 t.0 xs t.1 (branches_read turn xs all t.0 t.2))
  branch_reads _ _ (shape.forward bs xs all) n e =
      let h = node_of_Q n bs e in
      subst (λ k. Reads any_bit k xs) (sym h.2)
      (forward h.0 h.1 xs refl (branches_read bs xs all h.1 (zip_branches h.1 bs h.3)))
  branch_reads _ _ (shape.backward bs xs all) n e =
      let h = node_of_Q n bs e in
      subst (λ k. Reads any_bit k xs) (sym h.2)
      (backward h.0 h.1 xs refl
      (branches_read (reverse bs) xs all (reverse h.1) (zip_reversed HasBranch h.1 bs (zip_branches h.1 bs h.3))))

  -- and of a row
  branches_read : (bs : List Branch) (xs : List ℕ) → shape.ReadsAll bs xs → (ks : List Node) → AllZip HasBranch ks bs
      → ReadsAll any_bit ks xs
  branches_read _ _ shape.none [] z = none
  branches_read _ _ shape.none (k ∷ ks) z = absurd z
  branches_read _ _ (shape.more b bs xs ys r all) [] z = absurd z
  branches_read _ _ (shape.more b bs xs ys r all) (k ∷ ks) z =
      more k ks xs ys (branch_reads b xs r k z.0) (branches_read bs ys all ks z.1)

-- the branch of a node reads what the node reads by either bit of each var
pub branch_of-Reads : (n : Node) (xs : List ℕ) → shape.Reads (branch_of n) xs ↔ Reads any_bit n xs
branch_of-Reads n xs = (λ r. branch_reads (branch_of n) xs r n refl, node_reads n xs)

-- the shape of a tree admits the turns of the orders that the tree admits
pub shape_of_tree-Admits : (tree : PQTree) (order : List ℕ)
    → shape.Admits (shape_of_tree tree) order ↔ ((line : List ℕ) × Admits tree line × IsTurn line order)
shape_of_tree-Admits tree order = (
  λ a. (tree.root ∷ a.word, (a.word, refl, (branch_of-Reads tree.body a.word).0 a.reads), a.turn),
  λ h. record {
    word = h.1.0;
    reads = (branch_of-Reads tree.body h.1.0).1 h.1.2;
    turn = subst (λ line. IsTurn line order) h.1.1 h.2;
  },
)
