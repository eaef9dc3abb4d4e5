-- Each node has a reading where each var may have the bit false, and readings depend on the vars of the node alone.
use Rattle.std.proofs.Common.{◌≡◌, ℕ, ◌<◌, ◌≤◌, Bool, true, false, List, [], ◌∷◌, map, reverse, refl, sym, ◌∙◌, subst, arith}
use Rattle.std.specs.Prelude.{nat_lt}
use Rattle.std.specs.List.{list_all}
use Rattle.std.proofs.lemmas.Bool.{and_parts, and_from, ltb-true, lt-ltb}
use Rattle.std.proofs.lemmas.List.Sorted.{IsPermutation-refl, IsPermutation-reverse}
use Rattle.cp_pq.specs.declared.node.Node.{Node}
use Rattle.cp_pq.specs.declared.node.Node.TheOpen.{Node-F}
use Rattle.cp_pq.specs.declared.node.Node.TheViews.{roll-Node}
use Rattle.cp_pq.specs.declared.node.Node.TheFolds.{map-Node, ind-Node}
use Rattle.cp_pq.specs.declared.node.Node.TheVariants.{Leaf, P, Q, rolls-Leaf, rolls-P, rolls-Q}
use Rattle.cp_pq.specs.Nodes.{leaves, all_leaves, has_vars_below}
use Rattle.cp_pq.specs.Readings.{Reads, ReadsAll, leaf, any_order, forward, backward, none, more}
use Rattle.cp_pq.proofs.NodeLayers.{leaves_Leaf, leaves_P, leaves_Q, all_leaves_nil, all_leaves_cons}
use Rattle.cp_pq.proofs.NodeTests.{below_Leaf, below_P, below_Q}
use Rattle.cp_pq.proofs.Permutations.{list_all-IsPermutation}

-- the leaves of the node, as it stands, are a reading of it
abbrev Stands : (ℕ → Bool → Bool) → Node → Type 0
Stands may n = Reads may n (leaves n)

-- a row of nodes that are read as they stand is read as it stands
row_stands : (may : ℕ → Bool → Bool) (es : List ((n : Node) × Stands may n))
    → ReadsAll may (map (λ e. e.0) es) (all_leaves (map (λ e. e.0) es))
row_stands may [] = subst (ReadsAll may []) (sym all_leaves_nil) none
row_stands may (e ∷ es) =
    subst (ReadsAll may (e.0 ∷ map (λ e. e.0) es)) (sym (all_leaves_cons e.0 (map (λ e. e.0) es)))
    (more e.0 (map (λ e. e.0) es) (leaves e.0) (all_leaves (map (λ e. e.0) es)) e.1 (row_stands may es))

-- a node as it stands is a reading, where each var may have the bit false
pub as_it_stands : (may : ℕ → Bool → Bool) → ((v : ℕ) → may v false ≡ true) → (n : Node) → Reads may n (leaves n)
as_it_stands may free = ind-Node (Stands may) step
  where
    step : (x : Node-F Node) (y : Node-F ((n : Node) × Stands may n))
        → map-Node ((n : Node) × Stands may n) Node (λ e. e.0) y ≡ x → Stands may (roll-Node x)
    step x (Node-F.Leaf v) e = subst (λ z. Stands may (roll-Node z)) e (subst (Stands may) (sym (rolls-Leaf v)) (subst (Reads may (Leaf v)) (sym (leaves_Leaf v)) (leaf v)))
    step x (Node-F.P o es) e =
        let ks = map (λ d. d.0) es in
        subst (λ z. Stands may (roll-Node z)) e (subst (Stands may) (sym (rolls-P o ks)) (subst (Reads may (P o ks)) (sym (leaves_P o ks)) (any_order o ks ks (all_leaves ks) (IsPermutation-refl ks) (row_stands may es))))
    step x (Node-F.Q v es) e =
        let ks = map (λ d. d.0) es in
        subst (λ z. Stands may (roll-Node z)) e (subst (Stands may) (sym (rolls-Q v ks)) (subst (Reads may (Q v ks)) (sym (leaves_Q v ks)) (forward v ks (all_leaves ks) (free v) (row_stands may es))))

-- what the first licence allows for vars below m the second allows
abbrev pub WiderBelow : ℕ → (ℕ → Bool → Bool) → (ℕ → Bool → Bool) → Type 0
WiderBelow m may wide = (v : ℕ) (b : Bool) → v < m → may v b ≡ true → wide v b ≡ true

-- a reading depends on the vars of the node alone
mutual
  pub read_below : (m : ℕ) (may wide : ℕ → Bool → Bool) → WiderBelow m may wide → (n : Node) (xs : List ℕ)
      → Reads may n xs → has_vars_below m n ≡ true → Reads wide n xs
  read_below m may wide w _ _ (leaf x) h = leaf x
  read_below m may wide w _ _ (any_order o ks turn xs p all) h = any_order o ks turn xs p (read_all_below m may wide w turn xs all (sym (list_all-IsPermutation (has_vars_below m) ks turn p) ∙ sym (below_P m o ks) ∙ h))
  read_below m may wide w _ _ (forward v ks xs e all) h =
      let g = and_parts (nat_lt v m) (list_all (has_vars_below m) ks) (sym (below_Q m v ks) ∙ h) in forward v ks xs (w v false (ltb-true v m g.0) e) (read_all_below m may wide w ks xs all g.1)
  read_below m may wide w _ _ (backward v ks xs e all) h =
      let g = and_parts (nat_lt v m) (list_all (has_vars_below m) ks) (sym (below_Q m v ks) ∙ h) in
      backward v ks xs (w v true (ltb-true v m g.0) e) (read_all_below m may wide w (reverse ks) xs all (sym (list_all-IsPermutation (has_vars_below m) ks (reverse ks) (IsPermutation-reverse ks)) ∙ g.1))

  -- and so for a row
  pub read_all_below : (m : ℕ) (may wide : ℕ → Bool → Bool) → WiderBelow m may wide → (ks : List Node) (xs : List ℕ)
      → ReadsAll may ks xs → list_all (has_vars_below m) ks ≡ true → ReadsAll wide ks xs
  read_all_below m may wide w _ _ none h = none
  read_all_below m may wide w _ _ (more k ks xs ys a b) h = let g = and_parts (has_vars_below m k) (list_all (has_vars_below m) ks) h in more k ks xs ys (read_below m may wide w k xs a g.0) (read_all_below m may wide w ks ys b g.1)

-- where all vars of the node are below m, they are below n
abbrev Rises : ℕ → ℕ → Node → Type 0
Rises m n k = has_vars_below m k ≡ true → has_vars_below n k ≡ true

-- where vars below a number are below another in each node of a row, they are in the row
row_rises : (m n : ℕ) (es : List ((k : Node) × Rises m n k)) → list_all (has_vars_below m) (map (λ e. e.0) es) ≡ true
    → list_all (has_vars_below n) (map (λ e. e.0) es) ≡ true
row_rises m n [] h = refl
row_rises m n (e ∷ es) h = let g = and_parts (has_vars_below m e.0) (list_all (has_vars_below m) (map (λ d. d.0) es)) h in and_from (has_vars_below n e.0) (list_all (has_vars_below n) (map (λ d. d.0) es)) (e.1 g.0) (row_rises m n es g.1)

-- vars of a node below a number are below each greater one
pub below_more : (m n : ℕ) → m ≤ n → (k : Node) → has_vars_below m k ≡ true → has_vars_below n k ≡ true
below_more m n le = ind-Node (Rises m n) step
  where
    step : (x : Node-F Node) (y : Node-F ((k : Node) × Rises m n k))
        → map-Node ((k : Node) × Rises m n k) Node (λ e. e.0) y ≡ x → Rises m n (roll-Node x)
    step x (Node-F.Leaf v) e = subst (λ z. Rises m n (roll-Node z)) e (subst (Rises m n) (sym (rolls-Leaf v)) (λ h. below_Leaf n v))
    step x (Node-F.P o es) e =
        let ks = map (λ d. d.0) es in
        subst (λ z. Rises m n (roll-Node z)) e (subst (Rises m n) (sym (rolls-P o ks)) (λ h. below_P n o ks ∙ row_rises m n es (sym (below_P m o ks) ∙ h)))
    step x (Node-F.Q v es) e =
        let ks = map (λ d. d.0) es in
        subst (λ z. Rises m n (roll-Node z)) e (subst (Rises m n) (sym (rolls-Q v ks))
        (λ h. let g = and_parts (nat_lt v m) (list_all (has_vars_below m) ks) (sym (below_Q m v ks) ∙ h) in
        let lt = ltb-true v m g.0 in
        below_Q n v ks ∙ and_from (nat_lt v n) (list_all (has_vars_below n) ks) (lt-ltb v n (omega (arith, lt, le))) (row_rises m n es g.1)))
