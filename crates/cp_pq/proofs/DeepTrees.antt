-- Long lists of leaves and deep trees, for tests.
use Rattle.std.proofs.Common.{◌≡◌, ℕ, zero, suc, ◌+◌, ◌<◌, ◌≤◌, ◌⊎◌, true, List, [], ◌∷◌, ◌++◌, length, length-append}
use Rattle.std.proofs.Common.{inl, inr, ⊎_elim, refl, sym, ap, ap₂, ◌∙◌, subst, arith}
use Rattle.std.specs.List.{AllByRecursion}
use Rattle.std.proofs.lemmas.Bool.{and_from}
use Rattle.cp_lists.specs.CyclicLists.{Has, Distinct}
use Rattle.cp_lists.proofs.DistinctLists.{Lacks-from, Has-append_cases}
use Rattle.cp_base.specs.declared.equation.Equation.{Equation}
use Rattle.cp_pq.specs.declared.node.Node.{Node}
use Rattle.cp_pq.specs.declared.node.Node.TheVariants.{Leaf, P}
use Rattle.cp_pq.specs.Nodes.{leaves}
use Rattle.cp_pq.specs.Bits.{IsOverVars}
use Rattle.cp_pq.specs.Trees.{PQTree, make_tree, IsWellFormed}
use Rattle.cp_pq.specs.Promises.{IsLeafSet}
use Rattle.cp_pq.specs.SmallTrees.{AreNumbers, IsGrown}
use Rattle.cp_pq.proofs.NodeLayers.{leaves_Leaf, leaves_P, all_leaves_cons, all_leaves_one}
use Rattle.cp_pq.proofs.NodeTests.{branching_Leaf, branching_P_from, below_Leaf, below_P}
use Rattle.cp_pq.proofs.RisingLists.{none_rises, push_rises}
use Rattle.cp_pq.proofs.SmallStars.{rising_by, positive_distinct}

-- no numbers, and one more
pub no_numbers : (xs : List ℕ) → xs ≡ [] → AreNumbers 0 xs
no_numbers xs e = subst (AreNumbers 0) (sym e) (record { rising = none_rises; within = λ x m. absurd m; long = refl })

-- the numbers to n with n + 1 behind them are the numbers to n + 1
pub more_numbers : (n : ℕ) (xs ys : List ℕ) → ys ≡ xs ++ (n + 1) ∷ [] → AreNumbers n xs → AreNumbers (n + 1) ys
more_numbers n xs ys e a = subst (AreNumbers (n + 1)) (sym e) (record {
  rising = push_rises xs (n + 1) a.rising (λ y m. let g = (a.within y m).1 in omega (arith, g));
  within = λ x m. ⊎_elim
      (λ h. let g = a.within x h in let pos = g.0 in let le = g.1 in (pos, omega (arith, le)))
      (λ h. ⊎_elim (λ (q : n + 1 ≡ x). (omega (arith, q), omega (arith, q))) (λ b. absurd b) h)
      (Has-append_cases x xs ((n + 1) ∷ []) m);
  long = let l = length-append xs ((n + 1) ∷ []) in let h = a.long in omega (arith, l, h);
})

-- there are some, and with the root 0 they are distinct
pub numbers_some : (n : ℕ) (xs : List ℕ) → AreNumbers n xs → 0 < n → xs ≡ [] → ⊥
numbers_some n xs a pos e = let l = a.long in let z = ap length e in omega (arith, l, z, pos)

-- 0 and the numbers from 1 on are distinct
pub numbers_distinct : (n : ℕ) (xs ys : List ℕ) → AreNumbers n xs → ys ≡ xs → Distinct (0 ∷ ys)
numbers_distinct n xs ys a e =
    subst (λ z. Distinct (0 ∷ z)) (sym e) (positive_distinct xs a.rising (λ x m. (a.within x m).0))

-- the last of some numbers, or one below it
below_or_last : (x n : ℕ) → x ≤ n + 1 → (x ≤ n) ⊎ (n + 1 ≡ x)
below_or_last zero n le = inl (omega arith)
below_or_last (suc x) zero le = inr (omega (arith, le))
below_or_last (suc x) (suc n) le =
    ⊎_elim (λ (a : x ≤ n). inl (omega (arith, a))) (λ (e : n + 1 ≡ x). inr (omega (arith, e)))
    (below_or_last x n (omega (arith, le)))

-- one leaf
pub grown_leaf : IsGrown 1 (Leaf 1)
grown_leaf = record {
  branching = branching_Leaf 1;
  distinct = subst Distinct (sym (leaves_Leaf 1)) (tt, tt);
  vars_below = below_Leaf 0 1;
  leaves_in = λ x m. ⊎_elim (λ (e : 1 ≡ x). (omega (arith, e), omega (arith, e))) (λ b. absurd b)
      (subst (Has x) (leaves_Leaf 1) m);
  leaves_are = λ x pos le. subst (Has x) (sym (leaves_Leaf 1)) (inl (omega (arith, pos, le)));
}

-- a leaf beside a node
pair_leaves : (o x : ℕ) (k : Node) → leaves (P o (Leaf x ∷ k ∷ [])) ≡ x ∷ leaves k
pair_leaves o x k =
    leaves_P o (Leaf x ∷ k ∷ []) ∙ all_leaves_cons (Leaf x) (k ∷ []) ∙ ap₂ (λ a b. a ++ b) (leaves_Leaf x) (all_leaves_one k)

-- one leaf more
pub grown_more : (o n : ℕ) (k : Node) → IsGrown n k → IsGrown (n + 1) (P o (Leaf (n + 1) ∷ k ∷ []))
grown_more o n k g = record {
  branching = branching_P_from o (Leaf (n + 1) ∷ k ∷ []) (omega arith)
      (and_from _ _ (branching_Leaf (n + 1)) (and_from _ true g.branching refl));
  distinct = subst Distinct (sym are)
      (Lacks-from (n + 1) (leaves k) (λ m. let h = (g.leaves_in (n + 1) m).1 in omega (arith, h)), g.distinct);
  vars_below = below_P 0 o (Leaf (n + 1) ∷ k ∷ []) ∙ and_from _ _ (below_Leaf 0 (n + 1)) (and_from _ true g.vars_below refl);
  leaves_in = λ x m. ⊎_elim
      (λ (e : n + 1 ≡ x). (omega (arith, e), omega (arith, e)))
      (λ h. let a = g.leaves_in x h in let pos = a.0 in let le = a.1 in (pos, omega (arith, le)))
      (subst (Has x) are m);
  leaves_are = λ x pos le. subst (Has x) (sym are)
      (⊎_elim (λ a. inr (g.leaves_are x pos a)) (λ e. inl e) (below_or_last x n le));
}
  where
    are : leaves (P o (Leaf (n + 1) ∷ k ∷ [])) ≡ (n + 1) ∷ leaves k
    are = pair_leaves o (n + 1) k

-- the tree of a node without vars, with the root 0
pub grown_formed : (n : ℕ) (k : Node) (eqs : List Equation) → IsGrown n k → eqs ≡ []
    → IsWellFormed (make_tree 0 k 0 eqs)
grown_formed n k eqs g e = record {
  branching = g.branching;
  distinct = (Lacks-from 0 (leaves k) (λ m. let h = (g.leaves_in 0 m).0 in omega (arith, h)), g.distinct);
  vars_below = g.vars_below;
  equations_below = subst (AllByRecursion (IsOverVars 0)) (sym e) tt;
}

-- two of its leaves
pub grown_set : (n : ℕ) (k : Node) (eqs : List Equation) → IsGrown n k → 2 < n → (tree : PQTree)
    → tree ≡ make_tree 0 k 0 eqs → IsLeafSet (2 ∷ 3 ∷ []) tree
grown_set n k eqs g two tree e = subst (IsLeafSet (2 ∷ 3 ∷ [])) (sym e) (record {
  rising = rising_by (2 ∷ 3 ∷ []) refl;
  not_empty = λ c. cc;
  leaves_of = λ x m. ⊎_elim
      (λ (a : 2 ≡ x). subst (λ z. Has z (leaves k)) a (g.leaves_are 2 (omega arith) (omega (arith, two))))
      (λ h. ⊎_elim (λ (a : 3 ≡ x). subst (λ z. Has z (leaves k)) a (g.leaves_are 3 (omega arith) (omega (arith, two)))) (λ b. absurd b) h)
      m;
})
