-- Small stars meet the conditions of the calls.
use Rattle.std.proofs.Common.{◌≡◌, ◌≢◌, ℕ, zero, suc, ◌+◌, ◌<◌, true, not, ◌&&◌, eqb, List, [], ◌∷◌, length}
use Rattle.std.proofs.Common.{slice_index, take, refl, sym, ap, ◌∙◌, subst, ⊎_elim, arith}
use Rattle.std.specs.Prelude.{nat_lt}
use Rattle.std.specs.List.{list_all}
use Rattle.std.specs.List.Sorted.{IsStrictlyIncreasing}
use Rattle.std.proofs.lemmas.Bool.{and_parts, ltb-true, eq-eqb, both_ways, false≢true}
use Rattle.std.proofs.lemmas.List.Sorted.{IsPermutation-sym, IsPermutation-trans}
use Rattle.cp_lists.specs.CyclicLists.{Has, Lacks, Distinct}
use Rattle.cp_lists.proofs.DistinctLists.{Lacks-from, has_lacks}
use Rattle.cp_pq.specs.declared.node.Node.TheVariants.{Leaf}
use Rattle.cp_pq.specs.Orders.{inside}
use Rattle.cp_pq.specs.Nodes.{leaves}
use Rattle.cp_pq.specs.Trees.{PQTree}
use Rattle.cp_pq.specs.Promises.{IsLeafSet, IsStar, IsReduced, IsFreshNode}
use Rattle.cp_pq.specs.SmallTrees.{are_apart, is_rising, is_some, is_star_with, HasLeaves}
use Rattle.cp_pq.proofs.NodeLayers.{leaves_Leaf}
use Rattle.cp_pq.proofs.NodeTests.{branching_Leaf, below_Leaf}
use Rattle.cp_pq.proofs.Permutations.{IsPermutation-same}
use Rattle.cp_pq.proofs.PermutedLists.{Has-IsPermutation}
use Rattle.cp_pq.proofs.RisingLists.{rising_distinct, take_has, take_rises, take_some}
use Rattle.cp_pq.proofs.LeafSets.{inside_of}
use Rattle.cp_pq.proofs.Stars.{star_leaves}

-- what a test of inequality says
lacks_by : (x : ℕ) (xs : List ℕ) → list_all (λ y. not (eqb y x)) xs ≡ true → Lacks x xs
lacks_by x [] h = tt
lacks_by x (y ∷ xs) h =
    let g = and_parts (not (eqb y x)) (list_all (λ z. not (eqb z x)) xs) h in
    (λ e. both_ways (not (eqb y x)) (ap (λ b. not b) (eq-eqb y x e)) g.0, lacks_by x xs g.1)

-- what the test of distinct items says
distinct_by : (xs : List ℕ) → are_apart xs ≡ true → Distinct xs
distinct_by [] h = tt
distinct_by (x ∷ xs) h = let g = and_parts (list_all (λ y. not (eqb y x)) xs) (are_apart xs) h in
    (lacks_by x xs g.0, distinct_by xs g.1)

-- what the test of a rising list says
pub rising_by : (xs : List ℕ) → is_rising xs ≡ true → IsStrictlyIncreasing xs
rising_by [] h k lt = absurd (omega (arith, lt))
rising_by (x ∷ []) h k lt = absurd (omega (arith, lt))
rising_by (x ∷ y ∷ xs) h zero lt = ltb-true x y (and_parts (nat_lt x y) (is_rising (y ∷ xs)) h).0
rising_by (x ∷ y ∷ xs) h (suc k) lt =
    let e : suc (k + 1) ≡ suc k + 1 = omega arith in
    subst (λ z. slice_index (x ∷ y ∷ xs) (suc k) < slice_index (x ∷ y ∷ xs) z) e
    (rising_by (y ∷ xs) (and_parts (nat_lt x y) (is_rising (y ∷ xs)) h).1 k (omega (arith, lt)))

-- what the test of items says
has_by : (xs ys : List ℕ) → list_all (inside xs) ys ≡ true → (x : ℕ) → Has x ys → Has x xs
has_by xs [] h x m = absurd m
has_by xs (y ∷ ys) h x m =
    let g = and_parts (inside xs y) (list_all (inside xs) ys) h in
    ⊎_elim (λ e. subst (λ z. Has z xs) e (inside_of xs y g.0)) (λ n. has_by xs ys g.1 x n) m

-- what the test of an item says
some_by : (xs : List ℕ) → is_some xs ≡ true → xs ≢ []
some_by xs h e = both_ways (is_some xs) (ap is_some e) h

module _ (root : ℕ) (xs set : List ℕ) (h : is_star_with root xs set ≡ true) where
  -- the tests one by one
  first : (are_apart (root ∷ xs) ≡ true) × ((is_some set && (is_rising set && list_all (inside xs) set)) ≡ true)
  first = and_parts (are_apart (root ∷ xs)) (is_some set && (is_rising set && list_all (inside xs) set)) h

  -- the second test and the third
  second : (is_some set ≡ true) × ((is_rising set && list_all (inside xs) set) ≡ true)
  second = and_parts (is_some set) (is_rising set && list_all (inside xs) set) first.1

  -- the last tests
  third : (is_rising set ≡ true) × (list_all (inside xs) set ≡ true)
  third = and_parts (is_rising set) (list_all (inside xs) set) second.1

  -- the root and the leaves are distinct
  pub star_distinct : Distinct (root ∷ xs)
  star_distinct = distinct_by (root ∷ xs) first.0

  -- there is a leaf
  pub star_some : xs ≢ []
  star_some e = none set (some_by set second.0) (subst (λ z. list_all (inside z) set ≡ true) e third.1)
    where
      none : (ys : List ℕ) → ys ≢ [] → list_all (inside []) ys ≡ true → ⊥
      none [] some g = some refl
      none (y ∷ ys) some g = false≢true g

-- a star has its leaves
pub star_has : (root owner vars : ℕ) (xs : List ℕ) (tree : PQTree) → IsStar root xs owner vars tree
    → HasLeaves root xs tree
star_has root owner vars xs tree s = record {
  root_is = ap (λ t. t.root) s.tree_is;
  leaves_are = IsPermutation-same _ _ (sym (ap (λ t. leaves t.body) s.tree_is ∙ star_leaves owner xs));
}

-- a reduction keeps them
pub reduced_has : (root : ℕ) (xs set : List ℕ) (old new : PQTree) → IsReduced set old new → HasLeaves root xs old
    → HasLeaves root xs new
reduced_has root xs set old new r h = record {
  root_is = r.root ∙ h.root_is;
  leaves_are = IsPermutation-trans _ _ _ h.leaves_are r.leaves_kept;
}

-- a set of a star is a set of each tree with its leaves
pub set_of : (root : ℕ) (xs set : List ℕ) → is_star_with root xs set ≡ true → (tree : PQTree) → HasLeaves root xs tree
    → IsLeafSet set tree
set_of root xs set h tree l = record {
  rising = rising_by set (third root xs set h).0;
  not_empty = some_by set (second root xs set h).0;
  leaves_of = λ x m. Has-IsPermutation x xs (leaves tree.body) l.leaves_are (has_by xs set (third root xs set h).1 x m);
}

-- a leaf that is not in the tree may be put in
pub leaf_fresh : (root leaf : ℕ) (xs set : List ℕ) → are_apart (leaf ∷ root ∷ xs) ≡ true → (tree : PQTree)
    → HasLeaves root xs tree → IsFreshNode set (Leaf leaf) tree
leaf_fresh root leaf xs set apart tree l = record {
  branching = branching_Leaf leaf;
  distinct = subst Distinct (sym (leaves_Leaf leaf)) (tt, tt);
  fresh = λ x m n. ⊎_elim (λ e. absurd (not_in x e n)) (λ b. absurd b) (subst (Has x) (leaves_Leaf leaf) m);
  vars_below = below_Leaf tree.vars leaf;
}
  where
    not_in : (x : ℕ) → leaf ≡ x → Has x (tree.root ∷ leaves tree.body) → ⊥
    not_in x e n =
        let d = distinct_by (leaf ∷ root ∷ xs) apart in
        ⊎_elim
        (λ r. d.0.0 (sym l.root_is ∙ r ∙ sym e))
        (λ m. has_lacks leaf xs
        (Has-IsPermutation leaf (leaves tree.body) xs (IsPermutation-sym _ _ l.leaves_are)
        (subst (λ z. Has z (leaves tree.body)) (sym e) m)) d.0.1)
        n

-- the first leaves of a rising list are a set
pub first_leaves : (root end : ℕ) (xs : List ℕ) → IsStrictlyIncreasing xs → 0 < end → end < length xs → (tree : PQTree)
    → HasLeaves root xs tree → IsLeafSet (take end xs) tree
first_leaves root end xs rising pos lt tree l = record {
  rising = take_rises end xs rising;
  not_empty = take_some end xs pos lt;
  leaves_of = λ x m. Has-IsPermutation x xs (leaves tree.body) l.leaves_are (take_has end xs x m);
}

-- rising leaves that are not 0 are those of a star with the root 0
pub positive_distinct : (xs : List ℕ) → IsStrictlyIncreasing xs → ((x : ℕ) → Has x xs → 0 < x) → Distinct (0 ∷ xs)
positive_distinct xs rising pos =
    (Lacks-from 0 xs (λ m. let g = pos 0 m in omega (arith, g)), rising_distinct xs rising)
