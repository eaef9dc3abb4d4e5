-- Orders and sets of small stars meet the conditions of the calls.
use Rattle.std.proofs.Common.{◌≡◌, ◌≢◌, ℕ, zero, suc, ◌+◌, ◌<◌, true, not, ◌&&◌, eqb, List, [], ◌∷◌, slice_index, refl, sym, ap, ◌∙◌, subst, inl, inr, ⊎_elim, arith}
use Rattle.std.specs.Prelude.{nat_lt}
use Rattle.std.specs.List.{list_all}
use Rattle.std.specs.List.Sorted.{IsStrictlyIncreasing}
use Rattle.std.proofs.lemmas.Bool.{and_parts, ltb-true, eq-eqb, both_ways, false≢true}
use Rattle.std.proofs.lemmas.List.Sorted.{IsPermutation-sym}
use Rattle.cp_lists.specs.CyclicLists.{Has, Lacks, Distinct}
use Rattle.cp_lists.proofs.DistinctLists.{has_cases, has_lacks}
use Rattle.cp_pq.specs.declared.node.Node.TheVariants.{Leaf}
use Rattle.cp_pq.specs.Nodes.{leaves}
use Rattle.cp_pq.specs.Orders.{inside, IsConsecutive}
use Rattle.cp_pq.specs.Trees.{PQTree, Admits}
use Rattle.cp_pq.specs.Promises.{IsLeafSet, IsStar, IsReduced, IsForced, IsFreshNode}
use Rattle.cp_pq.specs.SmallTrees.{are_apart, is_rising, is_some, is_star_with}
use Rattle.cp_pq.proofs.NodeLayers.{leaves_Leaf}
use Rattle.cp_pq.proofs.PermutedLists.{Has-IsPermutation}
use Rattle.cp_pq.proofs.Stars.{star_leaves}
use Rattle.cp_force.specs.SmallOrders.{is_star_order}
use Rattle.cp_pq.proofs.NodeTests.{below_Leaf, branching_Leaf}
use Rattle.cp_force.proofs.RowsInOrders.{lacks_inside}

-- a leaf apart from others is none of them
lacks_by : (x : ℕ) (xs : List ℕ) → list_all (λ y. not (eqb y x)) xs ≡ true → Lacks x xs
lacks_by x [] h = tt
lacks_by x (y ∷ xs) h =
    let g = and_parts (not (eqb y x)) (list_all (λ z. not (eqb z x)) xs) h in
    (λ e. both_ways (not (eqb y x)) (ap (λ b. not b) (eq-eqb y x e)) g.0, lacks_by x xs g.1)

-- leaves that are apart are distinct
distinct_by : (xs : List ℕ) → are_apart xs ≡ true → Distinct xs
distinct_by [] h = tt
distinct_by (x ∷ xs) h =
    let g = and_parts (list_all (λ y. not (eqb y x)) xs) (are_apart xs) h in (lacks_by x xs g.0, distinct_by xs g.1)

-- what is inside is an item
inside_has : (set : List ℕ) (x : ℕ) → inside set x ≡ true → Has x set
inside_has set x h = ⊎_elim (λ a. a) (λ l. absurd (both_ways (inside set x) (lacks_inside set x l) h)) (has_cases x set)

-- leaves that are all inside are leaves
has_by : (xs ys : List ℕ) → list_all (inside xs) ys ≡ true → (x : ℕ) → Has x ys → Has x xs
has_by xs [] h x m = absurd m
has_by xs (y ∷ ys) h x m =
    let g = and_parts (inside xs y) (list_all (inside xs) ys) h in
    ⊎_elim (λ e. subst (λ z. Has z xs) e (inside_has xs y g.0)) (λ n. has_by xs ys g.1 x n) m

-- a list of some items is not empty
some_by : (xs : List ℕ) → is_some xs ≡ true → xs ≢ []
some_by xs h e = both_ways (is_some xs) (ap is_some e) h

-- a list that passes as rising rises
rising_by : (xs : List ℕ) → is_rising xs ≡ true → IsStrictlyIncreasing xs
rising_by [] h k lt = absurd (omega (arith, lt))
rising_by (x ∷ []) h k lt = absurd (omega (arith, lt))
rising_by (x ∷ y ∷ xs) h zero lt = ltb-true x y (and_parts (nat_lt x y) (is_rising (y ∷ xs)) h).0
rising_by (x ∷ y ∷ xs) h (suc k) lt =
    let e : suc (k + 1) ≡ suc k + 1 = omega arith in
    let rest = rising_by (y ∷ xs) (and_parts (nat_lt x y) (is_rising (y ∷ xs)) h).1 k (omega (arith, lt)) in
    subst (λ z. slice_index (x ∷ y ∷ xs) (suc k) < slice_index (x ∷ y ∷ xs) z) e rest

-- a star has its leaves
star_has : (xs : List ℕ) (owner vars : ℕ) (tree : PQTree) → IsStar 0 xs owner vars tree → leaves tree.body ≡ xs
star_has xs owner vars tree s = ap (λ (t : PQTree). leaves t.body) s.tree_is ∙ star_leaves owner xs

-- a star with one var has var 0
pub star_var : (xs : List ℕ) (owner : ℕ) (tree : PQTree) → IsStar 0 xs owner 1 tree → 0 < tree.vars
star_var xs owner tree s =
    subst (λ n. 0 < n) (sym (ap (λ (t : PQTree). t.vars) s.tree_is)) (omega arith)

-- and has it still where it was forced
pub again_var : (xs : List ℕ) (owner var : ℕ) (row : List ℕ) (tree new : PQTree) → IsStar 0 xs owner 1 tree
    → IsForced row var tree new → 0 < new.vars
again_var xs owner var row tree new s f =
    let some = star_var xs owner tree s in let kept = f.vars_kept in omega (arith, some, kept)

module _ (xs order : List ℕ) (h : is_star_order xs order ≡ true) where
  -- the parts of the test
  first : (are_apart (0 ∷ xs) ≡ true) × ((are_apart order && (is_some order && list_all (inside xs) order)) ≡ true)
  first = and_parts (are_apart (0 ∷ xs)) (are_apart order && (is_some order && list_all (inside xs) order)) h

  -- the order has distinct leaves, and the rest of the test holds
  second : (are_apart order ≡ true) × ((is_some order && list_all (inside xs) order) ≡ true)
  second = and_parts (are_apart order) (is_some order && list_all (inside xs) order) first.1

  -- the order is not empty, and its leaves are those of the star
  third : (is_some order ≡ true) × (list_all (inside xs) order ≡ true)
  third = and_parts (is_some order) (list_all (inside xs) order) second.1

  -- the leaves of the star
  pub star_distinct : Distinct (0 ∷ xs)
  star_distinct = distinct_by (0 ∷ xs) first.0

  -- a star with an order has a leaf
  pub star_some : xs ≢ []
  star_some e = none order (some_by order third.0) (subst (λ z. list_all (inside z) order ≡ true) e third.1)
    where
      none : (ys : List ℕ) → ys ≢ [] → list_all (inside []) ys ≡ true → ⊥
      none [] some g = some refl
      none (y ∷ ys) some g = false≢true g

  -- and of the order
  pub order_some : order ≢ []
  order_some = some_by order third.0

  -- the leaves of the order are distinct
  pub order_distinct : Distinct order
  order_distinct = distinct_by order second.0

  -- and they are leaves of the tree
  pub order_leaves : (owner vars : ℕ) (tree : PQTree) → IsStar 0 xs owner vars tree
      → (x : ℕ) → Has x order → Has x (leaves tree.body)
  order_leaves owner vars tree s x m = subst (Has x) (sym (star_has xs owner vars tree s)) (has_by xs order third.1 x m)

  -- the tree forced to another order has them too
  pub again_leaves : (owner vars var : ℕ) (row : List ℕ) (tree new : PQTree) → IsStar 0 xs owner vars tree
      → IsForced row var tree new → (x : ℕ) → Has x order → Has x (leaves new.body)
  again_leaves owner vars var row tree new s f x m =
      Has-IsPermutation x (leaves tree.body) (leaves new.body) f.leaves_kept (order_leaves owner vars tree s x m)

module _ (xs set : List ℕ) (h : is_star_with 0 xs set ≡ true) where
  -- the parts of the test of a set
  set_first : (are_apart (0 ∷ xs) ≡ true) × ((is_some set && (is_rising set && list_all (inside xs) set)) ≡ true)
  set_first = and_parts (are_apart (0 ∷ xs)) (is_some set && (is_rising set && list_all (inside xs) set)) h

  -- the set is not empty, and the rest of the test holds
  set_second : (is_some set ≡ true) × ((is_rising set && list_all (inside xs) set) ≡ true)
  set_second = and_parts (is_some set) (is_rising set && list_all (inside xs) set) set_first.1

  -- the set is rising, and its leaves are those of the star
  set_third : (is_rising set ≡ true) × (list_all (inside xs) set ≡ true)
  set_third = and_parts (is_rising set) (list_all (inside xs) set) set_second.1

  -- the leaves of the star
  pub set_distinct : Distinct (0 ∷ xs)
  set_distinct = distinct_by (0 ∷ xs) set_first.0

  -- a star with a set has a leaf
  pub set_some : xs ≢ []
  set_some e = none set (some_by set set_second.0) (subst (λ z. list_all (inside z) set ≡ true) e set_third.1)
    where
      none : (ys : List ℕ) → ys ≢ [] → list_all (inside []) ys ≡ true → ⊥
      none [] some g = some refl
      none (y ∷ ys) some g = false≢true g

  -- the set in the star
  pub star_set : (owner vars : ℕ) (tree : PQTree) → IsStar 0 xs owner vars tree → IsLeafSet set tree
  star_set owner vars tree s = record {
    rising = rising_by set set_third.0;
    not_empty = some_by set set_second.0;
    leaves_of = λ x m. subst (Has x) (sym (star_has xs owner vars tree s)) (has_by xs set set_third.1 x m);
  }

-- the set in the tree reduced by it
pub reduced_set : (set : List ℕ) (old new : PQTree) → IsLeafSet set old → IsReduced set old new → IsLeafSet set new
reduced_set set old new l r = record {
  rising = l.rising;
  not_empty = l.not_empty;
  leaves_of = λ x m. Has-IsPermutation x (leaves old.body) (leaves new.body) r.leaves_kept (l.leaves_of x m);
}

-- the set is consecutive in each order of this tree
pub reduced_orders : (set : List ℕ) (old new : PQTree) → IsReduced set old new
    → (order : List ℕ) → Admits new order → IsConsecutive set order
reduced_orders set old new r order a = ((r.shape order).0 a).1

-- a leaf that is apart from 0 and from the leaves of the star may be put into this tree
pub fresh_leaf : (leaf : ℕ) (xs set : List ℕ) (owner vars : ℕ) (old new : PQTree) → are_apart (leaf ∷ (0 ∷ xs)) ≡ true
    → IsStar 0 xs owner vars old → IsReduced set old new → IsFreshNode set (Leaf leaf) new
fresh_leaf leaf xs set owner vars old new h s r = record {
  branching = branching_Leaf leaf;
  distinct = subst Distinct (sym (leaves_Leaf leaf)) (tt, tt);
  fresh = λ x m n. absurd (has_lacks leaf (0 ∷ xs)
      (back (subst (λ z. Has z (new.root ∷ leaves new.body)) (is_leaf x m) n)) apart.0);
  vars_below = below_Leaf new.vars leaf;
}
  where
    apart : Distinct (leaf ∷ (0 ∷ xs))
    apart = distinct_by (leaf ∷ (0 ∷ xs)) h

    is_leaf : (x : ℕ) → Has x (leaves (Leaf leaf)) → x ≡ leaf
    is_leaf x m = ⊎_elim (λ e. sym e) (λ n. absurd n) (subst (Has x) (leaves_Leaf leaf) m)

    root_is : new.root ≡ 0
    root_is = r.root ∙ ap (λ (t : PQTree). t.root) s.tree_is

    kept : Has leaf (leaves new.body) → Has leaf xs
    kept m = subst (Has leaf) (star_has xs owner vars old s)
        (Has-IsPermutation leaf (leaves new.body) (leaves old.body)
        (IsPermutation-sym (leaves old.body) (leaves new.body) r.leaves_kept) m)

    back : Has leaf (new.root ∷ leaves new.body) → Has leaf (0 ∷ xs)
    back = ⊎_elim (λ e. inl (sym root_is ∙ e)) (λ m. inr (kept m))
