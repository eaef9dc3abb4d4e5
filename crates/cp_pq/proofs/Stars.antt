-- The tree of one P-node of leaves.
use Rattle.std.proofs.Common.{◌≡◌, ◌≢◌, ℕ, suc, Bool, true, List, [], ◌∷◌, ◌++◌, length, map, refl, sym, ap, ap₂, ◌∙◌, subst, arith, IsPermutation}
use Rattle.std.specs.Prelude.{◌&&◌}
use Rattle.std.specs.List.{list_all}
use Rattle.std.proofs.lemmas.List.Sorted.{IsPermutation-map}
use Rattle.cp_lists.specs.CyclicLists.{Distinct}
use Rattle.cp_pq.specs.declared.node.Node.TheVariants.{Leaf, P}
use Rattle.cp_pq.specs.Nodes.{leaves, all_leaves, is_branching, has_vars_below}
use Rattle.cp_pq.specs.Readings.{Reads, ReadsAll, given, leaf, any_order, none, more}
use Rattle.cp_pq.specs.Trees.{PQTree, make_tree, IsWellFormed}
use Rattle.cp_pq.specs.Promises.{star_body, IsStar}
use Rattle.cp_pq.proofs.NodeLayers.{leaves_Leaf, leaves_P, all_leaves_nil, all_leaves_cons}
use Rattle.cp_pq.proofs.NodeTests.{branching_Leaf, branching_P_from, below_Leaf, below_P}
use Rattle.cp_pq.proofs.ReadingLaws.{read_leaves}
use Rattle.cp_pq.proofs.Permutations.{short_permutation}

-- a row of leaves has these as its leaves
leaves_row : (xs : List ℕ) → all_leaves (map Leaf xs) ≡ xs
leaves_row [] = all_leaves_nil
leaves_row (x ∷ xs) = all_leaves_cons (Leaf x) (map Leaf xs) ∙ ap₂ (λ a b. a ++ b) (leaves_Leaf x) (leaves_row xs)

-- a row of leaves branches
row_branching : (xs : List ℕ) → list_all is_branching (map Leaf xs) ≡ true
row_branching [] = refl
row_branching (x ∷ xs) = ap (λ b. b && list_all is_branching (map Leaf xs)) (branching_Leaf x) ∙ row_branching xs

-- a row of leaves has no vars
row_below : (m : ℕ) (xs : List ℕ) → list_all (has_vars_below m) (map Leaf xs) ≡ true
row_below m [] = refl
row_below m (x ∷ xs) = ap (λ b. b && list_all (has_vars_below m) (map Leaf xs)) (below_Leaf m x) ∙ row_below m xs

-- a row of leaves is as long as their list
row_long : (xs : List ℕ) → length (map Leaf xs) ≡ length xs
row_long [] = refl
row_long (x ∷ xs) = ap (λ n. suc n) (row_long xs)

-- a row of leaves reads itself
row_reads : (may : ℕ → Bool → Bool) (xs : List ℕ) → ReadsAll may (map Leaf xs) xs
row_reads may [] = none
row_reads may (x ∷ xs) = more (Leaf x) (map Leaf xs) (x ∷ []) xs (leaf x) (row_reads may xs)

-- a star has its leaves in the given order
pub star_leaves : (owner : ℕ) (xs : List ℕ) → leaves (star_body owner xs) ≡ xs
star_leaves owner [] = leaves_P owner [] ∙ all_leaves_nil
star_leaves owner (x ∷ []) = leaves_Leaf x
star_leaves owner (x ∷ y ∷ xs) = leaves_P owner (map Leaf (x ∷ y ∷ xs)) ∙ leaves_row (x ∷ y ∷ xs)

-- a star reads its leaves in any order
pub star_reads : (may : ℕ → Bool → Bool) (owner : ℕ) (xs word : List ℕ) → IsPermutation xs word
    → Reads may (star_body owner xs) word
star_reads may owner [] word h = any_order owner [] (map Leaf word) word (IsPermutation-map Leaf [] word h) (row_reads may word)
star_reads may owner (x ∷ []) word h = subst (Reads may (Leaf x)) (sym (short_permutation (x ∷ []) word h (omega arith))) (leaf x)
star_reads may owner (x ∷ y ∷ xs) word h = any_order owner (map Leaf (x ∷ y ∷ xs)) (map Leaf word) word (IsPermutation-map Leaf (x ∷ y ∷ xs) word h) (row_reads may word)

-- a star of some leaves branches
star_branching : (owner : ℕ) (xs : List ℕ) → xs ≢ [] → is_branching (star_body owner xs) ≡ true
star_branching owner [] some = absurd (some refl)
star_branching owner (x ∷ []) some = branching_Leaf x
star_branching owner (x ∷ y ∷ xs) some = branching_P_from owner (map Leaf (x ∷ y ∷ xs)) (let e = row_long xs in omega (arith, e)) (row_branching (x ∷ y ∷ xs))

-- a star has no vars
star_below : (m owner : ℕ) (xs : List ℕ) → has_vars_below m (star_body owner xs) ≡ true
star_below m owner [] = below_P m owner []
star_below m owner (x ∷ []) = below_Leaf m x
star_below m owner (x ∷ y ∷ xs) = below_P m owner (map Leaf (x ∷ y ∷ xs)) ∙ row_below m (x ∷ y ∷ xs)

-- a star of distinct leaves under a root that is none of them is well formed
pub star_formed : (root owner vars : ℕ) (xs : List ℕ) → xs ≢ [] → Distinct (root ∷ xs)
    → IsWellFormed (make_tree root (star_body owner xs) vars [])
star_formed root owner vars xs some d = record {
  branching = star_branching owner xs some;
  distinct = subst (λ z. Distinct (root ∷ z)) (sym (star_leaves owner xs)) d;
  vars_below = star_below vars owner xs;
  equations_below = tt;
}

-- the tree of a star is the star, with all orders of its leaves and all bits
pub star_is : (root owner vars : ℕ) (xs : List ℕ) (tree : PQTree) → tree ≡ make_tree root (star_body owner xs) vars []
    → IsStar root xs owner vars tree
star_is root owner vars xs tree e = subst (IsStar root xs owner vars) (sym e) (record {
  tree_is = refl;
  pairs = λ order bits. (
    λ h. (h.bits_count, (h.word, h.order_is, subst (λ z. IsPermutation z h.word) (star_leaves owner xs) (read_leaves (given bits) (star_body owner xs) h.word h.reads))),
    λ h. record { word = h.1.0; order_is = h.1.1; bits_count = h.0; reads = star_reads (given bits) owner xs h.1.0 h.1.2; met = tt },
  );
})

-- the body by the number of leaves
pub body_one : (owner : ℕ) (xs : List ℕ) (x : ℕ) → xs ≡ x ∷ [] → star_body owner xs ≡ Leaf x
body_one owner xs x e = ap (star_body owner) e

-- a star of other than one leaf is one P-node of all
pub body_many : (owner : ℕ) (xs : List ℕ) → (length xs ≡ 1 → ⊥) → star_body owner xs ≡ P owner (map Leaf xs)
body_many owner [] many = refl
body_many owner (x ∷ []) many = absurd (many refl)
body_many owner (x ∷ y ∷ xs) many = refl
