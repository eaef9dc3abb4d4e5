-- Nodes of leaves: what they read, and that they may be put into a tree.
use Rattle.std.proofs.Common.{◌≡◌, ◌≢◌, ℕ, suc, ◌<◌, ◌↔◌, Bool, true, false, ◌&&◌, List, [], ◌∷◌, ◌++◌, length, map, reverse, slice_index_or, sym, refl, ap, ap₂, ◌∙◌, subst, ⊎_elim, arith}
use Rattle.std.specs.Prelude.{nat_lt}
use Rattle.std.specs.Bool.{beq}
use Rattle.std.specs.List.{list_all}
use Rattle.std.specs.List.Sorted.{IsPermutation}
use Rattle.std.proofs.lemmas.Bool.{lt-ltb, and_parts, and_from}
use Rattle.std.proofs.lemmas.List.{reverse-append}
use Rattle.std.proofs.lemmas.List.Sorted.{IsPermutation-sym}
use Rattle.cp_lists.specs.CyclicLists.{Distinct}
use Rattle.cp_lists.proofs.PermutedLists.{IsPermutation-from}
use Rattle.cp_pq.specs.declared.node.Node.{Node}
use Rattle.cp_pq.specs.declared.node.Node.TheOpen.{Node-F}
use Rattle.cp_pq.specs.declared.node.Node.TheViews.{out-Node}
use Rattle.cp_pq.specs.declared.node.Node.TheFolds.{fold-roll-Node}
use Rattle.cp_pq.specs.declared.node.Node.TheVariants.{Leaf, Q, rolls-Leaf, rolls-Q}
use Rattle.cp_pq.specs.Bits.{bit_of}
use Rattle.cp_pq.specs.Nodes.{leaves, all_leaves, is_branching, branching_step, has_vars_below, below_step}
use Rattle.cp_pq.specs.Promises.{star_body}
use Rattle.cp_pq.specs.Readings.{Reads, ReadsAll, given, leaf, any_order, forward, backward, none, more}
use Rattle.cp_pq.proofs.NodeLayers.{out_Leaf, Leaf_P, Leaf_Q, leaves_Leaf, leaves_Q, all_leaves_nil, all_leaves_cons}
use Rattle.cp_pq.proofs.PermutedLists.{Has-IsPermutation, Distinct-IsPermutation}
use Rattle.cp_pq.proofs.ReadingLaws.{ReadsAll_nil, ReadsAll_cons, Reads_Q, read_leaves}
use Rattle.cp_pq.proofs.Stars.{star_leaves, star_reads}
use Rattle.cp_embed.specs.Arrangements.{IsArrangementOf}
use Rattle.cp_embed.specs.Directions.{directed}
use Rattle.cp_embed.specs.TreeSteps.{row_body, ReadsAnyOrder, ReadsRow}

-- a list of one item
pub one_item : (xs : List ℕ) → length xs ≡ 1 → xs ≡ slice_index_or xs 0 0 ∷ []
one_item [] e = absurd (omega (arith, e))
one_item (x ∷ []) e = refl
one_item (x ∷ y ∷ xs) e = absurd (omega (arith, e))

-- a row that is not of one leaf
pub row_many : (var : ℕ) (xs : List ℕ) → (length xs ≡ 1 → ⊥) → row_body var xs ≡ Q var (map Leaf xs)
row_many var [] many = refl
row_many var (x ∷ []) many = absurd (many refl)
row_many var (x ∷ y ∷ xs) many = refl

-- the leaves of leaves
leaves_row : (xs : List ℕ) → all_leaves (map Leaf xs) ≡ xs
leaves_row [] = all_leaves_nil
leaves_row (x ∷ xs) = all_leaves_cons (Leaf x) (map Leaf xs) ∙ ap₂ (λ a b. a ++ b) (leaves_Leaf x) (leaves_row xs)

-- the leaves of a row
pub row_leaves : (var : ℕ) (xs : List ℕ) → leaves (row_body var xs) ≡ xs
row_leaves var [] = leaves_Q var [] ∙ all_leaves_nil
row_leaves var (x ∷ []) = leaves_Leaf x
row_leaves var (x ∷ y ∷ xs) = leaves_Q var (map Leaf (x ∷ y ∷ xs)) ∙ leaves_row (x ∷ y ∷ xs)

-- all tests of the images are the test of all
pub list_all-map : (f : Node → Bool) (kids : List Node) → list_all (λ (b : Bool). b) (map f kids) ≡ list_all f kids
list_all-map f [] = refl
list_all-map f (k ∷ ks) = ap (λ b. f k && b) (list_all-map f ks)

-- as many images as items
pub length-images : (f : Node → Bool) (ks : List Node) → length (map f ks) ≡ length ks
length-images f [] = refl
length-images f (k ∷ ks) = let e = length-images f ks in omega (arith, e)

-- a leaf is branching
branching_Leaf : (x : ℕ) → is_branching (Leaf x) ≡ true
unfolding is_branching
branching_Leaf x = ap is_branching (sym (rolls-Leaf x)) ∙ fold-roll-Node Bool branching_step (Node-F.Leaf x)

-- a Q-node is so where it has two kids at least and they are
pub branching_Q : (var : ℕ) (ks : List Node)
    → is_branching (Q var ks) ≡ (nat_lt 1 (length ks) && list_all is_branching ks)
unfolding is_branching
branching_Q var ks = ap is_branching (sym (rolls-Q var ks)) ∙ fold-roll-Node Bool branching_step (Node-F.Q var ks)
    ∙ ap₂ (λ n b. nat_lt 1 n && b) (length-images is_branching ks) (list_all-map is_branching ks)

-- a leaf has no vars
below_Leaf : (vars x : ℕ) → has_vars_below vars (Leaf x) ≡ true
unfolding has_vars_below
below_Leaf vars x = ap (has_vars_below vars) (sym (rolls-Leaf x))
    ∙ fold-roll-Node Bool (below_step vars) (Node-F.Leaf x)

-- the vars of a Q-node are its own and those of its kids
below_Q : (vars var : ℕ) (ks : List Node)
    → has_vars_below vars (Q var ks) ≡ (nat_lt var vars && list_all (has_vars_below vars) ks)
unfolding has_vars_below
below_Q vars var ks = ap (has_vars_below vars) (sym (rolls-Q var ks))
    ∙ fold-roll-Node Bool (below_step vars) (Node-F.Q var ks)
    ∙ ap (λ b. nat_lt var vars && b) (list_all-map (has_vars_below vars) ks)

-- all leaves of a row are branching
leaves_branching : (xs : List ℕ) → list_all is_branching (map Leaf xs) ≡ true
leaves_branching [] = refl
leaves_branching (x ∷ xs) = ap (λ b. b && list_all is_branching (map Leaf xs)) (branching_Leaf x) ∙ leaves_branching xs

-- and have no vars
leaves_below : (vars : ℕ) (xs : List ℕ) → list_all (has_vars_below vars) (map Leaf xs) ≡ true
leaves_below vars [] = refl
leaves_below vars (x ∷ xs) =
    ap (λ b. b && list_all (has_vars_below vars) (map Leaf xs)) (below_Leaf vars x) ∙ leaves_below vars xs

-- as many nodes as leaves
length-leaves : (xs : List ℕ) → length (map Leaf xs) ≡ length xs
length-leaves [] = refl
length-leaves (x ∷ xs) = ap (λ n. suc n) (length-leaves xs)

-- a row is branching
pub row_branching : (var : ℕ) (xs : List ℕ) → xs ≢ [] → is_branching (row_body var xs) ≡ true
row_branching var [] some = absurd (some refl)
row_branching var (x ∷ []) some = branching_Leaf x
row_branching var (x ∷ y ∷ xs) some = branching_Q var (map Leaf (x ∷ y ∷ xs))
    ∙ and_from (nat_lt 1 (length (map Leaf (x ∷ y ∷ xs)))) (list_all is_branching (map Leaf (x ∷ y ∷ xs)))
    (lt-ltb 1 (length (map Leaf (x ∷ y ∷ xs))) (let e = length-leaves xs in omega (arith, e)))
    (leaves_branching (x ∷ y ∷ xs))

-- its vars are its own
pub row_below : (vars var : ℕ) (xs : List ℕ) → var < vars → has_vars_below vars (row_body var xs) ≡ true
row_below vars var [] lt = below_Q vars var []
    ∙ and_from (nat_lt var vars) (list_all (has_vars_below vars) []) (lt-ltb var vars lt) refl
row_below vars var (x ∷ []) lt = below_Leaf vars x
row_below vars var (x ∷ y ∷ xs) lt = below_Q vars var (map Leaf (x ∷ y ∷ xs))
    ∙ and_from (nat_lt var vars) (list_all (has_vars_below vars) (map Leaf (x ∷ y ∷ xs))) (lt-ltb var vars lt)
    (leaves_below vars (x ∷ y ∷ xs))

-- a row of leaves reads itself
pub leaves_read : (may : ℕ → Bool → Bool) (xs : List ℕ) → ReadsAll may (map Leaf xs) xs
leaves_read may [] = none
leaves_read may (x ∷ xs) = more (Leaf x) (map Leaf xs) (x ∷ []) xs (leaf x) (leaves_read may xs)

-- a leaf reads itself alone, where the node is known by an equation
leaf_reads_at : (may : ℕ → Bool → Bool) (n : Node) (xs : List ℕ) → Reads may n xs → (x : ℕ) → n ≡ Leaf x → xs ≡ x ∷ []
leaf_reads_at may _ _ (leaf y) x e =
    let h : Node-F.Leaf y ≡ Node-F.Leaf x = sym (out_Leaf y) ∙ ap out-Node e ∙ out_Leaf x in
    ap (λ k. k ∷ []) (let k : y ≡ x = cc in k)
leaf_reads_at may _ _ (any_order o ks turn xs p all) x e = absurd (Leaf_P x o ks (sym e))
leaf_reads_at may _ _ (forward v ks xs m all) x e = absurd (Leaf_Q x v ks (sym e))
leaf_reads_at may _ _ (backward v ks xs m all) x e = absurd (Leaf_Q x v ks (sym e))

-- a row of leaves reads itself alone
pub leaves_read_only : (may : ℕ → Bool → Bool) (xs word : List ℕ) → ReadsAll may (map Leaf xs) word → word ≡ xs
leaves_read_only may [] word all = ReadsAll_nil may word all
leaves_read_only may (x ∷ xs) word all =
    let w = ReadsAll_cons may (Leaf x) (map Leaf xs) word all in
    w.2 ∙ ap₂ (λ us vs. us ++ vs) (leaf_reads_at may (Leaf x) w.0 w.3 x refl) (leaves_read_only may xs w.1 w.4)

-- leaves in reverse
pub leaves-reverse : (xs : List ℕ) → map Leaf (reverse xs) ≡ reverse (map Leaf xs)
leaves-reverse [] = refl
leaves-reverse (x ∷ xs) =
    ap (map Leaf) (reverse-append (x ∷ []) xs) ∙ images-append (reverse xs) (x ∷ [])
    ∙ ap (λ zs. zs ++ Leaf x ∷ []) (leaves-reverse xs) ∙ sym (reverse-append (Leaf x ∷ []) (map Leaf xs))
  where
    images-append : (ys zs : List ℕ) → map Leaf (ys ++ zs) ≡ map Leaf ys ++ map Leaf zs
    images-append [] zs = refl
    images-append (y ∷ ys) zs = ap (λ ns. Leaf y ∷ ns) (images-append ys zs)

-- the bit that a licence of bits gives
given_is : (bits : List Bool) (v : ℕ) (b : Bool) → given bits v b ≡ true → bit_of bits v ≡ b
given_is bits v b may = same_bit (bit_of bits v) b (and_parts (nat_lt v (length bits)) (beq (bit_of bits v) b) may).1
  where
    same_bit : (c d : Bool) → beq c d ≡ true → c ≡ d
    same_bit true true e = refl
    same_bit false false e = refl
    same_bit true false e = absurd cc
    same_bit false true e = absurd cc

-- the bits give each var its bit
given_bit : (bits : List Bool) (v : ℕ) → v < length bits → given bits v (bit_of bits v) ≡ true
given_bit bits v lt = and_from (nat_lt v (length bits)) (beq (bit_of bits v) (bit_of bits v)) (lt-ltb v (length bits) lt)
    (beq-same (bit_of bits v))
  where
    beq-same : (b : Bool) → beq b b ≡ true
    beq-same true = refl
    beq-same false = refl

-- a Q-node of leaves reads its row by its bit
row_Q-ReadsRow : (var vars : ℕ) (xs : List ℕ) → var < vars → ReadsRow (Q var (map Leaf xs)) xs var vars
row_Q-ReadsRow var vars xs lt = record {
  only = λ bits word reads. ⊎_elim
      (λ f. leaves_read_only (given bits) xs word f.1
      ∙ ap (λ b. directed b xs) (sym (given_is bits var false f.0)))
      (λ b. leaves_read_only (given bits) (reverse xs) word
      (subst (λ ks. ReadsAll (given bits) ks word) (sym (leaves-reverse xs)) b.1)
      ∙ ap (λ d. directed d xs) (sym (given_is bits var true b.0)))
      (Reads_Q (given bits) var (map Leaf xs) word reads);
  all = λ bits count. by_bit bits (bit_of bits var) (given_bit bits var (omega (arith, lt, count)));
}
  where
    by_bit : (bits : List Bool) (b : Bool) → given bits var b ≡ true
        → Reads (given bits) (Q var (map Leaf xs)) (directed b xs)
    by_bit bits false may = forward var (map Leaf xs) xs may (leaves_read (given bits) xs)
    by_bit bits true may = backward var (map Leaf xs) (reverse xs) may
        (subst (λ ks. ReadsAll (given bits) ks (reverse xs)) (leaves-reverse xs) (leaves_read (given bits) (reverse xs)))

-- a row reads itself by its bit
pub row-ReadsRow : (var vars : ℕ) (xs : List ℕ) → var < vars → ReadsRow (row_body var xs) xs var vars
row-ReadsRow var vars [] lt = row_Q-ReadsRow var vars [] lt
row-ReadsRow var vars (x ∷ []) lt = record {
  only = λ bits word reads. leaf_reads_at (given bits) (Leaf x) word reads x refl ∙ sym (one_way (bit_of bits var));
  all = λ bits count. subst (Reads (given bits) (Leaf x)) (sym (one_way (bit_of bits var))) (leaf x);
}
  where
    one_way : (b : Bool) → directed b (x ∷ []) ≡ x ∷ []
    one_way false = refl
    one_way true = refl
row-ReadsRow var vars (x ∷ y ∷ xs) lt = row_Q-ReadsRow var vars (x ∷ y ∷ xs) lt

-- a permutation of a distinct list is an arrangement of it
pub IsPermutation-arranges : (xs word : List ℕ) → Distinct xs → IsPermutation xs word ↔ IsArrangementOf word xs
IsPermutation-arranges xs word once = (
  λ p. record {
    distinct = Distinct-IsPermutation xs word p once;
    items = λ d. (Has-IsPermutation d word xs (IsPermutation-sym xs word p), Has-IsPermutation d xs word p);
  },
  λ a. IsPermutation-from xs word once a.distinct (λ d h. (a.items d).1 h) (λ d h. (a.items d).0 h),
)

-- a star reads the arrangements of its leaves
pub star-ReadsAnyOrder : (owner : ℕ) (xs : List ℕ) → Distinct xs → ReadsAnyOrder (star_body owner xs) xs
star-ReadsAnyOrder owner xs once bits word = (
  λ reads. (IsPermutation-arranges xs word once).0 (subst (λ ys. IsPermutation ys word) (star_leaves owner xs)
      (read_leaves (given bits) (star_body owner xs) word reads)),
  λ a. star_reads (given bits) owner xs word ((IsPermutation-arranges xs word once).1 a),
)
