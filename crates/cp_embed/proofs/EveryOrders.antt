-- Trees that have every order: one P-node of leaves has, and where the body has three leaves at least, no other tree.
use Rattle.std.proofs.Common.{◌≡◌, ◌≢◌, ℕ, zero, suc, ◌<◌, ◌≤◌, ◌⊎◌, Bool, true, ◌&&◌, List, [], ◌∷◌, ◌++◌, length, map, reverse, drop, get_or, sym, refl, ap, ap₂, ◌∙◌, subst, inl, inr, ⊎_elim, arith, append_assoc, length-append}
use Rattle.std.specs.Prelude.{nat_lt}
use Rattle.std.specs.List.{list_all, All}
use Rattle.std.specs.List.Sorted.{IsPermutation}
use Rattle.std.proofs.Math.Seq.{get_or-append_seam}
use Rattle.std.proofs.lemmas.Bool.{and_parts, ltb-true, cases_eq}
use Rattle.std.proofs.lemmas.List.{reverse-reverse, reverse-append}
use Rattle.std.proofs.lemmas.List.Sorted.{IsPermutation-map, IsPermutation-refl, IsPermutation-sym, IsPermutation-reverse, All-permutation, length_permutation}
use Rattle.cp_lists.specs.CyclicLists.{Has, Distinct, but, head_or}
use Rattle.cp_lists.proofs.DistinctLists.{has_lacks, Has-append_left, Has-append_right, Distinct-apart, Distinct-append_right, but-Has, Has-but, but-Lacks, but-Lacks_other, but-Distinct}
use Rattle.cp_lists.proofs.ReversedLists.{Has-reverse, reverse-Has}
use Rattle.cp_pq.specs.declared.node.Node.{Node}
use Rattle.cp_pq.specs.declared.node.Node.TheOpen.{Node-F}
use Rattle.cp_pq.specs.declared.node.Node.TheFolds.{fold-roll-Node}
use Rattle.cp_pq.specs.declared.node.Node.TheVariants.{Leaf, P, Q, rolls-P}
use Rattle.cp_pq.specs.Nodes.{leaves, all_leaves, IsKid, is_branching, branching_step}
use Rattle.cp_pq.specs.Readings.{Reads, ReadsAll, leaf, any_order, forward, backward, none, more, given}
use Rattle.cp_pq.specs.Trees.{PQTree, IsWellFormed}
use Rattle.cp_pq.proofs.NodeLayers.{leaves_Leaf, leaves_P, leaves_Q}
use Rattle.cp_pq.proofs.PermutedLists.{Has-IsPermutation, Distinct-IsPermutation}
use Rattle.cp_pq.proofs.ReadingLaws.{Reads_P, Reads_Q, read_leaves, read_all_leaves}
use Rattle.cp_force.specs.Owners.{IsSoleP}
use Rattle.cp_embed.specs.Embeddings.{HasSomePair}
use Rattle.cp_embed.specs.EveryOrder.{HasEveryOrder}
use Rattle.cp_lists.proofs.PermutedLists.{IsPermutation-from}
use Rattle.cp_embed.proofs.RowNodes.{leaves_read, leaves_read_only, leaves-reverse, list_all-map, length-images, branching_Q}
use Rattle.cp_embed.proofs.Sides.{no_kid, kid_or, kid_leaf, kid_leaves, leaf_kid, row-leaves_are}

-- one P-node of leaves, in a tree with a pair, has every order
pub sole-HasEveryOrder : (tree : PQTree) (v : ℕ) → IsSoleP tree v → HasSomePair tree → HasEveryOrder tree
sole-HasEveryOrder tree v sole some word p = (
  some.1,
  record {
    word = word;
    order_is = refl;
    bits_count = some.2.bits_count;
    reads = subst (λ n. Reads (given some.1) n word) (sym sole.1)
        (any_order v (map Leaf sole.0) (map Leaf word) word
        (IsPermutation-map Leaf sole.0 word
        (subst (λ us. IsPermutation us word) (ap leaves sole.1 ∙ leaves_P v (map Leaf sole.0) ∙ row-leaves_are sole.0) p))
        (leaves_read (given some.1) word));
    met = some.2.met;
  },
)

-- the node at a place of a row is a kid
kid_at : (zs : List Node) (i : ℕ) (d : Node) → i < length zs → IsKid (get_or zs i d) zs
kid_at [] i d lt = absurd (omega (arith, lt))
kid_at (z ∷ zs) zero d lt = ([], zs, refl)
kid_at (z ∷ zs) (suc i) d lt =
    let h = kid_at zs i d (omega (arith, lt)) in (z ∷ h.0, h.1, ap (λ us. z ∷ us) h.2)

-- a kid of a row is one of each permutation
pub kid-permuted : (k : Node) (xs ys : List Node) → IsPermutation xs ys → IsKid k xs → IsKid k ys
kid-permuted k xs ys p h =
    let all : All (λ n. IsKid n ys) xs =
    All-permutation (λ n. IsKid n ys) ys xs (IsPermutation-sym xs ys p) (own ys)
    in
    subst (λ n. IsKid n ys) (at_place h.0 h.1 xs h.2) (all (length h.0) k (within h.0 h.1 xs h.2))
  where
    own : (zs : List Node) → All (λ n. IsKid n zs) zs
    own zs i d lt = kid_at zs i d lt

    at_place : (before after zs : List Node) → zs ≡ before ++ k ∷ after → get_or zs (length before) k ≡ k
    at_place before after zs e = ap (λ us. get_or us (length before) k) e ∙ get_or-append_seam before k after k

    within : (before after zs : List Node) → zs ≡ before ++ k ∷ after → length before < length zs
    within before after zs e = omega (arith, ap length e, length-append before (k ∷ after))

-- the reading of a kid in a reading of a row
row_split : (may : ℕ → Bool → Bool) (ks : List Node) (w : List ℕ) → ReadsAll may ks w → (k : Node) → IsKid k ks
    → (p : List ℕ) × (u : List ℕ) × (q : List ℕ) × (w ≡ p ++ (u ++ q)) × Reads may k u
row_split may _ _ none k h = absurd (no_kid k h)
row_split may _ _ (more m ks xs ys a b) k h = ⊎_elim
    (λ e. ([], xs, ys, refl, subst (λ n. Reads may n xs) e a))
    (λ later. let r = row_split may ks ys b k later in
    (xs ++ r.0, r.1, r.2, ap (λ us. xs ++ us) r.3 ∙ sym (append_assoc xs r.0 (r.1 ++ r.2)), r.4))
    (kid_or k m ks h)

-- in a reading of an inner node
kid_split : (may : ℕ → Bool → Bool) (n : Node) (kids : List Node)
    → ((o : ℕ) × (n ≡ P o kids)) ⊎ ((v : ℕ) × (n ≡ Q v kids)) → (k : Node) → IsKid k kids → (w : List ℕ)
    → Reads may n w → (p : List ℕ) × (u : List ℕ) × (q : List ℕ) × (w ≡ p ++ (u ++ q)) × Reads may k u
kid_split may n kids inner k h w r = ⊎_elim
    (λ o. let z = Reads_P may o.0 kids w (subst (λ m. Reads may m w) o.1 r) in
    row_split may z.0 w z.2 k (kid-permuted k kids z.0 z.1 h))
    (λ v. ⊎_elim
    (λ f. row_split may kids w f.1 k h)
    (λ b. row_split may (reverse kids) w b.1 k (kid-permuted k kids (reverse kids) (IsPermutation-reverse kids) h))
    (Reads_Q may v.0 kids w (subst (λ m. Reads may m w) v.1 r)))
    inner

-- a run of two items at least that has the first item of a word has the second
second_in : (a b : ℕ) (rest p u q : List ℕ) → a ∷ b ∷ rest ≡ p ++ (u ++ q) → Distinct (a ∷ b ∷ rest) → Has a u
    → 2 ≤ length u → Has b u
second_in a b rest [] [] q e once h two = absurd h
second_in a b rest [] (y ∷ []) q e once h two = absurd (omega (arith, two))
second_in a b rest [] (y ∷ z ∷ u) q e once h two = inr (inl (sym (ap (λ us. head_or z (drop 1 us)) e)))
second_in a b rest (y ∷ p) u q e once h two =
    absurd (has_lacks a (b ∷ rest)
    (subst (Has a) (sym (ap (drop 1) e)) (Has-append_right a p (u ++ q) (Has-append_left a u q h))) once.0)

-- the items of a list with these two first
two_first : (a b : ℕ) (xs : List ℕ) → Distinct xs → Has a xs → Has b xs → a ≢ b
    → IsPermutation xs (a ∷ b ∷ but b (but a xs)) × Distinct (a ∷ b ∷ but b (but a xs))
two_first a b xs once ha hb ne = (IsPermutation-from xs (a ∷ b ∷ but b (but a xs)) once dis to fro, dis)
  where
    dis : Distinct (a ∷ b ∷ but b (but a xs))
    dis = (
      ((λ e. ne (sym e)), but-Lacks_other b a (but a xs) (but-Lacks a xs)),
      (but-Lacks b (but a xs), but-Distinct b (but a xs) (but-Distinct a xs once)),
    )

    to : (d : ℕ) → Has d xs → Has d (a ∷ b ∷ but b (but a xs))
    to d h = ⊎_elim (λ e. inl (sym e)) (λ na. ⊎_elim (λ e. inr (inl (sym e)))
        (λ nb. inr (inr (but-Has b d (but a xs) nb (but-Has a d xs na h)))) (cases_eq d b)) (cases_eq d a)

    fro : (d : ℕ) → Has d (a ∷ b ∷ but b (but a xs)) → Has d xs
    fro d = ⊎_elim (λ e. subst (λ y. Has y xs) e ha)
        (⊎_elim (λ e. subst (λ y. Has y xs) e hb) (λ h. Has-but a d xs (Has-but b d (but a xs) h)))

-- where an inner node reads all orders, no kid has two leaves beside a leaf of another kid
no_big_kid : (n : Node) (kids : List Node) → ((o : ℕ) × (n ≡ P o kids)) ⊎ ((v : ℕ) × (n ≡ Q v kids))
    → Distinct (leaves n)
    → ((word : List ℕ) → IsPermutation (leaves n) word → (may : ℕ → Bool → Bool) × Reads may n word) → (k : Node)
    → IsKid k kids → 2 ≤ length (leaves k) → (a b : ℕ) → Has a (leaves k) → Has a (leaves n) → Has b (leaves n)
    → (Has b (leaves k) → ⊥) → ⊥
no_big_kid n kids inner once every k h two a b ha ha_n hb nb =
    let f = two_first a b (leaves n) once ha_n hb (λ e. nb (subst (λ y. Has y (leaves k)) e ha)) in
    let r = every (a ∷ b ∷ but b (but a (leaves n))) f.0 in
    let s = kid_split r.0 n kids inner k h (a ∷ b ∷ but b (but a (leaves n))) r.1 in
    let same = read_leaves r.0 k s.1 s.4 in
    nb (Has-IsPermutation b s.1 (leaves k) (IsPermutation-sym (leaves k) s.1 same)
    (second_in a b (but b (but a (leaves n))) s.0 s.1 s.2 s.3 f.1
    (Has-IsPermutation a (leaves k) s.1 same ha)
    (omega (arith, two, length_permutation (leaves k) s.1 same))))

-- a P-node that branches has two kids at least, and they branch
pub branching-P : (o : ℕ) (ks : List Node) → is_branching (P o ks) ≡ true
    → (1 < length ks) × (list_all is_branching ks ≡ true)
unfolding is_branching
branching-P o ks h =
    let e : is_branching (P o ks) ≡ (nat_lt 1 (length ks) && list_all is_branching ks) =
    ap is_branching (sym (rolls-P o ks)) ∙ fold-roll-Node Bool branching_step (Node-F.P o ks)
    ∙ ap₂ (λ n b. nat_lt 1 n && b) (length-images is_branching ks) (list_all-map is_branching ks)
    in
    let w = and_parts (nat_lt 1 (length ks)) (list_all is_branching ks) (sym e ∙ h) in
    (ltb-true 1 (length ks) w.0, w.1)

-- and so has a Q-node
pub branching-Q : (v : ℕ) (ks : List Node) → is_branching (Q v ks) ≡ true
    → (1 < length ks) × (list_all is_branching ks ≡ true)
branching-Q v ks h =
    let w = and_parts (nat_lt 1 (length ks)) (list_all is_branching ks) (sym (branching_Q v ks) ∙ h) in
    (ltb-true 1 (length ks) w.0, w.1)

-- each kid of a row that branches does
pub each_branches : (ks : List Node) → list_all is_branching ks ≡ true → (k : Node) → IsKid k ks → is_branching k ≡ true
each_branches [] h k kid = absurd (no_kid k kid)
each_branches (m ∷ ks) h k kid =
    let parts = and_parts (is_branching m) (list_all is_branching ks) h in
    ⊎_elim
    (λ e. subst (λ n. is_branching n ≡ true) e parts.0)
    (λ later. each_branches ks parts.1 k later)
    (kid_or k m ks kid)

mutual
  -- a reading of a node that branches is not empty
  pub long : (may : ℕ → Bool → Bool) (n : Node) (w : List ℕ) → Reads may n w → is_branching n ≡ true → 1 ≤ length w
  long may _ _ (leaf x) b = omega arith
  long may _ _ (any_order o ks turn xs p all) b =
      let w = branching-P o ks b in
      let l = long_all may turn xs all
      (λ k h. each_branches ks w.1 k (kid-permuted k turn ks (IsPermutation-sym ks turn p) h))
      in
      omega (arith, w.0, l, length_permutation ks turn p)
  long may _ _ (forward v ks xs m all) b =
      let w = branching-Q v ks b in
      let l = long_all may ks xs all (each_branches ks w.1) in
      omega (arith, w.0, l)
  long may _ _ (backward v ks xs m all) b =
      let w = branching-Q v ks b in
      let turn = IsPermutation-reverse ks in
      let l = long_all may (reverse ks) xs all
      (λ k h. each_branches ks w.1 k (kid-permuted k (reverse ks) ks (IsPermutation-sym ks (reverse ks) turn) h))
      in
      omega (arith, w.0, l, length_permutation ks (reverse ks) turn)

  -- a reading of a row is as long as the row at least
  long_all : (may : ℕ → Bool → Bool) (ks : List Node) (w : List ℕ) → ReadsAll may ks w
      → ((k : Node) → IsKid k ks → is_branching k ≡ true) → length ks ≤ length w
  long_all may _ _ none b = omega arith
  long_all may _ _ (more k ks xs ys r all) b =
      let one = long may k xs r (b k ([], ks, refl)) in
      let rest = long_all may ks ys all (λ j h. b j (k ∷ h.0, h.1, ap (λ us. k ∷ us) h.2)) in
      omega (arith, one, rest, length-append xs ys)

-- a node that branches is a leaf or has two leaves at least
leaf_or : (may : ℕ → Bool → Bool) (n : Node) (w : List ℕ) → Reads may n w → is_branching n ≡ true
    → ((x : ℕ) × (n ≡ Leaf x)) ⊎ (2 ≤ length w)
leaf_or may _ _ (leaf x) b = inl (x, refl)
leaf_or may _ _ (any_order o ks turn xs p all) b =
    let w = branching-P o ks b in
    let l = long_all may turn xs all
    (λ k h. each_branches ks w.1 k (kid-permuted k turn ks (IsPermutation-sym ks turn p) h))
    in
    inr (omega (arith, w.0, l, length_permutation ks turn p))
leaf_or may _ _ (forward v ks xs m all) b =
    let w = branching-Q v ks b in
    let l = long_all may ks xs all (each_branches ks w.1) in
    inr (omega (arith, w.0, l))
leaf_or may _ _ (backward v ks xs m all) b =
    let w = branching-Q v ks b in
    let turn = IsPermutation-reverse ks in
    let l = long_all may (reverse ks) xs all
    (λ k h. each_branches ks w.1 k (kid-permuted k (reverse ks) ks (IsPermutation-sym ks (reverse ks) turn) h))
    in
    inr (omega (arith, w.0, l, length_permutation ks (reverse ks) turn))

-- a row is one of leaves, or has a kid with two leaves
row_or : (may : ℕ → Bool → Bool) (ks : List Node) (w : List ℕ) → ReadsAll may ks w
    → ((k : Node) → IsKid k ks → is_branching k ≡ true)
    → ((xs : List ℕ) × (ks ≡ map Leaf xs)) ⊎ ((k : Node) × IsKid k ks × (2 ≤ length (leaves k)))
row_or may _ _ none b = inl ([], refl)
row_or may _ _ (more k ks xs ys r all) b = ⊎_elim
    (λ x. ⊎_elim
    (λ zs. inl (x.0 ∷ zs.0, ap₂ (λ n ns. n ∷ ns) x.1 zs.1))
    (λ j. inr (j.0, (k ∷ j.1.0, j.1.1, ap (λ us. k ∷ us) j.1.2), j.2))
    (row_or may ks ys all (λ j h. b j (k ∷ h.0, h.1, ap (λ us. k ∷ us) h.2))))
    (λ two. inr (
      k,
      ([], ks, refl),
      omega (arith, two, length_permutation (leaves k) xs (read_leaves may k xs r)),
    ))
    (leaf_or may k xs r (b k ([], ks, refl)))

-- a kid of a row that is read has a leaf
pub some_leaf : (may : ℕ → Bool → Bool) (ks : List Node) (w : List ℕ) → ReadsAll may ks w
    → ((k : Node) → IsKid k ks → is_branching k ≡ true) → (k : Node) → IsKid k ks → (a : ℕ) × Has a (leaves k)
some_leaf may ks w all b k h =
    let s = row_split may ks w all k h in
    first_item s.1 (long may k s.1 s.4 (b k h)) (read_leaves may k s.1 s.4)
  where
    first_item : (u : List ℕ) → 1 ≤ length u → IsPermutation (leaves k) u → (a : ℕ) × Has a (leaves k)
    first_item [] lt p = absurd (omega (arith, lt))
    first_item (y ∷ u) lt p =
        (y, Has-IsPermutation y (y ∷ u) (leaves k) (IsPermutation-sym (leaves k) (y ∷ u) p) (inl refl))

-- beside a kid of a row of two at least there is a leaf that is none of its leaves
other_leaf : (may : ℕ → Bool → Bool) (ks : List Node) (w : List ℕ) → ReadsAll may ks w
    → ((k : Node) → IsKid k ks → is_branching k ≡ true) → Distinct (all_leaves ks) → 1 < length ks → (k : Node)
    → (h : IsKid k ks) → (b : ℕ) × Has b (all_leaves ks) × (Has b (leaves k) → ⊥)
other_leaf may ks w all b once two k h = by_place h.0 h.1 h.2 (subst Distinct (kid_leaves k ks h) once)
  where
    by_place : (before after : List Node) → ks ≡ before ++ k ∷ after
        → Distinct (all_leaves before ++ (leaves k ++ all_leaves after))
        → (c : ℕ) × Has c (all_leaves ks) × (Has c (leaves k) → ⊥)
    by_place [] [] e dis = absurd (omega (arith, two, ap length e))
    by_place [] (j ∷ js) e dis =
        let kid : IsKid j ks = (k ∷ [], js, e) in
        let a = some_leaf may ks w all b j kid in (
          a.0,
          kid_leaf a.0 j ks kid a.1,
          λ here. has_lacks a.0 (all_leaves (j ∷ js)) (kid_leaf a.0 j (j ∷ js) ([], js, refl) a.1)
              (Distinct-apart a.0 (leaves k) (all_leaves (j ∷ js))
              (Distinct-append_right (all_leaves []) (leaves k ++ all_leaves (j ∷ js)) dis) here),
        )
    by_place (j ∷ bs) after e dis =
        let kid : IsKid j ks = ([], bs ++ k ∷ after, e) in
        let a = some_leaf may ks w all b j kid in (
          a.0,
          kid_leaf a.0 j ks kid a.1,
          λ here. has_lacks a.0 (leaves k ++ all_leaves after) (Has-append_left a.0 (leaves k) (all_leaves after) here)
              (Distinct-apart a.0 (all_leaves (j ∷ bs)) (leaves k ++ all_leaves after) dis
              (kid_leaf a.0 j (j ∷ bs) ([], bs, refl) a.1)),
        )

-- the node reads all orders of its leaves
abbrev ReadsEvery : Node → Type 0
ReadsEvery n = (word : List ℕ) → IsPermutation (leaves n) word → (may : ℕ → Bool → Bool) × Reads may n word

-- an inner node whose kids are read as a row with a kid of two leaves does not read all orders
big_row : (n : Node) (kids row : List Node) → ((o : ℕ) × (n ≡ P o kids)) ⊎ ((v : ℕ) × (n ≡ Q v kids))
    → Distinct (leaves n) → ReadsEvery n → IsPermutation kids row → (may : ℕ → Bool → Bool) (w : List ℕ)
    → IsPermutation (leaves n) w → ReadsAll may row w → ((k : Node) → IsKid k row → is_branching k ≡ true)
    → 1 < length row → (k : Node) → IsKid k row → 2 ≤ length (leaves k) → ⊥
big_row n kids row inner once every p may w perm all b two k h big =
    let dis : Distinct (all_leaves row) =
    Distinct-IsPermutation w (all_leaves row) (IsPermutation-sym (all_leaves row) w (read_all_leaves may row w all))
    (Distinct-IsPermutation (leaves n) w perm once)
    in
    let of_n : (d : ℕ) → Has d (all_leaves row) → Has d (leaves n) =
    λ d z. Has-IsPermutation d w (leaves n) (IsPermutation-sym (leaves n) w perm)
    (Has-IsPermutation d (all_leaves row) w (read_all_leaves may row w all) z)
    in
    let a = some_leaf may row w all b k h in
    let c = other_leaf may row w all b dis two k h in
    no_big_kid n kids inner once every k (kid-permuted k row kids (IsPermutation-sym kids row p) h) big a.0 c.0 a.1
    (of_n a.0 (kid_leaf a.0 k row h a.1)) (of_n c.0 c.1) c.2

-- the first item of a list and more is one of the list
first-Has : (d : ℕ) (xs ys : List ℕ) → (k : ℕ) × Has k xs → Has (head_or d (xs ++ ys)) xs
first-Has d [] ys some = absurd some.1
first-Has d (x ∷ xs) ys some = inl refl

-- a Q-node of three leaves at least does not read all orders
leaf_row : (n : Node) (v : ℕ) (xs : List ℕ) → n ≡ Q v (map Leaf xs) → Distinct (leaves n) → 3 ≤ length xs
    → ReadsEvery n → ⊥
leaf_row n v [] is once three every = absurd (omega (arith, three))
leaf_row n v (x ∷ []) is once three every = absurd (omega (arith, three))
leaf_row n v (x ∷ y ∷ []) is once three every = absurd (omega (arith, three))
leaf_row n v (x ∷ y ∷ z ∷ xs) is once three every =
    let all : List ℕ = x ∷ y ∷ z ∷ xs in
    let same : leaves n ≡ all = ap leaves is ∙ leaves_Q v (map Leaf all) ∙ row-leaves_are all in
    let dis : Distinct all = subst Distinct same once in
    let rest : List ℕ = but x (but y all) in
    let f = two_first y x all dis (inr (inl refl)) (inl refl) dis.0.0 in
    let r = every (y ∷ x ∷ rest) (subst (λ us. IsPermutation us (y ∷ x ∷ rest)) (sym same) f.0) in
    ⊎_elim
    (λ a. dis.0.0 (ap (head_or 0) (leaves_read_only r.0 all (y ∷ x ∷ rest) a.1)))
    (λ b.
    let word_is : y ∷ x ∷ rest ≡ reverse all =
    leaves_read_only r.0 (reverse all) (y ∷ x ∷ rest)
    (subst (λ ks. ReadsAll r.0 ks (y ∷ x ∷ rest)) (sym (leaves-reverse all)) b.1)
    in
    let back : reverse rest ++ reverse (y ∷ x ∷ []) ≡ all =
    sym (reverse-append (y ∷ x ∷ []) rest) ∙ ap reverse word_is ∙ reverse-reverse all
    in
    let z_in : Has z rest = but-Has x z (but y all) dis.0.1.0
    (but-Has y z all dis.1.0.0 (inr (inr (inl refl))))
    in
    has_lacks x rest (reverse-Has x rest
    (subst (λ k. Has k (reverse rest)) (ap (head_or 0) back)
    (first-Has 0 (reverse rest) (reverse (y ∷ x ∷ [])) (z, Has-reverse z rest z_in)))) f.1.1.0)
    (Reads_Q r.0 v (map Leaf all) (y ∷ x ∷ rest) (subst (λ m. Reads r.0 m (y ∷ x ∷ rest)) is r.1))

-- a row each kid of which is a leaf is one of leaves
leaves_from : (ks : List Node) → ((k : Node) → IsKid k ks → (x : ℕ) × (k ≡ Leaf x)) → (xs : List ℕ) × (ks ≡ map Leaf xs)
leaves_from [] each = ([], refl)
leaves_from (k ∷ ks) each =
    let x = each k ([], ks, refl) in
    let xs = leaves_from ks (λ j h. each j (k ∷ h.0, h.1, ap (λ us. k ∷ us) h.2)) in
    (x.0 ∷ xs.0, ap₂ (λ n ns. n ∷ ns) x.1 xs.1)

-- a node of three leaves at least that reads all orders is one P-node of leaves
every_by : (may : ℕ → Bool → Bool) (n : Node) (w : List ℕ) → Reads may n w → is_branching n ≡ true → Distinct (leaves n)
    → 3 ≤ length (leaves n) → ReadsEvery n → (v : ℕ) × (xs : List ℕ) × (n ≡ P v (map Leaf xs))
every_by may _ _ (leaf x) b once three every = absurd (omega (arith, three, ap length (leaves_Leaf x)))
every_by may _ _ (any_order o ks turn xs p all) b once three every =
    let w = branching-P o ks b in
    let each : (k : Node) → IsKid k turn → is_branching k ≡ true =
    λ k h. each_branches ks w.1 k (kid-permuted k turn ks (IsPermutation-sym ks turn p) h)
    in
    ⊎_elim
    (λ zs.
    let ys = leaves_from ks (λ k h. leaf_kid zs.0 k (subst (IsKid k) zs.1 (kid-permuted k ks turn p h))) in
    (o, ys.0, ap (P o) ys.1))
    (λ k. absurd (big_row (P o ks) ks turn (inl (o, refl)) once every p may xs
    (read_leaves may (P o ks) xs (any_order o ks turn xs p all)) all each
    (omega (arith, w.0, length_permutation ks turn p)) k.0 k.1 k.2))
    (row_or may turn xs all each)
every_by may _ _ (forward v ks xs m all) b once three every =
    let w = branching-Q v ks b in
    ⊎_elim
    (λ zs. absurd (leaf_row (Q v ks) v zs.0 (ap (Q v) zs.1) once
    (omega (arith, three, ap length (leaves_Q v ks ∙ ap all_leaves zs.1 ∙ row-leaves_are zs.0))) every))
    (λ k. absurd (big_row (Q v ks) ks ks (inr (v, refl)) once every (IsPermutation-refl ks) may xs
    (read_leaves may (Q v ks) xs (forward v ks xs m all)) all (each_branches ks w.1) w.0 k.0 k.1 k.2))
    (row_or may ks xs all (each_branches ks w.1))
every_by may _ _ (backward v ks xs m all) b once three every =
    let w = branching-Q v ks b in
    let turn = IsPermutation-reverse ks in
    let each : (k : Node) → IsKid k (reverse ks) → is_branching k ≡ true =
    λ k h. each_branches ks w.1 k (kid-permuted k (reverse ks) ks (IsPermutation-sym ks (reverse ks) turn) h)
    in
    ⊎_elim
    (λ zs.
    let is : ks ≡ map Leaf (reverse zs.0) = sym (reverse-reverse ks) ∙ ap reverse zs.1 ∙ sym (leaves-reverse zs.0) in
    absurd (leaf_row (Q v ks) v (reverse zs.0) (ap (Q v) is) once
    (omega (arith, three, ap length (leaves_Q v ks ∙ ap all_leaves is ∙ row-leaves_are (reverse zs.0)))) every))
    (λ k. absurd (big_row (Q v ks) ks (reverse ks) (inr (v, refl)) once every turn may xs
    (read_leaves may (Q v ks) xs (backward v ks xs m all)) all each
    (omega (arith, w.0, length_permutation ks (reverse ks) turn)) k.0 k.1 k.2))
    (row_or may (reverse ks) xs all each)

-- a tree of three leaves at least in its body that has every order is one P-node of leaves
pub every_order-IsSoleP : (tree : PQTree) → IsWellFormed tree → 3 ≤ length (leaves tree.body) → HasEveryOrder tree
    → (v : ℕ) × IsSoleP tree v
every_order-IsSoleP tree formed three has =
    let every : ReadsEvery tree.body = λ word p. let h = has word p in
    (given h.0, subst (Reads (given h.0) tree.body) (sym (ap (drop 1) h.1.order_is)) h.1.reads)
    in
    let r = every (leaves tree.body) (IsPermutation-refl (leaves tree.body)) in
    let w = every_by r.0 tree.body (leaves tree.body) r.1 formed.branching formed.distinct.1 three every in
    (w.0, (w.1, w.2))
