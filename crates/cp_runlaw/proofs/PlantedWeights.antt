-- Three to the degree, summed over the P-nodes of a shape that is more than a star, is less than three to the number
-- of its leaves and its root.
use Rattle.std.proofs.Common.{◌≡◌, ℕ, suc, ◌+◌, ◌*◌, ◌^◌, ◌<◌, ◌≤◌, Bool, true, false, not, ◌⊎◌, leb, List, [], ◌∷◌, ◌++◌, length, map, sym, refl, ap, ◌∙◌, subst, inl, inr, arith}
use Rattle.std.specs.Prelude.{◌&&◌}
use Rattle.std.specs.List.{flat_map, list_all, sum_by, zip}
use Rattle.std.proofs.lemmas.Bool.{and_parts, leb-true}
use Rattle.std.proofs.lemmas.List.{length-append, length-map}
use Rattle.std.proofs.lemmas.List.Elements.{filter-append}
use Rattle.std.proofs.lemmas.List.Sorted.{length_permutation}
use Rattle.std.proofs.lemmas.List.Sums.{sum_by-cons, sum_by-append}
use Rattle.std.proofs.lemmas.Slice.Zip.{length-zip}
use Rattle.cp_base.specs.declared.shape.Branch.{Branch}
use Rattle.cp_base.specs.declared.shape.Branch.TheVariants.{Leaf, P, Q, rolls-P}
use Rattle.cp_base.specs.declared.shape.Branch.TheOpen.{Branch-F}
use Rattle.cp_base.specs.declared.shape.Branch.TheFolds.{fold-roll-Branch}
use Rattle.cp_base.specs.Shapes.{leaves, branches, branches_step, IsStar}
use Rattle.cp_board.specs.declared.parts.Pipe.{Pipe}
use Rattle.cp_board.specs.Steps.{degree}
use Rattle.cp_board.specs.Changes.{pairs_by_first}
use Rattle.cp_board.specs.Plantings.{Planted, Plants, PlantsAll, free_nodes}
use Rattle.cp_board.specs.Propagations.{node_pipes}
use Rattle.cp_board.proofs.NamedLists.{by_name_keeps}
use Rattle.cp_board.proofs.ShapeEquations.{leaves_Leaf, leaves_P, leaves_Q, branches_Q}
use Rattle.cp_runlaw.proofs.Powers.{three_more, three_le, three_pos, thrice_powers}

-- the sum of three to the degree over the P-nodes
abbrev pub node_weight : List Planted → ℕ
node_weight rows = sum_by (λ (r : Planted). 3 ^ length r.edges) (free_nodes rows)

-- of the nodes of two lists it is the sum of both
node_weight-append : (rows more : List Planted) → node_weight (rows ++ more) ≡ node_weight rows + node_weight more
node_weight-append rows more =
    ap (sum_by (λ (r : Planted). 3 ^ length r.edges)) (filter-append (λ (r : Planted). not r.fixed) rows more)
    ∙ sum_by-append (λ (r : Planted). 3 ^ length r.edges) (free_nodes rows) (free_nodes more)

-- a test passes all items where its values at them are all true
list_all-values : (ks : List Branch) → list_all (λ b. b) (map branches ks) ≡ list_all branches ks
list_all-values [] = refl
list_all-values (k ∷ ks) = ap (λ z. branches k && z) (list_all-values ks)

-- the inner nodes of a P-node have at least two kids if it has and those of its kids have
branches_P : (ks : List Branch) → branches (P ks) ≡ (leb 2 (length ks) && list_all branches ks)
unfolding branches
branches_P ks = ap branches (sym (rolls-P ks)) ∙ fold-roll-Branch Bool branches_step (Branch-F.P ks)
    ∙ ap (λ n. leb 2 n && list_all (λ b. b) (map branches ks)) (length-map ks branches)
    ∙ ap (λ z. leb 2 (length ks) && z) (list_all-values ks)

-- a weight w is 0, or at most three times three to n, which is at least 2
abbrev IsBounded : ℕ → ℕ → Type 0
IsBounded n w = (w ≡ 0) ⊎ ((2 ≤ n) × (w ≤ 3 * 3 ^ n))

-- what holds of a branch with n leaves and the weight w
record HasWeight (b : Branch) (n w : ℕ) : Type 0 where
  some : 1 ≤ n
  leaf : ((x : ℕ) × (b ≡ Leaf x) × (w ≡ 0)) ⊎ (2 ≤ n)
  bounded : IsBounded n w
  less : ¬ IsStar b → w < 3 * 3 ^ n

-- what holds of kids with n leaves and the weight w
record HaveWeight (ks : List Branch) (n w : ℕ) : Type 0 where
  some : length ks ≤ n
  empty : length ks ≡ 0 → (n ≡ 0) × (w ≡ 0)
  leafy : ((xs : List ℕ) × (ks ≡ map Leaf xs) × (w ≡ 0)) ⊎ (length ks + 1 ≤ n)
  bounded : IsBounded n w
  small : 2 ≤ length ks → w ≤ 3 ^ n

-- two weights that are bounded add up to at most three to the sum of the numbers
small_sum : (n m v w : ℕ) → 1 ≤ n → 1 ≤ m → IsBounded n v → IsBounded m w → v + w ≤ 3 ^ (n + m)
small_sum n m v w pn pm (inl hv) (inl hw) = omega arith
small_sum n m v w pn pm (inl hv) (inr hw) =
    let le = three_le (m + 1) (n + m) (omega arith) in
    let more = three_more m (m + 1) refl in
    omega (arith, le, more, hw.1)
small_sum n m v w pn pm (inr hv) (inl hw) =
    let le = three_le (n + 1) (n + m) (omega arith) in
    let more = three_more n (n + 1) refl in
    omega (arith, le, more, hv.1)
small_sum n m v w pn pm (inr hv) (inr hw) =
    let le = thrice_powers n m hv.0 hw.0 in
    omega (arith, le, hv.1, hw.1)

-- whether all kids are leaves, where there is one more
leafy_more : (k : Branch) (ks : List Branch) (n m v w : ℕ) → 1 ≤ n → length ks ≤ m
    → ((x : ℕ) × (k ≡ Leaf x) × (v ≡ 0)) ⊎ (2 ≤ n)
    → ((xs : List ℕ) × (ks ≡ map Leaf xs) × (w ≡ 0)) ⊎ (length ks + 1 ≤ m)
    → ((xs : List ℕ) × ((k ∷ ks) ≡ map Leaf xs) × (v + w ≡ 0)) ⊎ (length (k ∷ ks) + 1 ≤ n + m)
leafy_more k ks n m v w pn pm (inl (x, e, hv)) (inl (xs, es, hw)) =
    inl (x ∷ xs, ap (λ z. z ∷ ks) e ∙ ap (λ zs. Leaf x ∷ zs) es, omega arith)
leafy_more k ks n m v w pn pm (inl h) (inr lt) = inr (omega arith)
leafy_more k ks n m v w pn pm (inr two) h = inr (omega arith)

-- no kids
no_kids : HaveWeight [] 0 0
no_kids = record {
  some = omega arith;
  empty = λ e. (refl, refl);
  leafy = inl ([], refl, refl);
  bounded = inl refl;
  small = λ two. absurd (omega arith);
}

-- one more kid
more_kids : (k : Branch) (ks : List Branch) (n m v w : ℕ) → HasWeight k n v → HaveWeight ks m w
    → HaveWeight (k ∷ ks) (n + m) (v + w)
more_kids k [] n m v w one rest =
    let none = rest.empty refl in
    let nm : n ≡ n + m = omega (arith, none.0) in
    let vw : v ≡ v + w = omega (arith, none.1) in
    record {
      some = let s : 1 ≤ n = one.some in omega (arith, s);
      empty = λ e. absurd (omega arith);
      leafy = leafy_more k [] n m v w one.some rest.some one.leaf rest.leafy;
      bounded = subst (λ z. IsBounded z (v + w)) nm (subst (IsBounded n) vw one.bounded);
      small = λ two. absurd (omega arith);
    }
more_kids k (l ∷ ks) n m v w one rest =
    let some : 1 ≤ m = let s : length (l ∷ ks) ≤ m = rest.some in omega (arith, s) in
    let first : 1 ≤ n = one.some in
    let small : v + w ≤ 3 ^ (n + m) = small_sum n m v w first some one.bounded rest.bounded in
    record {
      some = let s : length (l ∷ ks) ≤ m = rest.some in omega (arith, s, first);
      empty = λ e. absurd (omega arith);
      leafy = leafy_more k (l ∷ ks) n m v w one.some rest.some one.leaf rest.leafy;
      bounded = inr (omega (arith, some, first), omega (arith, small));
      small = λ two. small;
    }

-- a leaf has no weight
leaf_weight : (x : ℕ) → HasWeight (Leaf x) 1 0
leaf_weight x = record { some = omega arith; leaf = inl (x, refl, refl); bounded = inl refl; less = λ h. omega arith }

-- a P-node
free_weight : (ks : List Branch) (n w : ℕ) → 2 ≤ length ks → HaveWeight ks n w
    → HasWeight (P ks) n (3 * 3 ^ length ks + w)
free_weight ks n w two kids = record {
  some = omega (arith, some);
  leaf = inr (omega (arith, some));
  bounded = inr (omega (arith, some), at_most kids.leafy);
  less = less_of kids.leafy;
}
  where
    some : length ks ≤ n
    some = kids.some

    at_most : ((xs : List ℕ) × (ks ≡ map Leaf xs) × (w ≡ 0)) ⊎ (length ks + 1 ≤ n) → 3 * 3 ^ length ks + w ≤ 3 * 3 ^ n
    at_most (inl (xs, e, none)) = let le = three_le (length ks) n some in omega (arith, le, none)
    at_most (inr lt) =
        let le = three_le (length ks + 1) n lt in
        let more = three_more (length ks) (length ks + 1) refl in
        let small = kids.small two in
        omega (arith, le, more, small)

    less_of : ((xs : List ℕ) × (ks ≡ map Leaf xs) × (w ≡ 0)) ⊎ (length ks + 1 ≤ n) → ¬ IsStar (P ks)
        → 3 * 3 ^ length ks + w < 3 * 3 ^ n
    less_of (inl (xs, e, none)) no_star = absurd (no_star (xs, ap P e))
    less_of (inr lt) no_star =
        let le = three_le (length ks + 1) n lt in
        let more = three_more (length ks) (length ks + 1) refl in
        let small = kids.small two in
        let pos = three_pos n in
        omega (arith, le, more, small, pos)

-- a Q-node
fixed_weight : (ks : List Branch) (n w : ℕ) → 2 ≤ length ks → HaveWeight ks n w → HasWeight (Q ks) n w
fixed_weight ks n w two kids =
    let some : length ks ≤ n = kids.some in
    let small : w ≤ 3 ^ n = kids.small two in
    let pos = three_pos n in
    record {
      some = omega (arith, some);
      leaf = inr (omega (arith, some));
      bounded = inr (omega (arith, some), omega (arith, small));
      less = λ no_star. omega (arith, small, pos);
    }

-- there is one edge from above for each kid
length-tops : (f : ℕ → ℕ) (ks : List Branch) (tops vs es : List ℕ) (rows : List Planted)
    → PlantsAll f ks tops vs es rows → length tops ≡ length ks
length-tops f _ _ _ _ _ PlantsAll.none = refl
length-tops f _ _ _ _ _ (PlantsAll.more k ks top tops us vs ds es rows more_rows one rest) =
    ap suc (length-tops f ks tops vs es more_rows rest)

-- the weight of what a branch is planted as
mutual
  planted_weight : (f : ℕ → ℕ) (b : Branch) (top : ℕ) (vs es : List ℕ) (rows : List Planted)
      → Plants f b top vs es rows → branches b ≡ true → HasWeight b (length (leaves b)) (node_weight rows)
  planted_weight f _ _ _ _ _ (Plants.leaf x) t =
      subst (λ n. HasWeight (Leaf x) n 0) (sym (ap length (leaves_Leaf x))) (leaf_weight x)
  planted_weight f _ _ _ _ _ (Plants.free kids top v tops vs es rows all) t =
      let h = and_parts (leb 2 (length kids)) (list_all branches kids) (sym (branches_P kids) ∙ t) in
      let two : 2 ≤ length kids = leb-true 2 (length kids) h.0 in
      let row : Planted = record { vertex = v; fixed = false; edges = top ∷ tops } in
      let size = length-tops f kids tops vs es rows all in
      let more = three_more (length kids) (length (top ∷ tops)) (omega (arith, size)) in
      let same : 3 * 3 ^ length kids + node_weight rows ≡ node_weight (row ∷ rows) =
      omega (arith, more, sum_by-cons (λ (r : Planted). 3 ^ length r.edges) row (free_nodes rows)) in
      subst (λ n. HasWeight (P kids) n (node_weight (row ∷ rows))) (sym (ap length (leaves_P kids)))
      (subst (HasWeight (P kids) (length (flat_map leaves kids))) same
      (free_weight kids (length (flat_map leaves kids)) (node_weight rows) two
      (kids_weight f kids tops vs es rows all h.1)))
  planted_weight f _ _ _ _ _ (Plants.fixed kids top v tops vs es rows all) t =
      let h = and_parts (leb 2 (length kids)) (list_all branches kids) (sym (branches_Q kids) ∙ t) in
      let two : 2 ≤ length kids = leb-true 2 (length kids) h.0 in
      subst (λ n. HasWeight (Q kids) n (node_weight rows)) (sym (ap length (leaves_Q kids)))
      (fixed_weight kids (length (flat_map leaves kids)) (node_weight rows) two
      (kids_weight f kids tops vs es rows all h.1))

  kids_weight : (f : ℕ → ℕ) (ks : List Branch) (tops vs es : List ℕ) (rows : List Planted)
      → PlantsAll f ks tops vs es rows → list_all branches ks ≡ true
      → HaveWeight ks (length (flat_map leaves ks)) (node_weight rows)
  kids_weight f _ _ _ _ _ PlantsAll.none t = no_kids
  kids_weight f _ _ _ _ _ (PlantsAll.more k ks top tops us vs ds es rows more_rows one rest) t =
      let h = and_parts (branches k) (list_all branches ks) t in
      let g = planted_weight f k top us ds rows one h.0 in
      let r = kids_weight f ks tops vs es more_rows rest h.1 in
      subst (λ n. HaveWeight (k ∷ ks) n (node_weight (rows ++ more_rows)))
      (sym (length-append (leaves k) (flat_map leaves ks)))
      (subst (HaveWeight (k ∷ ks) (length (leaves k) + length (flat_map leaves ks)))
      (sym (node_weight-append rows more_rows))
      (more_kids k ks (length (leaves k)) (length (flat_map leaves ks)) (node_weight rows) (node_weight more_rows) g r))

-- the weight of a shape that is more than a star is less than three to the number of its leaves and its root
pub planted_less : (f : ℕ → ℕ) (b : Branch) (top : ℕ) (vs es : List ℕ) (rows : List Planted)
    → Plants f b top vs es rows → branches b ≡ true → ¬ IsStar b
    → node_weight rows < 3 * 3 ^ length (leaves b)
planted_less f b top vs es rows plants t no_star = (planted_weight f b top vs es rows plants t).less no_star

-- the pipes of nodes have no more than the weight of the nodes of the first end
pub node_pipes_le : (names : List ℕ) (us ws : List Planted)
    → sum_by (λ (p : Pipe). 3 ^ degree p) (node_pipes names us ws)
    ≤ sum_by (λ (r : Planted). 3 ^ length r.edges) us
node_pipes_le [] us ws = omega arith
node_pipes_le (n ∷ ns) [] ws = omega arith
node_pipes_le (n ∷ ns) (u ∷ us) [] = omega arith
node_pipes_le (n ∷ ns) (u ∷ us) (w ∷ ws) =
    let r = node_pipes_le ns us ws in
    let pairs : List (ℕ × ℕ) = zip u.edges w.edges in
    let size : length (pairs_by_first pairs) ≡ length pairs =
    length_permutation pairs (pairs_by_first pairs) (by_name_keeps (λ x. x.0) pairs) in
    let le : 3 ^ length (pairs_by_first pairs) ≤ 3 ^ length u.edges =
    three_le (length (pairs_by_first pairs)) (length u.edges) (omega (arith, size, length-zip u.edges w.edges)) in
    let p : Pipe = record { name = n; a = u.vertex; b = w.vertex; pairs = pairs_by_first pairs } in
    omega (
      arith,
      r,
      le,
      sum_by-cons (λ (p : Pipe). 3 ^ degree p) p (node_pipes ns us ws),
      sum_by-cons
          (λ (r : Planted). 3 ^ length r.edges) u us,
    )
