-- A shape that is planted twice, with an order of the edges of each planted row that is allowed: the two trees with
-- these orders, which are read from the shape.
use Rattle.std.proofs.Common.{◌≡◌, ℕ, suc, Bool, false, true, List, [], ◌∷◌, ◌++◌, length, map, reverse, sym, refl, ap, ap₂, ◌∙◌, subst, subst₂, ⊎_elim, arith, IsPermutation}
use Rattle.std.specs.List.{AllZip}
use Rattle.std.proofs.lemmas.List.Sorted.{IsPermutation-refl, IsPermutation-reverse}
use Rattle.cp_base.specs.declared.shape.Branch.{Branch}
use Rattle.cp_base.specs.declared.shape.Branch.TheVariants.{Leaf, P, Q}
use Rattle.cp_base.specs.Shapes.{Reads, ReadsAll}
use Rattle.cp_board.specs.Plantings.{Planted, Plants, PlantsAll}
use Rattle.cp_plantlaw.specs.NamedTrees.{PairedRow, node_row, word, first}
use Rattle.cp_plantlaw.proofs.BranchLayers.{IsPlantedNode, PlantsLayer, ReadsAll-from, out_Leaf, out_P, out_Q, planted_kids, planted_layer}
use Rattle.cp_plantlaw.proofs.LaidTrees.{IsAllowed, Kid, KidsLaid, kid_tops, kid_word, kids-KidsLaid, kids_of, leaf-KidsLaid, no_kids-KidsLaid, node-KidsLaid, word-kids_of}
use Rattle.cp_plantlaw.proofs.PermutedRows.{map-reverse, permuted_images, zip_join, zip_permuted, zip_reversed}
use Rattle.cp_plantlaw.proofs.ReadTrees.{flat_map-flat}

-- rows that stand with images
zip_mapped : {A B C : Type 0} (R : A → C → Type 0) (f : B → C) (xs : List A) (ys : List B)
    → AllZip (λ x y. R x (f y)) xs ys → AllZip R xs (map f ys)
zip_mapped R f [] [] z = tt
zip_mapped R f [] (y ∷ ys) z = absurd z
zip_mapped R f (x ∷ xs) [] z = absurd z
zip_mapped R f (x ∷ xs) (y ∷ ys) z = (z.0, zip_mapped R f xs ys z.1)

-- rows that stand place by place, cut at one place
zip_parts : {A B : Type 0} (R : A → B → Type 0) (hs cs : List A) (bs ds : List B) → length hs ≡ length bs
    → AllZip R (hs ++ cs) (bs ++ ds) → AllZip R hs bs × AllZip R cs ds
zip_parts R [] cs [] ds e z = (tt, z)
zip_parts R [] cs (b ∷ bs) ds e z = absurd (omega (arith, e))
zip_parts R (a ∷ hs) cs [] ds e z = absurd (omega (arith, e))
zip_parts R (a ∷ hs) cs (b ∷ bs) ds e z =
    let h = zip_parts R hs cs bs ds (omega (arith, e)) z.1 in ((z.0, h.0), h.1)

-- two rows of one kind and with as many edges
abbrev pub HaveOneForm : Planted → Planted → Type 0
HaveOneForm a b = (b.fixed ≡ a.fixed) × (length b.edges ≡ length a.edges)

-- rows that stand place by place are as many
pub zip_length : {A B : Type 0} (R : A → B → Type 0) (xs : List A) (ys : List B) → AllZip R xs ys
    → length xs ≡ length ys
zip_length R [] [] z = refl
zip_length R [] (y ∷ ys) z = absurd z
zip_length R (x ∷ xs) [] z = absurd z
zip_length R (x ∷ xs) (y ∷ ys) z = ap suc (zip_length R xs ys z.1)

-- a branch has rows of one form however it is planted
mutual
  pub planted-HaveOneForm : (f h : ℕ → ℕ) (b : Branch) (top : ℕ) (vs es : List ℕ) (hs : List Planted) (u : ℕ)
      (ws ds : List ℕ) (bs : List Planted) → Plants f b top vs es hs → Plants h b u ws ds bs → AllZip HaveOneForm hs bs
  planted-HaveOneForm f h _ _ _ _ _ u ws ds bs (Plants.leaf x) other =
      let l = subst (λ z. PlantsLayer h z u ws ds bs) (out_Leaf x) (planted_layer h (Leaf x) u ws ds bs other) in
      subst (AllZip HaveOneForm []) (sym l.no_row) tt
  planted-HaveOneForm f h _ _ _ _ _ u ws ds bs (Plants.free kids top v tops vs es hs all) other =
      let l : IsPlantedNode h false kids u ws ds bs =
      subst (λ z. PlantsLayer h z u ws ds bs) (out_P kids) (planted_layer h (P kids) u ws ds bs other) in
      let k = kids-HaveOneForm f h kids tops vs es hs l.tops l.verts l.edges l.below all l.kids_planted in
      subst (AllZip HaveOneForm (record { vertex = v; fixed = false; edges = top ∷ tops } ∷ hs)) (sym l.same_rows)
      ((refl, ap suc k.1), k.0)
  planted-HaveOneForm f h _ _ _ _ _ u ws ds bs (Plants.fixed kids top v tops vs es hs all) other =
      let l : IsPlantedNode h true kids u ws ds bs =
      subst (λ z. PlantsLayer h z u ws ds bs) (out_Q kids) (planted_layer h (Q kids) u ws ds bs other) in
      let k = kids-HaveOneForm f h kids tops vs es hs l.tops l.verts l.edges l.below all l.kids_planted in
      subst (AllZip HaveOneForm (record { vertex = v; fixed = true; edges = top ∷ tops } ∷ hs)) (sym l.same_rows)
      ((refl, ap suc k.1), k.0)

  -- the same of the kids of a node
  kids-HaveOneForm : (f h : ℕ → ℕ) (kids : List Branch) (tops vs es : List ℕ) (hs : List Planted) (us ws ds : List ℕ)
      (bs : List Planted) → PlantsAll f kids tops vs es hs → PlantsAll h kids us ws ds bs
      → AllZip HaveOneForm hs bs × (length us ≡ length tops)
  kids-HaveOneForm f h _ _ _ _ _ us ws ds bs PlantsAll.none other =
      let l = planted_kids h [] us ws ds bs other in (subst (AllZip HaveOneForm []) (sym l.3) tt, ap length l.0)
  kids-HaveOneForm f h _ _ _ _ _ us ws ds bs (PlantsAll.more k ks top tops vs1 vs2 es1 es2 hs cs one rest) other =
      let l = planted_kids h (k ∷ ks) us ws ds bs other in
      let here = planted-HaveOneForm f h k top vs1 es1 hs l.top l.verts l.edges l.below one l.one in
      let behind = kids-HaveOneForm f h ks tops vs2 es2 cs l.others l.other_verts l.other_edges
      l.other_rows rest l.rest in (
        subst (AllZip HaveOneForm (hs ++ cs)) (sym l.same_rows)
            (zip_join HaveOneForm hs cs l.below l.other_rows here behind.0),
        ap length l.same_tops ∙ ap suc behind.1,
      )

module _ (partner : ℕ → ℕ) (good : PairedRow → Type 0) where
  -- two rows of one place have an order of their edges that is allowed, and a row with it is good
  abbrev pub HaveOrder : Planted → Planted → Type 0
  HaveOrder a b = (top : ℕ × ℕ) (kids : List (ℕ × ℕ))
      → a.edges ≡ top.0 ∷ map (λ k. k.0) kids
      → b.edges ≡ top.1 ∷ map (λ k. k.1) kids
      → (order : List (ℕ × ℕ)) × IsAllowed partner a.fixed kids order
      × good (node_row partner (a.vertex, b.vertex) top order)

  -- a branch that is planted below the edges `tops` as the rows as and bs, as a kid of two trees with these orders
  pub record ToldAs (b : Branch) (tops : ℕ × ℕ) (hs bs : List Planted) : Type 0 where
    pub kid : Kid
    pub same_tops : kid_tops partner kid ≡ tops
    pub reads : Reads b (kid_word kid)
    pub laid : KidsLaid partner good (kid ∷ []) hs bs

  -- some branches, in their order
  pub record AllToldAs (branches : List Branch) (tops us : List ℕ) (hs bs : List Planted) : Type 0 where
    pub kids : List Kid
    pub first_tops : map (λ k. k.0) (map (kid_tops partner) kids) ≡ tops
    pub second_tops : map (λ k. k.1) (map (kid_tops partner) kids) ≡ us
    pub reads : AllZip (λ b k. Reads b (kid_word k)) branches kids
    pub laid : KidsLaid partner good kids hs bs

  -- a node whose kids stand in an order that is allowed
  node_laid : (fixed : Bool) (v g : ℕ × ℕ) (branches : List Branch) (tops us : List ℕ) (hs bs : List Planted)
      → (all : AllToldAs branches tops us hs bs)
      → (ks : List Kid) → IsPermutation all.kids ks
      → IsAllowed partner fixed (map (kid_tops partner) all.kids) (map (kid_tops partner) ks)
      → good (node_row partner v g (map (kid_tops partner) ks))
      → KidsLaid partner good (Kid.node v g (kids_of ks) ∷ [])
      (record { vertex = v.0; fixed = fixed; edges = g.0 ∷ tops } ∷ hs)
      (record { vertex = v.1; fixed = fixed; edges = g.1 ∷ us } ∷ bs)
  node_laid fixed v g branches tops us hs bs all ks p allowed is_good =
      subst₂ (λ xs ys. KidsLaid partner good (Kid.node v g (kids_of ks) ∷ [])
      (record { vertex = v.0; fixed = fixed; edges = g.0 ∷ xs } ∷ hs)
      (record { vertex = v.1; fixed = fixed; edges = g.1 ∷ ys } ∷ bs))
      all.first_tops all.second_tops
      (node-KidsLaid partner good fixed v g all.kids ks hs bs all.laid p allowed is_good)

  -- the order of the row of a node
  node_order : (fixed : Bool) (v g : ℕ × ℕ) (branches : List Branch) (tops us : List ℕ) (hs bs : List Planted)
      → (all : AllToldAs branches tops us hs bs)
      → HaveOrder (record { vertex = v.0; fixed = fixed; edges = g.0 ∷ tops })
      (record { vertex = v.1; fixed = fixed; edges = g.1 ∷ us })
      → (order : List (ℕ × ℕ)) × IsAllowed partner fixed (map (kid_tops partner) all.kids) order
      × good (node_row partner v g order)
  node_order fixed v g branches tops us hs bs all told =
      told g (map (kid_tops partner) all.kids) (ap (λ zs. g.0 ∷ zs) (sym all.first_tops))
      (ap (λ zs. g.1 ∷ zs) (sym all.second_tops))

  -- what is read of kids is the word of their tree
  reads_word : (branches : List Branch) (ks : List Kid) → AllZip (λ b k. Reads b (kid_word k)) branches ks
      → ReadsAll branches (word (first (kids_of ks)))
  reads_word branches ks reads =
      subst (ReadsAll branches) (sym (word-kids_of ks ∙ flat_map-flat kid_word ks))
      (ReadsAll-from branches (map kid_word ks) (zip_mapped Reads kid_word branches ks reads))

  -- a P-node
  free_told : (v g : ℕ × ℕ) (branches : List Branch) (tops us : List ℕ) (hs bs : List Planted)
      → AllToldAs branches tops us hs bs
      → HaveOrder (record { vertex = v.0; fixed = false; edges = g.0 ∷ tops })
      (record { vertex = v.1; fixed = false; edges = g.1 ∷ us })
      → ToldAs (P branches) g
      (record { vertex = v.0; fixed = false; edges = g.0 ∷ tops } ∷ hs)
      (record { vertex = v.1; fixed = false; edges = g.1 ∷ us } ∷ bs)
  free_told v g branches tops us hs bs all told =
      let h = node_order false v g branches tops us hs bs all told in
      let ks = permuted_images (kid_tops partner) all.kids h.0 h.1.permuted in
      let br = zip_permuted (λ b k. Reads b (kid_word k)) all.kids ks.0 ks.1 branches all.reads in
      record {
        kid = Kid.node v g (kids_of ks.0);
        same_tops = refl;
        reads = Reads.any_order branches br.0 (word (first (kids_of ks.0))) br.1 (reads_word br.0 ks.0 br.2);
        laid = node_laid false v g branches tops us hs bs all ks.0 ks.1
            (subst (IsAllowed partner false (map (kid_tops partner) all.kids)) (sym ks.2) h.1)
            (subst (λ zs. good (node_row partner v g zs)) (sym ks.2) h.2);
      }

  -- a Q-node
  fixed_told : (v g : ℕ × ℕ) (branches : List Branch) (tops us : List ℕ) (hs bs : List Planted)
      → AllToldAs branches tops us hs bs
      → HaveOrder (record { vertex = v.0; fixed = true; edges = g.0 ∷ tops })
      (record { vertex = v.1; fixed = true; edges = g.1 ∷ us })
      → ToldAs (Q branches) g
      (record { vertex = v.0; fixed = true; edges = g.0 ∷ tops } ∷ hs)
      (record { vertex = v.1; fixed = true; edges = g.1 ∷ us } ∷ bs)
  fixed_told v g branches tops us hs bs all told =
      let h = node_order true v g branches tops us hs bs all told in
      ⊎_elim
      (λ same. record {
        kid = Kid.node v g (kids_of all.kids);
        same_tops = refl;
        reads = Reads.forward branches (word (first (kids_of all.kids))) (reads_word branches all.kids all.reads);
        laid = node_laid true v g branches tops us hs bs all all.kids (IsPermutation-refl all.kids)
            (subst (IsAllowed partner true (map (kid_tops partner) all.kids)) same h.1)
            (subst (λ zs. good (node_row partner v g zs)) same h.2);
      })
      (λ back.
      let same : h.0 ≡ map (kid_tops partner) (reverse all.kids) = back ∙ sym
      (map-reverse (kid_tops partner) all.kids) in
      record {
        kid = Kid.node v g (kids_of (reverse all.kids));
        same_tops = refl;
        reads = Reads.backward branches (word (first (kids_of (reverse all.kids))))
            (reads_word (reverse branches) (reverse all.kids)
            (zip_reversed (λ b k. Reads b (kid_word k)) branches all.kids all.reads));
        laid = node_laid true v g branches tops us hs bs all (reverse all.kids) (IsPermutation-reverse all.kids)
            (subst (IsAllowed partner true (map (kid_tops partner) all.kids)) same h.1)
            (subst (λ zs. good (node_row partner v g zs)) same h.2);
      })
      (h.1.kept refl)

  mutual
    -- a branch that is planted twice, whose rows have such orders
    pub branch-ToldAs : (b : Branch) (top : ℕ) (vs es : List ℕ) (hs : List Planted) (u : ℕ) (ws ds : List ℕ)
        (bs : List Planted)
        → Plants (λ x. x) b top vs es hs
        → Plants partner b u ws ds bs
        → AllZip HaveOrder hs bs
        → ToldAs b (top, u) hs bs
    branch-ToldAs _ _ _ _ _ u ws ds bs (Plants.leaf x) other told =
        let l = subst (λ z. PlantsLayer partner z u ws ds bs) (out_Leaf x)
        (planted_layer partner (Leaf x) u ws ds bs other) in
        record {
          kid = Kid.leaf x;
          same_tops = ap (λ z. (x, z)) (sym l.same_top);
          reads = Reads.leaf x;
          laid = subst (KidsLaid partner good (Kid.leaf x ∷ []) []) (sym l.no_row) (leaf-KidsLaid partner good x);
        }
    branch-ToldAs _ _ _ _ _ u ws ds bs (Plants.free kids top v tops vs es hs all) other told =
        let l : IsPlantedNode partner false kids u ws ds bs =
        subst (λ z. PlantsLayer partner z u ws ds bs) (out_P kids) (planted_layer partner (P kids) u ws ds bs other) in
        let z = subst
        (AllZip HaveOrder (record { vertex = v; fixed = false; edges = top ∷ tops } ∷ hs)) l.same_rows told in
        subst (ToldAs (P kids) (top, u) (record { vertex = v; fixed = false; edges = top ∷ tops } ∷ hs))
        (sym l.same_rows)
        (free_told (v, l.vertex) (top, u) kids tops l.tops hs l.below
        (kids-AllToldAs kids tops vs es hs l.tops l.verts l.edges l.below all l.kids_planted z.1) z.0)
    branch-ToldAs _ _ _ _ _ u ws ds bs (Plants.fixed kids top v tops vs es hs all) other told =
        let l : IsPlantedNode partner true kids u ws ds bs =
        subst (λ z. PlantsLayer partner z u ws ds bs) (out_Q kids) (planted_layer partner (Q kids) u ws ds bs other) in
        let z = subst
        (AllZip HaveOrder (record { vertex = v; fixed = true; edges = top ∷ tops } ∷ hs)) l.same_rows told in
        subst (ToldAs (Q kids) (top, u) (record { vertex = v; fixed = true; edges = top ∷ tops } ∷ hs))
        (sym l.same_rows)
        (fixed_told (v, l.vertex) (top, u) kids tops l.tops hs l.below
        (kids-AllToldAs kids tops vs es hs l.tops l.verts l.edges l.below all l.kids_planted z.1) z.0)

    -- the kids of a node
    kids-AllToldAs : (kids : List Branch) (tops vs es : List ℕ) (hs : List Planted) (us ws ds : List ℕ)
        (bs : List Planted)
        → PlantsAll (λ x. x) kids tops vs es hs
        → PlantsAll partner kids us ws ds bs
        → AllZip HaveOrder hs bs
        → AllToldAs kids tops us hs bs
    kids-AllToldAs _ _ _ _ _ us ws ds bs PlantsAll.none other told =
        let l = planted_kids partner [] us ws ds bs other in
        record {
          kids = [];
          first_tops = refl;
          second_tops = sym l.0;
          reads = tt;
          laid = subst (KidsLaid partner good [] []) (sym l.3) (no_kids-KidsLaid partner good);
        }
    kids-AllToldAs _ _ _ _ _ us ws ds bs (PlantsAll.more k ks top tops vs1 vs2 es1 es2 hs cs one rest) other told =
        let l = planted_kids partner (k ∷ ks) us ws ds bs other in
        let z = zip_parts HaveOrder hs cs l.below l.other_rows
        (zip_length HaveOneForm hs l.below
        (planted-HaveOneForm (λ x. x) partner k top vs1 es1 hs l.top l.verts l.edges l.below one l.one))
        (subst (AllZip HaveOrder (hs ++ cs)) l.same_rows told) in
        let here = branch-ToldAs k top vs1 es1 hs l.top l.verts l.edges l.below one l.one z.0 in
        let behind = kids-AllToldAs ks tops vs2 es2 cs l.others l.other_verts l.other_edges
        l.other_rows rest l.rest z.1 in
        record {
          kids = here.kid ∷ behind.kids;
          first_tops = ap₂ (λ (y : ℕ) ys. y ∷ ys) (ap (λ (y : ℕ × ℕ). y.0) here.same_tops) behind.first_tops;
          second_tops = ap₂ (λ (y : ℕ) ys. y ∷ ys) (ap (λ (y : ℕ × ℕ). y.1) here.same_tops) behind.second_tops
              ∙ sym l.same_tops;
          reads = (here.reads, behind.reads);
          laid = subst (KidsLaid partner good (here.kid ∷ behind.kids) (hs ++ cs)) (sym l.same_rows)
              (kids-KidsLaid partner good here.kid behind.kids hs l.below cs l.other_rows here.laid behind.laid);
        }
