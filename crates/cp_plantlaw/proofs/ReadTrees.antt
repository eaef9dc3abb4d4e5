-- A shape that is planted twice and read: the two trees of this reading, laid on the planted rows.
use Rattle.std.proofs.Common.{◌≡◌, ◌⊎◌, ℕ, Bool, false, true, List, [], ◌∷◌, ◌++◌, map, reverse, sym, refl, ap, ap₂, ◌∙◌, subst, subst₂, inl, inr, ⊎_elim, IsPermutation}
use Rattle.std.specs.List.{AllZip, flat_map}
use Rattle.std.proofs.lemmas.Bool.{false≢true}
use Rattle.std.proofs.lemmas.List.{reverse-reverse}
use Rattle.std.proofs.lemmas.List.Sorted.{IsPermutation-map, IsPermutation-refl, IsPermutation-reverse, IsPermutation-sym}
use Rattle.cp_lists.specs.Rows.{flat}
use Rattle.cp_base.specs.declared.shape.Branch.{Branch}
use Rattle.cp_base.specs.declared.shape.Branch.TheVariants.{Leaf, P, Q}
use Rattle.cp_base.specs.Shapes.{Reads}
use Rattle.cp_board.specs.Plantings.{Planted, Plants, PlantsAll}
use Rattle.cp_plantlaw.specs.NamedTrees.{PairedRow}
use Rattle.cp_plantlaw.proofs.BranchLayers.{IsPlantedNode, PlantsLayer, ReadsKids, ReadsLayer, out_Leaf, out_P, out_Q, planted_kids, planted_layer, reads_layer}
use Rattle.cp_plantlaw.proofs.LaidTrees.{Kid, KidsLaid, kid_tops, kid_word, kids-KidsLaid, kids_of, leaf-KidsLaid, no_kids-KidsLaid, node-KidsLaid, word-kids_of}
use Rattle.cp_plantlaw.proofs.PermutedRows.{map-reverse, permuted_images, zip_flipped, zip_permuted, zip_reversed}

-- any row
abbrev pub any_row : PairedRow → Type 0
any_row r = Unit {0}

-- what is read of each item, one behind the other
pub flat_map-flat : {A : Type 0} (f : A → List ℕ) (xs : List A) → flat_map f xs ≡ flat (map f xs)
flat_map-flat f [] = refl
flat_map-flat f (x ∷ xs) = ap (λ zs. f x ++ zs) (flat_map-flat f xs)

module _ (partner : ℕ → ℕ) where
  -- a branch that is planted below the edges `tops` as the rows as and bs has these leaves as a kid of two trees
  pub record ReadsAs (tops : ℕ × ℕ) (xs : List ℕ) (hs bs : List Planted) : Type 0 where
    pub kid : Kid
    pub same_tops : kid_tops partner kid ≡ tops
    pub same_word : kid_word kid ≡ xs
    pub laid : KidsLaid partner any_row (kid ∷ []) hs bs

  -- some branches, in their order
  pub record AllReadAs (tops us : List ℕ) (words : List (List ℕ)) (hs bs : List Planted) : Type 0 where
    pub kids : List Kid
    pub first_tops : map (λ k. k.0) (map (kid_tops partner) kids) ≡ tops
    pub second_tops : map (λ k. k.1) (map (kid_tops partner) kids) ≡ us
    pub same_words : map kid_word kids ≡ words
    pub laid : KidsLaid partner any_row kids hs bs

  -- the kids of a node in an order that is allowed
  node_reads : (fixed : Bool) (v g : ℕ × ℕ) (tops us : List ℕ) (words order : List (List ℕ)) (hs bs : List Planted)
      → (all : AllReadAs tops us words hs bs)
      → (ks : List Kid) → IsPermutation all.kids ks → map kid_word ks ≡ order
      → (fixed ≡ true → (ks ≡ all.kids) ⊎ (ks ≡ reverse all.kids))
      → ReadsAs g (flat order)
      (record { vertex = v.0; fixed = fixed; edges = g.0 ∷ tops } ∷ hs)
      (record { vertex = v.1; fixed = fixed; edges = g.1 ∷ us } ∷ bs)
  node_reads fixed v g tops us words order hs bs all ks p same kept = record {
    kid = Kid.node v g (kids_of ks);
    same_tops = refl;
    same_word = word-kids_of ks ∙ flat_map-flat kid_word ks ∙ ap flat same;
    laid = subst₂ (λ xs ys. KidsLaid partner any_row (Kid.node v g (kids_of ks) ∷ [])
        (record { vertex = v.0; fixed = fixed; edges = g.0 ∷ xs } ∷ hs)
        (record { vertex = v.1; fixed = fixed; edges = g.1 ∷ ys } ∷ bs))
        all.first_tops all.second_tops
        (node-KidsLaid partner any_row fixed v g all.kids ks hs bs all.laid p
        (record {
          permuted = IsPermutation-map (kid_tops partner) all.kids ks p;
          kept = λ t. ⊎_elim
              (λ e. inl (ap (map (kid_tops partner)) e))
              (λ e. inr (ap (map (kid_tops partner)) e ∙ map-reverse (kid_tops partner) all.kids))
              (kept t);
        }) tt);
  }

  -- the kids in the order of a reading of a P-node
  free_reads : (v g : ℕ × ℕ) (tops us : List ℕ) (kids order : List Branch) (xs : List ℕ) (hs bs : List Planted)
      → IsPermutation kids order
      → ReadsKids order xs
      → ((words : List (List ℕ)) → AllZip Reads kids words → AllReadAs tops us words hs bs)
      → ReadsAs g xs
      (record { vertex = v.0; fixed = false; edges = g.0 ∷ tops } ∷ hs)
      (record { vertex = v.1; fixed = false; edges = g.1 ∷ us } ∷ bs)
  free_reads v g tops us kids order xs hs bs p reads below =
      let w = zip_permuted (λ (ys : List ℕ) (b : Branch). Reads b ys) order kids
      (IsPermutation-sym kids order p) reads.0
      (zip_flipped Reads order reads.0 reads.1) in
      let all = below w.0 (zip_flipped (λ (ys : List ℕ) (b : Branch). Reads b ys) w.0 kids w.2) in
      let ks = permuted_images kid_word all.kids reads.0
      (subst (λ zs. IsPermutation zs reads.0) (sym all.same_words) (IsPermutation-sym reads.0 w.0 w.1)) in
      subst (λ zs. ReadsAs g zs
      (record { vertex = v.0; fixed = false; edges = g.0 ∷ tops } ∷ hs)
      (record { vertex = v.1; fixed = false; edges = g.1 ∷ us } ∷ bs)) reads.2
      (node_reads false v g tops us w.0 reads.0 hs bs all ks.0 ks.1 ks.2 (λ t. absurd (false≢true t)))

  -- the kids in the order of a reading of a Q-node
  fixed_reads : (v g : ℕ × ℕ) (tops us : List ℕ) (kids : List Branch) (xs : List ℕ) (hs bs : List Planted)
      → ReadsKids kids xs ⊎ ReadsKids (reverse kids) xs
      → ((words : List (List ℕ)) → AllZip Reads kids words → AllReadAs tops us words hs bs)
      → ReadsAs g xs
      (record { vertex = v.0; fixed = true; edges = g.0 ∷ tops } ∷ hs)
      (record { vertex = v.1; fixed = true; edges = g.1 ∷ us } ∷ bs)
  fixed_reads v g tops us kids xs hs bs reads below = ⊎_elim
      (λ (h : ReadsKids kids xs).
      let all = below h.0 h.1 in
      subst (λ zs. ReadsAs g zs
      (record { vertex = v.0; fixed = true; edges = g.0 ∷ tops } ∷ hs)
      (record { vertex = v.1; fixed = true; edges = g.1 ∷ us } ∷ bs)) h.2
      (node_reads true v g tops us h.0 h.0 hs bs all all.kids (IsPermutation-refl all.kids) all.same_words
      (λ t. inl refl)))
      (λ (h : ReadsKids (reverse kids) xs).
      let all = below (reverse h.0) (subst (λ zs. AllZip Reads zs (reverse h.0)) (reverse-reverse kids)
      (zip_reversed Reads (reverse kids) h.0 h.1)) in
      subst (λ zs. ReadsAs g zs
      (record { vertex = v.0; fixed = true; edges = g.0 ∷ tops } ∷ hs)
      (record { vertex = v.1; fixed = true; edges = g.1 ∷ us } ∷ bs)) h.2
      (node_reads true v g tops us (reverse h.0) h.0 hs bs all (reverse all.kids) (IsPermutation-reverse all.kids)
      (map-reverse kid_word all.kids ∙ ap reverse all.same_words ∙ reverse-reverse h.0)
      (λ t. inr refl)))
      reads

  mutual
    -- a branch that is planted twice and read
    pub branch-ReadsAs : (b : Branch) (top : ℕ) (vs es : List ℕ) (hs : List Planted) (u : ℕ) (ws ds : List ℕ)
        (bs : List Planted) (xs : List ℕ)
        → Plants (λ x. x) b top vs es hs
        → Plants partner b u ws ds bs
        → Reads b xs
        → ReadsAs (top, u) xs hs bs
    branch-ReadsAs _ _ _ _ _ u ws ds bs xs (Plants.leaf x) other reads =
        let l = subst (λ z. PlantsLayer partner z u ws ds bs) (out_Leaf x)
        (planted_layer partner (Leaf x) u ws ds bs other) in
        let e : xs ≡ x ∷ [] = subst (λ z. ReadsLayer z xs) (out_Leaf x) (reads_layer (Leaf x) xs reads) in
        record {
          kid = Kid.leaf x;
          same_tops = ap (λ z. (x, z)) (sym l.same_top);
          same_word = sym e;
          laid = subst (KidsLaid partner any_row (Kid.leaf x ∷ []) []) (sym l.no_row) (leaf-KidsLaid partner any_row x);
        }
    branch-ReadsAs _ _ _ _ _ u ws ds bs xs (Plants.free kids top v tops vs es hs all) other reads =
        let l : IsPlantedNode partner false kids u ws ds bs =
        subst (λ z. PlantsLayer partner z u ws ds bs) (out_P kids) (planted_layer partner (P kids) u ws ds bs other) in
        let r = subst (λ z. ReadsLayer z xs) (out_P kids) (reads_layer (P kids) xs reads) in
        subst (ReadsAs (top, u) xs (record { vertex = v; fixed = false; edges = top ∷ tops } ∷ hs)) (sym l.same_rows)
        (free_reads (v, l.vertex) (top, u) tops l.tops kids r.0 xs hs l.below r.1 r.2
        (λ words read. kids-AllReadAs kids tops vs es hs l.tops l.verts l.edges l.below words all l.kids_planted read))
    branch-ReadsAs _ _ _ _ _ u ws ds bs xs (Plants.fixed kids top v tops vs es hs all) other reads =
        let l : IsPlantedNode partner true kids u ws ds bs =
        subst (λ z. PlantsLayer partner z u ws ds bs) (out_Q kids) (planted_layer partner (Q kids) u ws ds bs other) in
        let r = subst (λ z. ReadsLayer z xs) (out_Q kids) (reads_layer (Q kids) xs reads) in
        subst (ReadsAs (top, u) xs (record { vertex = v; fixed = true; edges = top ∷ tops } ∷ hs)) (sym l.same_rows)
        (fixed_reads (v, l.vertex) (top, u) tops l.tops kids xs hs l.below r
        (λ words read. kids-AllReadAs kids tops vs es hs l.tops l.verts l.edges l.below words all l.kids_planted read))

    -- the kids of a node that are planted twice and read
    pub kids-AllReadAs : (kids : List Branch) (tops vs es : List ℕ) (hs : List Planted) (us ws ds : List ℕ)
        (bs : List Planted) (words : List (List ℕ))
        → PlantsAll (λ x. x) kids tops vs es hs
        → PlantsAll partner kids us ws ds bs
        → AllZip Reads kids words
        → AllReadAs tops us words hs bs
    kids-AllReadAs _ _ _ _ _ us ws ds bs [] PlantsAll.none other read =
        let l = planted_kids partner [] us ws ds bs other in
        record {
          kids = [];
          first_tops = refl;
          second_tops = sym l.0;
          same_words = refl;
          laid = subst (KidsLaid partner any_row [] []) (sym l.3) (no_kids-KidsLaid partner any_row);
        }
    kids-AllReadAs _ _ _ _ _ us ws ds bs (xs ∷ words) PlantsAll.none other read = absurd read
    kids-AllReadAs _ _ _ _ _ us ws ds bs [] (PlantsAll.more k ks top tops vs1 vs2 es1 es2 hs cs one rest) other read =
        absurd read
    kids-AllReadAs _ _ _ _ _ us ws ds bs (xs ∷ words)
        (PlantsAll.more k ks top tops vs1 vs2 es1 es2 hs cs one rest) other
        read =
        let l = planted_kids partner (k ∷ ks) us ws ds bs other in
        let here = branch-ReadsAs k top vs1 es1 hs l.top l.verts l.edges l.below xs one l.one read.0 in
        let behind = kids-AllReadAs ks tops vs2 es2 cs l.others l.other_verts l.other_edges l.other_rows words rest
        l.rest read.1 in
        record {
          kids = here.kid ∷ behind.kids;
          first_tops = ap₂ (λ (z : ℕ) zs. z ∷ zs) (ap (λ (z : ℕ × ℕ). z.0) here.same_tops) behind.first_tops;
          second_tops = ap₂ (λ (z : ℕ) zs. z ∷ zs) (ap (λ (z : ℕ × ℕ). z.1) here.same_tops) behind.second_tops
              ∙ sym l.same_tops;
          same_words = ap₂ (λ (z : List ℕ) zs. z ∷ zs) here.same_word behind.same_words;
          laid = subst (KidsLaid partner any_row (here.kid ∷ behind.kids) (hs ++ cs)) (sym l.same_rows)
              (kids-KidsLaid partner any_row here.kid behind.kids hs l.below cs l.other_rows here.laid behind.laid);
        }
