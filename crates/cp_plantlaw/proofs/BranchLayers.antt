-- What planting and reading a branch say by its kind.
use Rattle.std.proofs.Common.{◌≡◌, ◌⊎◌, ℕ, Bool, false, true, List, [], ◌∷◌, ◌++◌, reverse, sym, refl, ap, ◌∙◌, subst, inl, inr, IsPermutation}
use Rattle.std.specs.List.{AllZip}
use Rattle.cp_lists.specs.Rows.{flat}
use Rattle.cp_base.specs.declared.shape.Branch.{Branch}
use Rattle.cp_base.specs.declared.shape.Branch.TheOpen.{Branch-F}
use Rattle.cp_base.specs.declared.shape.Branch.TheViews.{out-Branch, out-roll-Branch}
use Rattle.cp_base.specs.declared.shape.Branch.TheVariants.{Leaf, P, Q, rolls-Leaf, rolls-P, rolls-Q}
use Rattle.cp_base.specs.Shapes.{Reads, ReadsAll}
use Rattle.cp_board.specs.Plantings.{Planted, Plants, PlantsAll}

-- the layer of a leaf
pub out_Leaf : (x : ℕ) → out-Branch (Leaf x) ≡ Branch-F.Leaf x
out_Leaf x = ap out-Branch (sym (rolls-Leaf x)) ∙ out-roll-Branch (Branch-F.Leaf x)

-- the layer of a P-node
pub out_P : (ks : List Branch) → out-Branch (P ks) ≡ Branch-F.P ks
out_P ks = ap out-Branch (sym (rolls-P ks)) ∙ out-roll-Branch (Branch-F.P ks)

-- the layer of a Q-node
pub out_Q : (ks : List Branch) → out-Branch (Q ks) ≡ Branch-F.Q ks
out_Q ks = ap out-Branch (sym (rolls-Q ks)) ∙ out-roll-Branch (Branch-F.Q ks)

-- an inner node that is planted: its vertex, and its kids
pub record IsPlantedNode (f : ℕ → ℕ) (fixed : Bool) (kids : List Branch) (top : ℕ) (vs es : List ℕ)
    (rows : List Planted) : Type 0 where
  pub vertex : ℕ
  pub tops : List ℕ
  pub verts : List ℕ
  pub edges : List ℕ
  pub below : List Planted
  pub same_verts : vs ≡ vertex ∷ verts
  pub same_edges : es ≡ top ∷ edges
  pub same_rows : rows ≡ record { vertex = vertex; fixed = fixed; edges = top ∷ tops } ∷ below
  pub kids_planted : PlantsAll f kids tops verts edges below

-- a leaf that is planted
pub record IsPlantedLeaf (f : ℕ → ℕ) (x top : ℕ) (vs es : List ℕ) (rows : List Planted) : Type 0 where
  pub same_top : top ≡ f x
  pub no_vert : vs ≡ []
  pub no_edge : es ≡ []
  pub no_row : rows ≡ []

-- a layer is planted
abbrev pub PlantsLayer : (ℕ → ℕ) → Branch-F Branch → ℕ → List ℕ → List ℕ → List Planted → Type 0
PlantsLayer f (Branch-F.Leaf x) top vs es rows = IsPlantedLeaf f x top vs es rows
PlantsLayer f (Branch-F.P kids) top vs es rows = IsPlantedNode f false kids top vs es rows
PlantsLayer f (Branch-F.Q kids) top vs es rows = IsPlantedNode f true kids top vs es rows

-- where a branch is planted its layer is
pub planted_layer : (f : ℕ → ℕ) (b : Branch) (top : ℕ) (vs es : List ℕ) (rows : List Planted)
    → Plants f b top vs es rows → PlantsLayer f (out-Branch b) top vs es rows
planted_layer f _ _ _ _ _ (Plants.leaf x) =
    subst (λ l. PlantsLayer f l (f x) [] [] []) (sym (out_Leaf x))
    (record { same_top = refl; no_vert = refl; no_edge = refl; no_row = refl })
planted_layer f _ _ _ _ _ (Plants.free kids top v tops vs es rows all) =
    subst (λ l. PlantsLayer f l top (v ∷ vs) (top ∷ es)
    (record { vertex = v; fixed = false; edges = top ∷ tops } ∷ rows)) (sym (out_P kids))
    (record {
      vertex = v;
      tops = tops;
      verts = vs;
      edges = es;
      below = rows;
      same_verts = refl;
      same_edges = refl;
      same_rows = refl;
      kids_planted = all;
    })
planted_layer f _ _ _ _ _ (Plants.fixed kids top v tops vs es rows all) =
    subst (λ l. PlantsLayer f l top (v ∷ vs) (top ∷ es)
    (record { vertex = v; fixed = true; edges = top ∷ tops } ∷ rows)) (sym (out_Q kids))
    (record {
      vertex = v;
      tops = tops;
      verts = vs;
      edges = es;
      below = rows;
      same_verts = refl;
      same_edges = refl;
      same_rows = refl;
      kids_planted = all;
    })

-- the kids that are planted one after another
pub record ArePlanted (f : ℕ → ℕ) (k : Branch) (ks : List Branch) (tops vs es : List ℕ) (rows : List Planted)
    : Type 0 where
  pub top : ℕ
  pub others : List ℕ
  pub verts : List ℕ
  pub other_verts : List ℕ
  pub edges : List ℕ
  pub other_edges : List ℕ
  pub below : List Planted
  pub other_rows : List Planted
  pub same_tops : tops ≡ top ∷ others
  pub same_verts : vs ≡ verts ++ other_verts
  pub same_edges : es ≡ edges ++ other_edges
  pub same_rows : rows ≡ below ++ other_rows
  pub one : Plants f k top verts edges below
  pub rest : PlantsAll f ks others other_verts other_edges other_rows

-- no kid is planted
abbrev pub PlantsKids : (ℕ → ℕ) → List Branch → List ℕ → List ℕ → List ℕ → List Planted → Type 0
PlantsKids f [] tops vs es rows = (tops ≡ []) × (vs ≡ []) × (es ≡ []) × (rows ≡ [])
PlantsKids f (k ∷ ks) tops vs es rows = ArePlanted f k ks tops vs es rows

-- kids are planted from left to right
pub planted_kids : (f : ℕ → ℕ) (ks : List Branch) (tops vs es : List ℕ) (rows : List Planted)
    → PlantsAll f ks tops vs es rows → PlantsKids f ks tops vs es rows
planted_kids f _ _ _ _ _ PlantsAll.none = (refl, refl, refl, refl)
planted_kids f _ _ _ _ _ (PlantsAll.more k ks top tops us vs ds es rows more_rows one rest) = record {
  top = top;
  others = tops;
  verts = us;
  other_verts = vs;
  edges = ds;
  other_edges = es;
  below = rows;
  other_rows = more_rows;
  same_tops = refl;
  same_verts = refl;
  same_edges = refl;
  same_rows = refl;
  one = one;
  rest = rest;
}

-- the readings of the kids, in their order
abbrev pub ReadsKids : List Branch → List ℕ → Type 0
ReadsKids kids xs = (words : List (List ℕ)) × AllZip Reads kids words × (flat words ≡ xs)

-- a reading of kids is made of one of each
pub reads_kids : (kids : List Branch) (xs : List ℕ) → ReadsAll kids xs → ReadsKids kids xs
reads_kids _ _ ReadsAll.none = ([], tt, refl)
reads_kids _ _ (ReadsAll.more k ks xs ys one rest) =
    let h = reads_kids ks ys rest in (xs ∷ h.0, (one, h.1), ap (λ zs. xs ++ zs) h.2)

-- and the other way round
pub ReadsAll-from : (kids : List Branch) (words : List (List ℕ)) → AllZip Reads kids words → ReadsAll kids (flat words)
ReadsAll-from [] [] z = ReadsAll.none
ReadsAll-from [] (xs ∷ words) z = absurd z
ReadsAll-from (k ∷ ks) [] z = absurd z
ReadsAll-from (k ∷ ks) (xs ∷ words) z = ReadsAll.more k ks xs (flat words) z.0 (ReadsAll-from ks words z.1)

-- a layer is read
abbrev pub ReadsLayer : Branch-F Branch → List ℕ → Type 0
ReadsLayer (Branch-F.Leaf x) xs = xs ≡ x ∷ []
ReadsLayer (Branch-F.P kids) xs = (order : List Branch) × IsPermutation kids order × ReadsKids order xs
ReadsLayer (Branch-F.Q kids) xs = ReadsKids kids xs ⊎ ReadsKids (reverse kids) xs

-- where a branch is read its layer is
pub reads_layer : (b : Branch) (xs : List ℕ) → Reads b xs → ReadsLayer (out-Branch b) xs
reads_layer _ _ (Reads.leaf x) = subst (λ l. ReadsLayer l (x ∷ [])) (sym (out_Leaf x)) refl
reads_layer _ _ (Reads.any_order kids order xs p all) =
    subst (λ l. ReadsLayer l xs) (sym (out_P kids)) (order, p, reads_kids order xs all)
reads_layer _ _ (Reads.forward kids xs all) =
    subst (λ l. ReadsLayer l xs) (sym (out_Q kids)) (inl (reads_kids kids xs all))
reads_layer _ _ (Reads.backward kids xs all) =
    subst (λ l. ReadsLayer l xs) (sym (out_Q kids)) (inr (reads_kids (reverse kids) xs all))
