-- Rows of planted branches, one kid after another, and a node in front of its kids.
use Rattle.std.proofs.Common.{◌≡◌, ℕ, suc, ◌+◌, Bool, true, false, List, [], ◌∷◌, ◌++◌, append_assoc, length, map, set, slice_index, sym, refl, ap, ◌∙◌, subst, subst₂, arith}
use Rattle.std.proofs.Math.Seq.{set-append_seam}
use Rattle.std.proofs.lemmas.List.{append-nil, length-append, length-map, map-append}
use Rattle.cp_base.specs.declared.shape.Branch.{Branch}
use Rattle.cp_base.specs.declared.shape.Branch.TheVariants.{Leaf}
use Rattle.cp_board.specs.Plantings.{Planted, Plants, PlantsAll}
use Rattle.cp_plant.specs.Growing.{AreGrown, AreNamesFrom, IsGrown, first_edge, node_of}

-- names from one place on, and then from the next
names-append : (names : List ℕ) (k : ℕ) (xs ys : List ℕ) → AreNamesFrom names k xs
    → AreNamesFrom names (k + length xs) ys
    → AreNamesFrom names k (xs ++ ys)
names-append names k [] ys a b = subst (λ m. AreNamesFrom names m ys) (omega arith) b
names-append names k (x ∷ xs) ys a b =
    (a.0, names-append names (suc k) xs ys a.1 (subst (λ m. AreNamesFrom names m ys) (omega arith) b))

-- a leaf has no row
pub leaf-grown : (f : ℕ → ℕ) (verts edges : List ℕ) (x : ℕ) (rows : List Planted)
    → IsGrown f verts edges (Leaf x) (f x) rows rows
leaf-grown f verts edges x rows = record {
  new = [];
  grown = sym (append-nil rows);
  plants = Plants.leaf x;
  verts_next = tt;
  edges_next = tt;
}

-- no kid has no row
pub none-grown : (f : ℕ → ℕ) (verts edges : List ℕ) (rows : List Planted) → AreGrown f verts edges [] [] rows rows
none-grown f verts edges rows = record {
  new = [];
  grown = sym (append-nil rows);
  plants = PlantsAll.none;
  verts_next = tt;
  edges_next = tt;
}

-- the rows of kids followed by those of one more
all-append : (f : ℕ → ℕ) (ks : List Branch) (tops us ds : List ℕ) (rows : List Planted) (k : Branch)
    (top : ℕ) (vs es : List ℕ) (more : List Planted)
    → PlantsAll f ks tops us ds rows → Plants f k top vs es more
    → PlantsAll f (ks ++ k ∷ []) (tops ++ top ∷ []) (us ++ vs) (ds ++ es) (rows ++ more)
all-append f _ _ _ _ _ k top vs es more PlantsAll.none p =
    subst₂ (λ ls ms. PlantsAll f (k ∷ []) (top ∷ []) ls ms more) (append-nil vs) (append-nil es)
    (subst (λ rs. PlantsAll f (k ∷ []) (top ∷ []) (vs ++ []) (es ++ []) rs) (append-nil more)
    (PlantsAll.more k [] top [] vs [] es [] more [] p PlantsAll.none))
all-append f _ _ _ _ _ k top vs es more (PlantsAll.more k0 ks top0 tops us0 us ds0 ds rows0 rows q a) p =
    subst₂ (λ ls ms. PlantsAll f (k0 ∷ (ks ++ k ∷ [])) (top0 ∷ (tops ++ top ∷ [])) ls ms ((rows0 ++ rows) ++ more))
    (sym (append_assoc us0 us vs)) (sym (append_assoc ds0 ds es))
    (subst (λ rs. PlantsAll f (k0 ∷ (ks ++ k ∷ [])) (top0 ∷ (tops ++ top ∷ [])) (us0 ++ (us ++ vs)) (ds0 ++ (ds ++ es)) rs)
    (sym (append_assoc rows0 rows more))
    (PlantsAll.more k0 (ks ++ k ∷ []) top0 (tops ++ top ∷ []) us0 (us ++ vs) ds0 (ds ++ es) rows0 (rows ++ more) q
    (all-append f ks tops us ds rows k top vs es more a p)))

-- one kid more
pub more-grown : (f : ℕ → ℕ) (verts edges : List ℕ) (ks : List Branch) (tops : List ℕ) (k : Branch) (top : ℕ)
    (rows mid after : List Planted)
    → AreGrown f verts edges ks tops rows mid
    → IsGrown f verts edges k top mid after
    → AreGrown f verts edges (ks ++ k ∷ []) (tops ++ top ∷ []) rows after
more-grown f verts edges ks tops k top rows mid after a b =
    let vertex : Planted → ℕ = λ r. r.vertex in
    let vs = map-append vertex a.new b.new in
    let es = map-append first_edge a.new b.new in
    let place : length mid ≡ length rows + length a.new = ap length a.grown ∙ length-append rows a.new in
    record {
      new = a.new ++ b.new;
      grown = b.grown ∙ ap (λ zs. zs ++ b.new) a.grown ∙ append_assoc rows a.new b.new;
      plants = subst₂ (λ ls ms. PlantsAll f (ks ++ k ∷ []) (tops ++ top ∷ []) ls ms (a.new ++ b.new)) (sym vs) (sym es)
          (all-append f ks tops (map vertex a.new) (map first_edge a.new) a.new k top
          (map vertex b.new) (map first_edge b.new) b.new a.plants b.plants);
      verts_next = subst (AreNamesFrom verts (length rows)) (sym vs)
          (names-append verts (length rows) (map vertex a.new) (map vertex b.new) a.verts_next
          (subst (λ m. AreNamesFrom verts m (map vertex b.new))
          (place ∙ ap (λ m. length rows + m) (sym (length-map a.new vertex))) b.verts_next));
      edges_next = subst (AreNamesFrom edges (length rows)) (sym es)
          (names-append edges (length rows) (map first_edge a.new) (map first_edge b.new) a.edges_next
          (subst (λ m. AreNamesFrom edges m (map first_edge b.new))
          (place ∙ ap (λ m. length rows + m) (sym (length-map a.new first_edge))) b.edges_next));
    }

-- a node in front of its kids, whose row is written when its edges are known
pub node-grown : (f : ℕ → ℕ) (verts edges : List ℕ) (fixed : Bool) (kids : List Branch) (tops empty : List ℕ)
    (rows mid : List Planted)
    → AreGrown f verts edges kids tops
    (rows ++ record { vertex = slice_index verts (length rows); fixed = fixed; edges = empty } ∷ []) mid
    → IsGrown f verts edges (node_of fixed kids) (slice_index edges (length rows)) rows
    (set mid (length rows) (record {
      vertex = slice_index verts (length rows);
      fixed = fixed;
      edges = slice_index edges (length rows) ∷ tops;
    }))
node-grown f verts edges fixed kids tops empty rows mid a =
    let v = slice_index verts (length rows) in
    let e = slice_index edges (length rows) in
    let old : Planted = record { vertex = v; fixed = fixed; edges = empty } in
    let row : Planted = record { vertex = v; fixed = fixed; edges = e ∷ tops } in
    let behind : length (rows ++ old ∷ []) ≡ suc (length rows) = omega (arith, length-append rows (old ∷ [])) in
    record {
      new = row ∷ a.new;
      grown = ap (λ zs. set zs (length rows) row) (a.grown ∙ append_assoc rows (old ∷ []) a.new)
          ∙ set-append_seam rows old a.new row;
      plants = node fixed (map (λ r. r.vertex) a.new) (map first_edge a.new) a.new a.plants;
      verts_next = (refl, subst (λ m. AreNamesFrom verts m (map (λ r. r.vertex) a.new)) behind a.verts_next);
      edges_next = (refl, subst (λ m. AreNamesFrom edges m (map first_edge a.new)) behind a.edges_next);
    }
  where
    -- of each of the two kinds
    node : (b : Bool) (vs es : List ℕ) (news : List Planted) → PlantsAll f kids tops vs es news
        → Plants f (node_of b kids) (slice_index edges (length rows)) (slice_index verts (length rows) ∷ vs)
        (slice_index edges (length rows) ∷ es)
        (record {
          vertex = slice_index verts (length rows);
          fixed = b;
          edges = slice_index edges (length rows) ∷ tops;
        } ∷ news)
    node true vs es news p =
        Plants.fixed kids (slice_index edges (length rows)) (slice_index verts (length rows)) tops vs es news p
    node false vs es news p =
        Plants.free kids (slice_index edges (length rows)) (slice_index verts (length rows)) tops vs es news p
