-- As many rows are planted as there are inner nodes, and their names are those given.
use Rattle.std.proofs.Common.{◌≡◌, ℕ, suc, ◌+◌, List, [], ◌∷◌, length, map, slice_index, sym, refl, ap, ap₂, ◌∙◌, subst₂, arith}
use Rattle.std.proofs.lemmas.List.{length-append, length-map}
use Rattle.cp_base.specs.declared.shape.Branch.{Branch}
use Rattle.cp_base.specs.declared.shape.Branch.TheVariants.{Leaf, P, Q, rolls-Leaf, rolls-P, rolls-Q}
use Rattle.cp_base.specs.declared.shape.Branch.TheOpen.{Branch-F}
use Rattle.cp_base.specs.declared.shape.Branch.TheFolds.{fold-roll-Branch}
use Rattle.cp_board.specs.Plantings.{Planted, Plants, PlantsAll}
use Rattle.cp_plant.specs.Growing.{AreNamesFrom, IsGrown, first_edge, inner_nodes, inner_nodes_step, total}

-- a leaf has no inner node
inner_nodes_Leaf : (x : ℕ) → inner_nodes (Leaf x) ≡ 0
unfolding inner_nodes
inner_nodes_Leaf x = ap inner_nodes (sym (rolls-Leaf x)) ∙ fold-roll-Branch ℕ inner_nodes_step (Branch-F.Leaf x)

-- a P-node is one more than those of its kids
inner_nodes_P : (ks : List Branch) → inner_nodes (P ks) ≡ suc (total (map inner_nodes ks))
unfolding inner_nodes
inner_nodes_P ks = ap inner_nodes (sym (rolls-P ks)) ∙ fold-roll-Branch ℕ inner_nodes_step (Branch-F.P ks)

-- and so is a Q-node
inner_nodes_Q : (ks : List Branch) → inner_nodes (Q ks) ≡ suc (total (map inner_nodes ks))
unfolding inner_nodes
inner_nodes_Q ks = ap inner_nodes (sym (rolls-Q ks)) ∙ fold-roll-Branch ℕ inner_nodes_step (Branch-F.Q ks)

-- each inner node has its row
mutual
  pub rows-inner_nodes : (f : ℕ → ℕ) (b : Branch) (top : ℕ) (vs es : List ℕ) (rows : List Planted)
      → Plants f b top vs es rows → length rows ≡ inner_nodes b
  rows-inner_nodes f _ _ _ _ _ (Plants.leaf x) = sym (inner_nodes_Leaf x)
  rows-inner_nodes f _ _ _ _ _ (Plants.free kids top v tops vs es rows all) =
      ap suc (rows-all f kids tops vs es rows all) ∙ sym (inner_nodes_P kids)
  rows-inner_nodes f _ _ _ _ _ (Plants.fixed kids top v tops vs es rows all) =
      ap suc (rows-all f kids tops vs es rows all) ∙ sym (inner_nodes_Q kids)

  rows-all : (f : ℕ → ℕ) (kids : List Branch) (tops vs es : List ℕ) (rows : List Planted)
      → PlantsAll f kids tops vs es rows → length rows ≡ total (map inner_nodes kids)
  rows-all f _ _ _ _ _ PlantsAll.none = refl
  rows-all f _ _ _ _ _ (PlantsAll.more k ks top tops us vs ds es rows more_rows one rest) =
      length-append rows more_rows
      ∙ ap₂ (λ m n. m + n) (rows-inner_nodes f k top us ds rows one) (rows-all f ks tops vs es more_rows rest)

-- names from the first on, as many as there are
pub names-all : (names xs : List ℕ) → AreNamesFrom names 0 xs → length xs ≡ length names → xs ≡ names
names-all names xs a e = go names xs 0 a (λ m. ap (slice_index names) (at m)) e
  where
    at : (m : ℕ) → 0 + m ≡ m
    at m = omega arith

    -- the names behind the first k
    go : (rest ys : List ℕ) (k : ℕ) → AreNamesFrom names k ys
        → ((m : ℕ) → slice_index names (k + m) ≡ slice_index rest m)
        → length ys ≡ length rest
        → ys ≡ rest
    go [] [] k a same e = refl
    go [] (y ∷ ys) k a same e = absurd (omega (arith, e))
    go (z ∷ zs) [] k a same e = absurd (omega (arith, e))
    go (z ∷ zs) (y ∷ ys) k a same e =
        let here : k + 0 ≡ k = omega arith in
        ap₂ (λ m ms. m ∷ ms) (a.0 ∙ ap (slice_index names) (sym here) ∙ same 0)
        (go zs ys (suc k) a.1 (λ m. ap (slice_index names) (next m) ∙ same (suc m)) (omega (arith, e)))
      where
        next : (m : ℕ) → suc k + m ≡ k + suc m
        next m = omega arith

-- the edge from above of a node is the first of its edges
top-first : (f : ℕ → ℕ) (b : Branch) (top : ℕ) (vs es : List ℕ) (rows : List Planted) (d : ℕ) (ds : List ℕ)
    → Plants f b top vs es rows → es ≡ d ∷ ds → top ≡ d
top-first f _ _ _ _ _ d ds (Plants.leaf x) e = absurd cc
top-first f _ _ _ _ _ d ds (Plants.free kids top v tops vs es rows all) e =
    let h : top ∷ es ≡ d ∷ ds = e in cc
top-first f _ _ _ _ _ d ds (Plants.fixed kids top v tops vs es rows all) e =
    let h : top ∷ es ≡ d ∷ ds = e in cc

-- rows that are grown from none, with as many names as inner nodes, plant the branch
pub grown-Plants : (f : ℕ → ℕ) (verts edges : List ℕ) (branch : Branch) (above top : ℕ) (rows : List Planted)
    → IsGrown f verts (above ∷ edges) branch top [] rows
    → length verts ≡ inner_nodes branch
    → suc (length edges) ≡ inner_nodes branch
    → Plants f branch above verts (above ∷ edges) rows
grown-Plants f verts edges branch above top rows g size_v size_e =
    let vertex : Planted → ℕ = λ r. r.vertex in
    let size = rows-inner_nodes f branch top (map vertex g.new) (map first_edge g.new) g.new g.plants in
    let vs : map vertex g.new ≡ verts = names-all verts (map vertex g.new) g.verts_next
    (length-map g.new vertex ∙ size ∙ sym size_v) in
    let es : map first_edge g.new ≡ above ∷ edges = names-all (above ∷ edges) (map first_edge g.new) g.edges_next
    (length-map g.new first_edge ∙ size ∙ sym size_e) in
    let first : top ≡ above =
    top-first f branch top (map vertex g.new) (map first_edge g.new) g.new above edges g.plants es in
    subst₂ (λ t rs. Plants f branch t verts (above ∷ edges) rs) first (sym g.grown)
    (subst₂ (λ us ds. Plants f branch top us ds g.new) vs es g.plants)

-- rows that are grown from none are as many as inner nodes
pub grown-number : (f : ℕ → ℕ) (verts edges : List ℕ) (branch : Branch) (top : ℕ) (rows : List Planted)
    → IsGrown f verts edges branch top [] rows → length rows ≡ inner_nodes branch
grown-number f verts edges branch top rows g =
    ap length g.grown
    ∙ rows-inner_nodes f branch top (map (λ r. r.vertex) g.new) (map first_edge g.new) g.new g.plants

-- where there is no row, the branch is a leaf
no_row-Leaf : (f : ℕ → ℕ) (b : Branch) (top : ℕ) (vs es : List ℕ) (rows : List Planted) → Plants f b top vs es rows
    → length rows ≡ 0 → (x : ℕ) × (b ≡ Leaf x)
no_row-Leaf f _ _ _ _ _ (Plants.leaf x) e = (x, refl)
no_row-Leaf f _ _ _ _ _ (Plants.free kids top v tops vs es rows all) e = absurd (omega (arith, e))
no_row-Leaf f _ _ _ _ _ (Plants.fixed kids top v tops vs es rows all) e = absurd (omega (arith, e))

-- so no rows are grown from none of a leaf only
pub grown-Leaf : (f : ℕ → ℕ) (verts edges : List ℕ) (branch : Branch) (top : ℕ) (rows : List Planted)
    → IsGrown f verts edges branch top [] rows → length rows ≡ 0 → (x : ℕ) × (branch ≡ Leaf x)
grown-Leaf f verts edges branch top rows g e =
    no_row-Leaf f branch top (map (λ r. r.vertex) g.new) (map first_edge g.new) g.new g.plants (ap length (sym g.grown) ∙ e)
