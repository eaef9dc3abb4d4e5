-- The planted rows as pairs of an edge from above and the vertex below it.
use Rattle.std.proofs.Common.{◌≡◌, ◌≢◌, ℕ, ◌<◌, true, List, [], ◌∷◌, ◌++◌, get_or, length, map, sym, refl, ap, ap₂, ◌∙◌, arith}
use Rattle.std.specs.Prelude.{None, Some, take}
use Rattle.std.specs.List.{All, Contains, zip}
use Rattle.std.proofs.lemmas.List.{get_or-map, length-map, map-append}
use Rattle.std.proofs.lemmas.List.Elements.{All-contains, Contains-get_or}
use Rattle.cp_lists.specs.CyclicLists.{Distinct, Has}
use Rattle.cp_lists.proofs.DistinctLists.{Has-place, Lacks-from}
use Rattle.cp_base.specs.declared.shape.Branch.{Branch}
use Rattle.cp_board.specs.Plantings.{Planted, Plants, PlantsAll}
use Rattle.cp_plant.specs.TreeWords.{vertex_below}
use Rattle.cp_plant.proofs.FoundVertices.{found_at, found_none}

-- the edge from above of each row, as a list
abbrev heads : List Planted → List (List ℕ)
heads rows = map (λ r. take 1 r.edges) rows

-- an edge as a list
abbrev alone : ℕ → List ℕ
alone e = e ∷ []

-- each row has an edge from above, in the order of these edges
mutual
  pub planted-heads : (f : ℕ → ℕ) (b : Branch) (top : ℕ) (vs es : List ℕ) (rows : List Planted)
      → Plants f b top vs es rows → heads rows ≡ map alone es
  planted-heads f _ _ _ _ _ (Plants.leaf x) = refl
  planted-heads f _ _ _ _ _ (Plants.free kids top v tops vs es rows all) =
      ap (λ zs. alone top ∷ zs) (kids-heads f kids tops vs es rows all)
  planted-heads f _ _ _ _ _ (Plants.fixed kids top v tops vs es rows all) =
      ap (λ zs. alone top ∷ zs) (kids-heads f kids tops vs es rows all)

  -- the same of the kids of a node
  kids-heads : (f : ℕ → ℕ) (kids : List Branch) (tops vs es : List ℕ) (rows : List Planted)
      → PlantsAll f kids tops vs es rows → heads rows ≡ map alone es
  kids-heads f _ _ _ _ _ PlantsAll.none = refl
  kids-heads f _ _ _ _ _ (PlantsAll.more k ks top tops us vs ds es rows more_rows one rest) =
      map-append (λ (r : Planted). take 1 r.edges) rows more_rows
      ∙ ap₂ (λ (xs ys : List (List ℕ)). xs ++ ys) (planted-heads f k top us ds rows one)
      (kids-heads f ks tops vs es more_rows rest)
      ∙ sym (map-append alone ds es)

-- rows with their edges from above and their vertices
module _ (rows : List Planted) (es vs : List ℕ) (heads_are : heads rows ≡ map alone es)
    (verts_are : map (λ r. r.vertex) rows ≡ vs) (once : Distinct es) where
  -- as many edges as rows
  edges_size : length es ≡ length rows
  edges_size = sym (length-map es alone) ∙ ap length (sym heads_are)
      ∙ length-map rows (λ (r : Planted). take 1 r.edges)

  -- as many vertices as rows
  verts_size : length vs ≡ length rows
  verts_size = ap length (sym verts_are) ∙ length-map rows (λ (r : Planted). r.vertex)

  -- the edge of a place, by the row of this place
  head_at : (k : ℕ) (r : Planted) → k < length rows → take 1 (get_or rows k r).edges ≡ get_or es k 0 ∷ []
  head_at k r lt =
      sym (get_or-map (λ (q : Planted). take 1 q.edges) rows k r [] lt) ∙ ap (λ zs. get_or zs k []) heads_are
      ∙ get_or-map alone es k 0 [] (omega (arith, lt, edges_size))

  -- a row's edge from above has its vertex
  pub row_vertex : (r : Planted) (g : ℕ) → Contains rows r → take 1 r.edges ≡ g ∷ []
      → vertex_below (zip es vs) g ≡ Some r.vertex
  row_vertex r g c top =
      let k : ℕ = c.0 in
      let lt : k < length rows = c.1 in
      let own : get_or es k 0 ∷ [] ≡ g ∷ [] =
      sym (head_at k r lt) ∙ ap (λ (q : Planted). take 1 q.edges) c.2 ∙ top in
      let same : get_or es k 0 ≡ g = cc in
      let here : get_or vs k 0 ≡ r.vertex =
      ap (λ zs. get_or zs k 0) (sym verts_are) ∙ get_or-map (λ (q : Planted). q.vertex) rows k r 0 lt
      ∙ ap (λ (q : Planted). q.vertex) c.2 in
      found_at es vs k g once (edges_size ∙ sym verts_size) (omega (arith, lt, edges_size)) same
      ∙ ap (λ (v : ℕ). Some v) here

  -- an edge that no row begins with has no vertex
  pub leaf_vertex : (x : ℕ) → All (λ r. take 1 r.edges ≢ x ∷ []) rows → vertex_below (zip es vs) x ≡ None
  leaf_vertex x none =
      found_none es vs x (edges_size ∙ sym verts_size)
      (Lacks-from x es (λ (h : Has x es).
      let p = Has-place x es h in
      let k : ℕ = p.0 in
      let lt : k < length rows = omega (arith, p.1, edges_size) in
      let r : Planted = record { vertex = 0; fixed = true; edges = [] } in
      All-contains (λ (q : Planted). take 1 q.edges ≢ x ∷ []) rows (get_or rows k r) none (Contains-get_or rows k r lt)
      (head_at k r lt ∙ ap alone p.2)))
