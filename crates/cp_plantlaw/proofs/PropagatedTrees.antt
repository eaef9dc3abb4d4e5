-- Propagate keeps the genus: with the lists of both trees the instance that it makes has genus zero exactly where the
-- instance before it has, with the orders that the trees read.
use Rattle.std.proofs.Common.{◌≡◌, ℕ, ◌↔◌, List, [], ◌∷◌, ◌++◌, append_assoc, map, reverse, sym, refl, ap, ap₂, ◌∙◌, subst, subst₂, inl, inr, IsPermutation}
use Rattle.std.specs.List.{All, AllByRecursion, AllZip, Contains}
use Rattle.std.proofs.lemmas.List.{append-nil}
use Rattle.std.proofs.lemmas.List.Sorted.{IsPermutation-append, IsPermutation-append_comm, IsPermutation-append_left, IsPermutation-cons, IsPermutation-map, IsPermutation-reverse, IsPermutation-sym, IsPermutation-trans}
use Rattle.cp_lists.specs.CyclicLists.{Distinct, Has}
use Rattle.cp_lists.specs.Turns.{IsTurn}
use Rattle.cp_lists.proofs.DistinctLists.{Distinct-append_left, Distinct-append_right, Has-Contains}
use Rattle.cp_lists.proofs.PermutedLists.{Distinct-IsPermutation, Has-IsPermutation}
use Rattle.cp_lists.proofs.ReversedLists.{reverse-cons}
use Rattle.cp_lists.proofs.TurnedLists.{turn_parts}
use Rattle.cp_base.specs.declared.shape.Shape.{Shape}
use Rattle.cp_base.specs.Shapes.{leaves}
use Rattle.cp_rot.specs.Genus.{HasGenusZero}
use Rattle.cp_board.specs.declared.parts.Pipe.{Pipe}
use Rattle.cp_board.specs.Instances.{Synchronized, IsSynchronized, edges_of, graph, vert_names}
use Rattle.cp_board.specs.Names.{rising}
use Rattle.cp_board.specs.Plantings.{Planted}
use Rattle.cp_board.specs.Propagations.{IsPropagated}
use Rattle.cp_board.specs.Rotations.{ArrangesEdges, system}
use Rattle.cp_board.specs.Steps.{IsEnd}
use Rattle.cp_plantlaw.specs.NamedTrees.{Named, Paired, PairedRow, both_tops, first, mirrored, node_row, paired_rows, rows, tops, verts, word}
use Rattle.cp_plantlaw.proofs.LaidTrees.{AreLaid, IsLaid, Kid, KidsLaid}
use Rattle.cp_plantlaw.proofs.MovedEnds.{IsNodeOf}
use Rattle.cp_plantlaw.proofs.PairedTrees.{first-rows, first-tops, first_row, mirrored-rows, mirrored-tops, mirrored-word, second_row}
use Rattle.cp_plantlaw.proofs.PermutedRows.{all_permuted}
use Rattle.cp_plantlaw.proofs.PlantedEnds.{IsPlantedTree, planted_ends-HasGenusZero}
use Rattle.cp_plantlaw.proofs.PropagatedEnds.{Has_old, back, back_u, back_w, edges_u-leaves, ends-IsMoved, mate, mirrors, names_once, old, put_old, verts_i, w}
use Rattle.cp_plantlaw.proofs.PropagatedRows.{HaveEdges, place, row_verts, verts_named}
use Rattle.cp_plantlaw.proofs.EdgesOfRows.{rows-HaveEdges}
use Rattle.cp_plantlaw.proofs.RowPairs.{turn-IsPermutation, zip_both}

-- what holds at two rows of one place holds at the row that is laid on them
pub laid-all : (partner : ℕ → ℕ) (R : Planted → Planted → Type 0) (X : PairedRow → Type 0)
    → ((a b : Planted) (r : PairedRow) → R a b → IsLaid partner a b r → X r)
    → (hs bs : List Planted) (rs : List PairedRow) → AllZip R hs bs → AreLaid partner hs bs rs → AllByRecursion X rs
laid-all partner R X then [] [] [] z l = tt
laid-all partner R X then [] [] (r ∷ rs) z l = absurd l
laid-all partner R X then [] (b ∷ bs) rs z l = absurd z
laid-all partner R X then (a ∷ hs) [] rs z l = absurd z
laid-all partner R X then (a ∷ hs) (b ∷ bs) [] z l = absurd l
laid-all partner R X then (a ∷ hs) (b ∷ bs) (r ∷ rs) z l =
    (then a b r z.0 l.0, laid-all partner R X then hs bs rs z.1 l.1)

-- the vertices of the rows that are laid
pub laid_verts : (partner : ℕ → ℕ) (hs bs : List Planted) (rs : List PairedRow) → AreLaid partner hs bs rs
    → (map (λ r. r.vertex.0) rs ≡ row_verts hs) × (map (λ r. r.vertex.1) rs ≡ row_verts bs)
laid_verts partner [] [] [] l = (refl, refl)
laid_verts partner [] [] (r ∷ rs) l = absurd l
laid_verts partner [] (b ∷ bs) rs l = absurd l
laid_verts partner (a ∷ hs) [] rs l = absurd l
laid_verts partner (a ∷ hs) (b ∷ bs) [] l = absurd l
laid_verts partner (a ∷ hs) (b ∷ bs) (r ∷ rs) l =
    let k = laid_verts partner hs bs rs l.1 in (
      ap₂ (λ (x : ℕ) xs. x ∷ xs) (ap (λ (z : PairedRow). z.vertex.0) l.0.same_row) k.0,
      ap₂ (λ (x : ℕ) xs. x ∷ xs) (ap (λ (z : PairedRow). z.vertex.1) l.0.same_row) k.1,
    )

-- what holds of the images of items holds of each image
all_images : {A B : Type 0} (f : A → B) (X : B → Type 0) (xs : List A) → AllByRecursion (λ x. X (f x)) xs
    → AllByRecursion X (map f xs)
all_images f X [] h = tt
all_images f X (x ∷ xs) h = (h.0, all_images f X xs h.1)

-- two facts of each item
pub all_both : {A : Type 0} (X Y : A → Type 0) (xs : List A) → AllByRecursion X xs → AllByRecursion Y xs
    → AllByRecursion (λ x. X x × Y x) xs
all_both X Y [] x y = tt
all_both X Y (z ∷ zs) x y = ((x.0, y.0), all_both X Y zs x.1 y.1)

-- a fact that follows from another
pub all_then : {A : Type 0} (X Y : A → Type 0) (xs : List A) → ((x : A) → X x → Y x) → AllByRecursion X xs
    → AllByRecursion Y xs
all_then X Y [] h x = tt
all_then X Y (z ∷ zs) h x = (h z x.0, all_then X Y zs h x.1)

-- the two values of a function of the items of a list
pub map_map : {A B C : Type 0} (f : A → B) (h : B → C) (xs : List A) → map h (map f xs) ≡ map (λ x. h (f x)) xs
map_map f h [] = refl
map_map f h (x ∷ xs) = ap (λ zs. h (f x) ∷ zs) (map_map f h xs)

-- each row has its vertex among those of all
pub rows_inside : (all hs bs : List Planted) → ((x : ℕ) → Has x (row_verts hs) → Has x (row_verts all))
    → (R : Planted → Planted → Type 0)
    → AllZip R hs bs → AllZip (λ a b. Has a.vertex (row_verts all)) hs bs
rows_inside all [] [] inside R z = tt
rows_inside all [] (b ∷ bs) inside R z = absurd z
rows_inside all (a ∷ hs) [] inside R z = absurd z
rows_inside all (a ∷ hs) (b ∷ bs) inside R z =
    (inside a.vertex (inl refl), rows_inside all hs bs (λ x h. inside x (inr h)) R z.1)

-- also on the other side
others_inside : (all hs bs : List Planted) → ((x : ℕ) → Has x (row_verts bs) → Has x (row_verts all))
    → (R : Planted → Planted → Type 0)
    → AllZip R hs bs → AllZip (λ a b. Has b.vertex (row_verts all)) hs bs
others_inside all [] [] inside R z = tt
others_inside all [] (b ∷ bs) inside R z = absurd z
others_inside all (a ∷ hs) [] inside R z = absurd z
others_inside all (a ∷ hs) (b ∷ bs) inside R z =
    (inside b.vertex (inl refl), others_inside all hs bs (λ x h. inside x (inr h)) R z.1)

-- the reverse of a list turned to its first item
pub turn_back : (x : ℕ) (xs : List ℕ) → IsTurn (reverse (x ∷ xs)) (x ∷ reverse xs)
turn_back x xs = subst (λ zs. IsTurn zs (x ∷ reverse xs)) (sym (reverse-cons x xs)) (turn_parts (reverse xs) (x ∷ []))

-- a row that is laid has the edges of both rows
pub laid_edges : (partner : ℕ → ℕ) (a b : Planted) (r : PairedRow) → IsLaid partner a b r
    → IsPermutation a.edges r.edges × IsPermutation b.edges r.others
laid_edges partner a b r l = (
  subst₂ IsPermutation (sym l.edges_a) (sym (ap (λ (z : PairedRow). z.edges) l.same_row))
      (IsPermutation-cons l.top.0 (map (λ k. k.0) l.kids) (map (λ k. k.0) l.order)
      (IsPermutation-map (λ k. k.0) l.kids l.order l.allowed.permuted)),
  subst₂ IsPermutation (sym l.edges_b) (sym (ap (λ (z : PairedRow). z.others) l.same_row))
      (IsPermutation-cons l.top.1 (map (λ k. k.1) l.kids) (reverse (map (λ k. k.1) l.order))
      (IsPermutation-trans (map (λ k. k.1) l.kids) (map (λ k. k.1) l.order) (reverse (map (λ k. k.1) l.order))
      (IsPermutation-map (λ k. k.1) l.kids l.order l.allowed.permuted)
      (IsPermutation-reverse (map (λ k. k.1) l.order)))),
)

-- the lists of the two vertices of a row are, up to turns, those of the row
abbrev pub Holds : (ℕ → List ℕ) → PairedRow → Type 0
Holds t r = IsTurn r.edges (t r.vertex.0) × IsTurn r.others (t r.vertex.1)

module _ (i j : Synchronized) (is_i : IsSynchronized i) (is_j : IsSynchronized j) (p : Pipe) (live : Contains i.pipes p)
    (u : ℕ) (end : IsEnd p u) (shape : Shape)
    (edges_u : rising (shape.root ∷ leaves shape.body) ≡ edges_of i u) (prop : IsPropagated i p u shape j) where
  -- the other end, the partners and the vertices that stay
  abbrev v : ℕ
  v = w i j is_i p live u end shape edges_u prop

  -- the partner of an edge of u
  abbrev phi : ℕ → ℕ
  phi = mate i j is_i p live u end shape edges_u prop

  -- the names of the vertices that stay
  abbrev stay : List ℕ
  stay = old i j is_i p live u end shape edges_u prop

  -- the vertex of i from which an end came
  abbrev from : ℕ → ℕ
  from = back i j is_i p live u end shape edges_u prop

  -- where the ends of edges move
  abbrev put : ℕ → ℕ → ℕ
  put = place i j p u shape prop

  -- the edges of u, by this word
  pub word-edges_u : (xs : List ℕ) → IsPermutation (leaves shape.body) xs
      → IsPermutation (edges_of i u) (shape.root ∷ xs)
  word-edges_u xs arr = IsPermutation-trans (edges_of i u) (shape.root ∷ leaves shape.body) (shape.root ∷ xs)
      (edges_u-leaves i j is_i p live u end shape edges_u prop)
      (IsPermutation-cons shape.root (leaves shape.body) xs arr)

  -- and those of the other end
  pub word-edges_w : (xs : List ℕ) → IsPermutation (leaves shape.body) xs
      → IsPermutation (edges_of i v) (phi shape.root ∷ reverse (map phi xs))
  word-edges_w xs arr = IsPermutation-trans (edges_of i v) (reverse (map phi (shape.root ∷ xs)))
      (phi shape.root ∷ reverse (map phi xs))
      ((mirrors i j is_i p live u end shape edges_u prop).arranges (shape.root ∷ xs) (word-edges_u xs arr))
      (turn-IsPermutation (reverse (map phi (shape.root ∷ xs))) (phi shape.root ∷ reverse (map phi xs))
      (turn_back (phi shape.root) (map phi xs)))

  -- what is known of each row
  abbrev Known : (ℕ → List ℕ) → PairedRow → Type 0
  Known t r = IsNodeOf i j is_i is_j put from (ends-IsMoved i j is_i p live u end shape edges_u prop) u (first_row r)
      × IsNodeOf i j is_i is_j put from (ends-IsMoved i j is_i p live u end shape edges_u prop) v (second_row r)

  -- it is known of each row that is laid on the planted rows
  known : (t : ℕ → List ℕ) (rs : List PairedRow) → AreLaid phi prop.rows_u prop.rows_w rs → AllByRecursion (Known t) rs
  known t rs laid =
      let hs : List Planted = prop.rows_u in
      let bs : List Planted = prop.rows_w in
      let edges = rows-HaveEdges i j is_i p live u end shape edges_u prop in
      let E : Planted → Planted → Type 0 = HaveEdges i j p u shape prop in
      laid-all phi (λ a b. E a b × (Has a.vertex (row_verts hs) × Has b.vertex (row_verts bs))) (Known t) one hs bs rs
      (zip_both E (λ a b. Has a.vertex (row_verts hs) × Has b.vertex (row_verts bs)) hs bs edges
      (zip_both (λ a b. Has a.vertex (row_verts hs)) (λ a b. Has b.vertex (row_verts bs)) hs bs
      (rows_inside hs hs bs (λ x h. h) E edges) (others_inside bs hs bs (λ x h. h) E edges))) laid
    where
      one : (a b : Planted) (r : PairedRow)
          → HaveEdges i j p u shape prop a b × (Has a.vertex (row_verts prop.rows_u) × Has b.vertex
          (row_verts prop.rows_w))
          → IsLaid phi a b r → Known t r
      one a b r h l =
          let es = laid_edges phi a b r l in
          let at_a : a.vertex ≡ r.vertex.0 = sym (ap (λ (z : PairedRow). z.vertex.0) l.same_row) in
          let at_b : b.vertex ≡ r.vertex.1 = sym (ap (λ (z : PairedRow). z.vertex.1) l.same_row) in (
            (
              ap from (sym at_a) ∙ back_u i j is_i p live u end shape edges_u prop a.vertex h.1.0,
              λ x k. subst (λ y. Contains (edges_of j y) x) at_a
                  ((Has-Contains x (edges_of j a.vertex)).0 (Has-IsPermutation x a.edges (edges_of j a.vertex) h.0.0
                  (Has-IsPermutation x r.edges a.edges (IsPermutation-sym a.edges r.edges es.0) k))),
            ),
            (
              ap from (sym at_b) ∙ back_w i j is_i p live u end shape edges_u prop b.vertex h.1.1,
              λ x k. subst (λ y. Contains (edges_of j y) x) at_b
                  ((Has-Contains x (edges_of j b.vertex)).0 (Has-IsPermutation x b.edges (edges_of j b.vertex) h.0.1
                  (Has-IsPermutation x r.others b.edges (IsPermutation-sym b.edges r.others es.1) k))),
            ),
          )

  -- an inner node with the root edges, laid on the planted rows
  module _ (t : ℕ → List ℕ) (vv gg : ℕ × ℕ) (inner : Paired) (same : gg ≡ (shape.root, phi shape.root))
      (laid : KidsLaid phi (Holds t) (Kid.node vv gg inner ∷ []) prop.rows_u prop.rows_w)
      (arr : IsPermutation (leaves shape.body) (word (first inner))) where
    -- the kids in both trees
    abbrev ks : Named
    ks = first inner

    -- the kids in the second tree
    abbrev js : Named
    js = mirrored phi inner Named.no_kid

    -- the rows of both
    abbrev pairs : List PairedRow
    pairs = node_row phi vv gg (both_tops phi inner) ∷ paired_rows phi inner

    -- they are the rows that are laid, in some order
    all_pairs : IsPermutation laid.rows pairs
    all_pairs = subst (IsPermutation laid.rows) (append-nil pairs) laid.same

    -- in the first tree
    abbrev rows_one : List (ℕ × List ℕ)
    rows_one = (vv.0, shape.root ∷ tops ks) ∷ rows ks

    -- they are those of the first tree
    same_one : map first_row pairs ≡ rows_one
    same_one = ap₂ (λ z zs. z ∷ zs)
        (ap₂ (λ (x : ℕ) (xs : List ℕ). (vv.0, x ∷ xs)) (ap (λ (z : ℕ × ℕ). z.0) same) (sym (first-tops phi inner)))
        (sym (first-rows phi inner))

    -- in the second
    abbrev rows_two : List (ℕ × List ℕ)
    rows_two = (vv.1, phi shape.root ∷ tops js) ∷ rows js

    -- in some order, they are those of the second tree
    same_two : IsPermutation (map second_row pairs) rows_two
    same_two =
        subst (λ z. IsPermutation (z ∷ map second_row (paired_rows phi inner)) rows_two)
        (sym (ap₂ (λ (x : ℕ) (xs : List ℕ). (vv.1, x ∷ xs)) (ap (λ (z : ℕ × ℕ). z.1) same)
        (sym (mirrored-tops phi inner Named.no_kid ∙ append-nil (reverse (map (λ k. k.1) (both_tops phi inner)))))))
        (IsPermutation-cons (vv.1, phi shape.root ∷ tops js) (map second_row (paired_rows phi inner)) (rows js)
        (subst (λ zs. IsPermutation zs (rows js)) (append-nil (map second_row (paired_rows phi inner)))
        (mirrored-rows phi inner Named.no_kid)))

    -- what holds of each row of both
    pairs_all : (X : PairedRow → Type 0) → AllByRecursion X laid.rows → AllByRecursion X pairs
    pairs_all X h = all_permuted X laid.rows pairs all_pairs h

    -- what holds of each row holds of those of the first tree
    pub one_all : (X : ℕ × List ℕ → Type 0) → AllByRecursion (λ r. X (first_row r)) laid.rows
        → AllByRecursion X rows_one
    one_all X h = subst (AllByRecursion X) same_one (all_images first_row X pairs (pairs_all (λ r. X (first_row r)) h))

    -- what holds of each row holds of those of the second tree
    two_all : (X : ℕ × List ℕ → Type 0) → AllByRecursion (λ r. X (second_row r)) laid.rows → AllByRecursion X rows_two
    two_all X h = all_permuted X (map second_row pairs) rows_two same_two
        (all_images second_row X pairs (pairs_all (λ r. X (second_row r)) h))

    -- the vertices of both
    pub verts_one : IsPermutation (row_verts prop.rows_u) (map (λ r. r.0) rows_one)
    verts_one = subst₂ IsPermutation (laid_verts phi prop.rows_u prop.rows_w laid.rows laid.laid).0
        (sym (map_map first_row (λ r. r.0) pairs) ∙ ap (map (λ r. r.0)) same_one)
        (IsPermutation-map (λ r. r.vertex.0) laid.rows pairs all_pairs)

    -- the vertices of the second tree
    verts_two : IsPermutation (row_verts prop.rows_w) (map (λ r. r.0) rows_two)
    verts_two = IsPermutation-trans (row_verts prop.rows_w) (map (λ r. r.0) (map second_row pairs))
        (map (λ r. r.0) rows_two)
        (subst₂ IsPermutation (laid_verts phi prop.rows_u prop.rows_w laid.rows laid.laid).1
        (sym (map_map second_row (λ r. r.0) pairs))
        (IsPermutation-map (λ r. r.vertex.1) laid.rows pairs all_pairs))
        (IsPermutation-map (λ r. r.0) (map second_row pairs) rows_two same_two)

    -- the leaves of the second
    word_two : word js ≡ reverse (map phi (word ks))
    word_two = mirrored-word phi inner Named.no_kid ∙ append-nil (reverse (map phi (word ks)))

    -- the vertices of both trees are different
    once : Distinct (row_verts prop.rows_u ++ row_verts prop.rows_w)
    once = Distinct-append_right stay (row_verts prop.rows_u ++ row_verts prop.rows_w)
        (names_once i j is_i p live u end shape edges_u prop)

    -- both trees are planted
    tree_one : IsPlantedTree i j is_i is_j put from (ends-IsMoved i j is_i p live u end shape edges_u prop)
        t u vv.0 shape.root ks
    tree_one = record {
      nodes = one_all (IsNodeOf i j is_i is_j put from (ends-IsMoved i j is_i p live u end shape edges_u prop) u)
          (all_then (Known t) (λ r. IsNodeOf i j is_i is_j put from
          (ends-IsMoved i j is_i p live u end shape edges_u prop) u (first_row r))
          laid.rows (λ r h. h.0) (known t laid.rows laid.laid));
      leaves = λ x h. (Has-Contains x (edges_of i u)).0
          (Has-IsPermutation x (shape.root ∷ word ks) (edges_of i u)
          (IsPermutation-sym (edges_of i u) (shape.root ∷ word ks) (word-edges_u (word ks) arr)) h);
      once = Distinct-IsPermutation (row_verts prop.rows_u) (map (λ r. r.0) rows_one) verts_one
          (Distinct-append_left (row_verts prop.rows_u) (row_verts prop.rows_w) once);
      turned = one_all (λ r. IsTurn r.1 (t r.0))
          (all_then (Holds t) (λ r. IsTurn r.edges (t r.vertex.0)) laid.rows (λ r h. h.0) laid.all_good);
    }

    -- the second tree is planted
    tree_two : IsPlantedTree i j is_i is_j put from (ends-IsMoved i j is_i p live u end shape edges_u prop)
        t v vv.1 (phi shape.root) js
    tree_two = record {
      nodes = two_all (IsNodeOf i j is_i is_j put from (ends-IsMoved i j is_i p live u end shape edges_u prop) v)
          (all_then (Known t) (λ r. IsNodeOf i j is_i is_j put from
          (ends-IsMoved i j is_i p live u end shape edges_u prop) v (second_row r))
          laid.rows (λ r h. h.1) (known t laid.rows laid.laid));
      leaves = λ x h. (Has-Contains x (edges_of i v)).0
          (Has-IsPermutation x (phi shape.root ∷ reverse (map phi (word ks))) (edges_of i v)
          (IsPermutation-sym (edges_of i v) (phi shape.root ∷ reverse (map phi (word ks))) (word-edges_w (word ks) arr))
          (subst (λ zs. Has x (phi shape.root ∷ zs)) word_two h));
      once = Distinct-IsPermutation (row_verts prop.rows_w) (map (λ r. r.0) rows_two) verts_two
          (Distinct-append_right (row_verts prop.rows_u) (row_verts prop.rows_w) once);
      turned = two_all (λ r. IsTurn r.1 (t r.0))
          (all_then (Holds t) (λ r. IsTurn r.others (t r.vertex.1)) laid.rows (λ r h. h.1) laid.all_good);
    }

    -- the vertices of j
    verts_j : IsPermutation (vert_names j) ((vv.0 ∷ verts ks) ++ ((vv.1 ∷ verts js) ++ stay))
    verts_j =
        let as_u : List ℕ = row_verts prop.rows_u in
        let as_w : List ℕ = row_verts prop.rows_w in
        IsPermutation-trans (vert_names j) (stay ++ (as_u ++ as_w)) ((vv.0 ∷ verts ks) ++ ((vv.1 ∷ verts js) ++ stay))
        (IsPermutation-sym (stay ++ (as_u ++ as_w)) (vert_names j) (verts_named i j p u shape prop))
        (IsPermutation-trans (stay ++ (as_u ++ as_w)) ((as_u ++ as_w) ++ stay)
        ((vv.0 ∷ verts ks) ++ ((vv.1 ∷ verts js) ++ stay))
        (IsPermutation-append_comm stay (as_u ++ as_w))
        (subst (λ zs. IsPermutation zs ((vv.0 ∷ verts ks) ++ ((vv.1 ∷ verts js) ++ stay)))
        (sym (append_assoc as_u as_w stay))
        (IsPermutation-append as_u (vv.0 ∷ verts ks) (as_w ++ stay) ((vv.1 ∷ verts js) ++ stay) verts_one
        (IsPermutation-append_left stay as_w (vv.1 ∷ verts js) verts_two))))

    -- so both systems have genus zero or none
    pub node-HasGenusZero : (s : ℕ → List ℕ)
        → IsTurn (shape.root ∷ word ks) (s u)
        → IsTurn (phi shape.root ∷ reverse (map phi (word ks))) (s v)
        → ((x : ℕ) → Has x stay → s x ≡ t x)
        → All (λ x. ArrangesEdges (graph i) x (s x)) (vert_names i)
        → All (λ x. ArrangesEdges (graph j) x (t x)) (vert_names j)
        → HasGenusZero (system (graph i) s) ↔ HasGenusZero (system (graph j) t)
    node-HasGenusZero s at_u at_w kept arranged_s arranged_t =
        planted_ends-HasGenusZero i j is_i is_j put from (ends-IsMoved i j is_i p live u end shape edges_u prop)
        t u v stay vv.0 vv.1 shape.root (phi shape.root) ks js tree_one tree_two verts_j
        s (verts_i i j is_i p live u end shape edges_u prop) at_u
        (subst (λ zs. IsTurn (phi shape.root ∷ zs) (s v)) (sym word_two) at_w)
        (λ z h. let n = Has_old i j is_i p live u end shape edges_u prop z h in
        (kept z h, λ y. put_old i j is_i p live u end shape edges_u prop z y n.1 n.2))
        arranged_s arranged_t
