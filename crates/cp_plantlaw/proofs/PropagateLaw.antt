-- Propagate keeps solutions (Bläsius, Rutter 2016; Bläsius, Fink, Rutter 2021): where the shape admits the list of the
-- end, a solution before it gives one after it, and each solution after it, read from the tree planted for the end, is
-- one before it.
use Rattle.std.proofs.Common.{◌≡◌, ◌≢◌, ℕ, suc, eqb, cond, List, [], ◌∷◌, ◌++◌, length, map, reverse, sym, refl, ap, ◌∙◌, subst, inl, inr, IsPermutation}
use Rattle.std.specs.Prelude.{take}
use Rattle.std.specs.List.{All, AllByRecursion, Contains}
use Rattle.std.proofs.lemmas.Bool.{cond-false, cond-true, eq-eqb, ne_eqb}
use Rattle.std.proofs.lemmas.List.{length-map}
use Rattle.std.proofs.lemmas.List.Elements.{All-contains}
use Rattle.std.proofs.lemmas.List.Sorted.{Contains-permutation, IsPermutation-sym, length_permutation}
use Rattle.cp_lists.specs.CyclicLists.{Distinct, Has, Lacks}
use Rattle.cp_lists.specs.Turns.{IsTurn}
use Rattle.cp_lists.proofs.DistinctLists.{Distinct-append_left, Has-append_left, Has-append_right, Has-Contains, Lacks-from, has_lacks}
use Rattle.cp_lists.proofs.FilteredLists.{filter-Distinct}
use Rattle.cp_lists.proofs.PermutedLists.{Distinct-IsPermutation, Has-IsPermutation}
use Rattle.cp_lists.proofs.TurnedLists.{turn-refl, turn-sym}
use Rattle.cp_base.specs.declared.shape.Shape.{Shape}
use Rattle.cp_base.specs.Shapes.{Admits, Reads, leaves}
use Rattle.cp_conn.specs.NamedGraphs.{ends_at}
use Rattle.cp_conn.proofs.NamedGraphs.{edges_at-Contains, map_has}
use Rattle.cp_board.specs.declared.parts.Pipe.{Pipe}
use Rattle.cp_board.specs.Instances.{Synchronized, IsSynchronized, edge_names, edges_of, graph, vert_names}
use Rattle.cp_board.specs.Names.{rising}
use Rattle.cp_board.specs.Plantings.{Planted}
use Rattle.cp_board.specs.Propagations.{IsPropagated}
use Rattle.cp_board.specs.Rotations.{ArrangesEdges}
use Rattle.cp_board.specs.Solutions.{IsSolvable, Solves}
use Rattle.cp_board.specs.Steps.{IsEnd, opposite, partner}
use Rattle.cp_synclaw.proofs.InstanceDarts.{edges_once}
use Rattle.cp_plantlaw.specs.NamedTrees.{Named, Paired, PairedRow, first, rows, tops, word}
use Rattle.cp_plantlaw.specs.Readings.{IsReadBack, ReadsBelow}
use Rattle.cp_plantlaw.proofs.FreshNames.{fresh_once, fresh_other}
use Rattle.cp_plantlaw.proofs.LaidTrees.{AreLaid, Kid, KidsLaid, kid_tops, kid_word}
use Rattle.cp_plantlaw.proofs.PairedTrees.{first_row}
use Rattle.cp_plantlaw.proofs.PropagatedBack.{Solves-from_trees, not_leaf, told, told_leaves, told_word}
use Rattle.cp_plantlaw.proofs.PropagatedEnds.{Has_old, edges_u-leaves, row_tops, tops_u, u_not_w}
use Rattle.cp_plantlaw.proofs.PropagatedRows.{forms, old_verts, row_verts, verts_named}
use Rattle.cp_plantlaw.proofs.PropagatedSolutions.{Solves-planted, t}
use Rattle.cp_plantlaw.proofs.PropagatedTrees.{Holds, all_both, all_then, laid-all, one_all, verts_one}
use Rattle.cp_plantlaw.proofs.ToldTrees.{HaveOneForm}
use Rattle.cp_plantlaw.proofs.RowPairs.{own_rows}
use Rattle.cp_plantlaw.proofs.ReadWords.{IsRead, no_top, node_reads, node_word, rows-IsRead, word-ReadsEach}

module _ (i j : Synchronized) (is_i : IsSynchronized i) (is_j : IsSynchronized j) (p : Pipe) (live : Contains i.pipes p)
    (u : ℕ) (end : IsEnd p u) (shape : Shape)
    (edges_u : rising (shape.root ∷ leaves shape.body) ≡ edges_of i u) (prop : IsPropagated i p u shape j) where
  -- where the shape admits the list of the end, the instance after the step is solvable
  pub IsSolvable-propagated : (s : ℕ → List ℕ) → Solves i s → Admits shape (s u) → IsSolvable j
  IsSolvable-propagated s sol admits = (
    t i j is_i is_j p live u end shape edges_u prop s sol admits.word admits.reads admits.turn,
    Solves-planted i j is_i is_j p live u end shape edges_u prop s sol admits.word admits.reads admits.turn,
  )

  -- the other end, and the partners
  abbrev w : ℕ
  w = opposite p u

  -- the partner of an edge of u
  abbrev phi : ℕ → ℕ
  phi = partner p u

  -- the edges from above are different, and none is an edge of i but the root
  fresh_u : (x y : ℕ) → Has x prop.edges_u → Has y (edge_names i) → x ≢ y
  fresh_u x y h k = fresh_other (edge_names i) (prop.edges_u ++ prop.edges_w) x y prop.new_edges
      (Has-append_left x prop.edges_u prop.edges_w h) k

  -- the root edge and the leaves are edges of i
  leaf_live : (x : ℕ) → Has x (shape.root ∷ leaves shape.body) → Has x (edge_names i)
  leaf_live x h =
      let all : List ℕ = shape.root ∷ leaves shape.body in
      (Has-Contains x (edge_names i)).1
      (edges_at-Contains (graph i) u x ((Has-Contains x (edges_of i u)).0
      (Has-IsPermutation x all (edges_of i u) (IsPermutation-sym (edges_of i u) all
      (edges_u-leaves i j is_i p live u end shape edges_u prop)) h))).0

  -- they are different
  leaves_once : Distinct (shape.root ∷ leaves shape.body)
  leaves_once = Distinct-IsPermutation (edges_of i u) (shape.root ∷ leaves shape.body)
      (edges_u-leaves i j is_i p live u end shape edges_u prop)
      (filter-Distinct (ends_at (graph i) u) (edge_names i) (edges_once i is_i))

  -- the edges from above of the first tree
  pub tops_are : row_tops prop.rows_u ≡ shape.root ∷ prop.edges_u
  tops_are = tops_u i j is_i p live u end shape edges_u prop

  -- no edge is from above of two rows
  pub tops_once : Distinct (row_tops prop.rows_u)
  tops_once = subst Distinct (sym tops_are) (
    Lacks-from shape.root prop.edges_u (λ h. fresh_u shape.root shape.root h (leaf_live shape.root (inl refl)) refl),
    Distinct-append_left prop.edges_u prop.edges_w (fresh_once (edge_names i)
        (prop.edges_u ++ prop.edges_w) prop.new_edges),
  )

  -- a leaf begins no row
  leaf_no_top : (x : ℕ) → Has x (leaves shape.body) → All (λ r. take 1 r.edges ≢ x ∷ []) prop.rows_u
  leaf_no_top x h = no_top prop.rows_u x (subst (Lacks x) (sym tops_are) (
    (λ e. has_lacks shape.root (leaves shape.body) (subst (λ y. Has y (leaves shape.body)) (sym e) h) leaves_once.0),
    Lacks-from x prop.edges_u (λ k. fresh_u x x k (leaf_live x (inr h)) refl),
  ))

  module _ (t : ℕ → List ℕ) (sol : Solves j t) where
    -- the list of a vertex of a row has each edge once
    row_list_once : (a : Planted) → Contains prop.rows_u a → Distinct (t a.vertex)
    row_list_once a c =
        let all : List ℕ = map (λ v. v.name) (old_verts i j p u shape prop) ++
        (row_verts prop.rows_u ++ row_verts prop.rows_w) in
        let here : Has a.vertex (row_verts prop.rows_u) =
        (Has-Contains a.vertex (row_verts prop.rows_u)).1 (map_has (λ (r : Planted). r.vertex) prop.rows_u a c) in
        let live_a : Contains (vert_names j) a.vertex =
        Contains-permutation all (vert_names j) a.vertex (verts_named i j p u shape prop) ((Has-Contains a.vertex all).0
        (Has-append_right a.vertex (map (λ v. v.name) (old_verts i j p u shape prop))
        (row_verts prop.rows_u ++ row_verts prop.rows_w)
        (Has-append_left a.vertex (row_verts prop.rows_u) (row_verts prop.rows_w) here))) in
        Distinct-IsPermutation (edges_of j a.vertex) (t a.vertex)
        (All-contains (λ x. ArrangesEdges (graph j) x (t x)) (vert_names j) a.vertex sol.rotation.arranged live_a)
        (filter-Distinct (ends_at (graph j) a.vertex) (edge_names j) (edges_once j is_j))

    -- a row of the first tree, with its planted row
    abbrev HasRow : ℕ × List ℕ → Type 0
    HasRow x = (r : Planted) × Contains prop.rows_u r × (take 1 r.edges ≡ take 1 x.1) × (r.vertex ≡ x.0)
        × IsTurn x.1 (t x.0) × Distinct (t x.0)

    -- the rows of the trees have planted rows and lists
    rows_have : (rs : List PairedRow) → AreLaid phi prop.rows_u prop.rows_w rs → AllByRecursion (Holds t) rs
        → AllByRecursion (λ r. HasRow (first_row r)) rs
    rows_have rs laid good =
        let R : Planted → Planted → Type 0 = λ (a b : Planted). Contains prop.rows_u a in
        let S : PairedRow → Type 0 = λ (r : PairedRow). (a : Planted) × Contains prop.rows_u a ×
        (take 1 a.edges ≡ take 1 r.edges)
        × (a.vertex ≡ r.vertex.0) in
        all_then (λ r. S r × Holds t r) (λ r. HasRow (first_row r)) rs
        (λ r h. (h.0.0, h.0.1, h.0.2, h.0.3, h.1.0, subst (λ x. Distinct (t x)) h.0.3 (row_list_once h.0.0 h.0.1)))
        (all_both S (Holds t) rs
        (laid-all phi R S (λ a b r c l. (
          a,
          c,
          ap (take 1) l.edges_a ∙ sym (ap (λ (z : PairedRow). take 1 z.edges) l.same_row),
          sym (ap (λ (z : PairedRow). z.vertex.0) l.same_row),
        )) prop.rows_u prop.rows_w rs
        (own_rows prop.rows_u prop.rows_u prop.rows_w (λ r c. c) HaveOneForm (forms i j p u shape prop)) laid) good)

    -- the tree of a kid with the root edges is read
    node_read : (v g : ℕ × ℕ) (inner : Paired) → g ≡ (shape.root, phi shape.root)
        → (laid : KidsLaid phi (Holds t) (Kid.node v g inner ∷ []) prop.rows_u prop.rows_w)
        → IsPermutation (leaves shape.body) (word (first inner))
        → IsRead prop.rows_u tops_once t (Named.node_kid v.0 shape.root (first inner) Named.no_kid)
    node_read v g inner same laid arr =
        let all = one_all i j is_i is_j p live u end shape edges_u prop t v g inner same laid arr HasRow
        (rows_have laid.rows laid.laid laid.all_good) in (
          all.0,
          (
            rows-IsRead prop.rows_u tops_once t (first inner) all.1
                (λ x h. leaf_no_top x (Has-IsPermutation x (word (first inner)) (leaves shape.body)
                (IsPermutation-sym (leaves shape.body) (word (first inner)) arr) h)),
            tt,
          ),
        )

    -- the leaves of a kid are what is read below the root edge
    kid_read : (kid : Kid) → kid_tops phi kid ≡ (shape.root, phi shape.root)
        → KidsLaid phi (Holds t) (kid ∷ []) prop.rows_u prop.rows_w
        → IsPermutation (leaves shape.body) (kid_word kid)
        → ReadsBelow prop.rows_u t shape.root (kid_word kid)
        × ((xs : List ℕ) → ReadsBelow prop.rows_u t shape.root xs → xs ≡ kid_word kid)
    kid_read (Kid.leaf x) same laid arr =
        absurd (not_leaf i j is_i is_j p live u end shape edges_u prop (Holds t) x laid)
    kid_read (Kid.node v g inner) same laid arr =
        let is = node_read v g inner same laid arr in
        let r : Planted = is.0.0 in (
          node_reads prop.rows_u tops_once t shape.root (first inner) r r.edges refl is.0.1 is.0.2
              (subst (λ z. IsTurn (t z) (shape.root ∷ tops (first inner))) (sym is.0.3)
              (turn-sym (shape.root ∷ tops (first inner)) (t v.0) is.0.4))
              (word-ReadsEach prop.rows_u tops_once t (first inner) is.1.0),
          λ xs reads. node_word prop.rows_u tops_once t v.0 shape.root (first inner) xs is reads,
        )

    -- the tree of a kid with the root edges has a node for each planted row
    kid_tree : (kid : Kid) → kid_tops phi kid ≡ (shape.root, phi shape.root)
        → KidsLaid phi (Holds t) (kid ∷ []) prop.rows_u prop.rows_w
        → IsPermutation (leaves shape.body) (kid_word kid)
        → (v : ℕ) × (ks : Named) × IsRead prop.rows_u tops_once t (Named.node_kid v shape.root ks Named.no_kid)
        × (length prop.rows_u ≡ suc (length (rows ks)))
        × IsPermutation (leaves shape.body) (word ks)
        × ReadsBelow prop.rows_u t shape.root (word ks)
    kid_tree (Kid.leaf x) same laid arr =
        absurd (not_leaf i j is_i is_j p live u end shape edges_u prop (Holds t) x laid)
    kid_tree (Kid.node v g inner) same laid arr =
        let size = length_permutation (row_verts prop.rows_u)
        (map (λ r. r.0) ((v.0, shape.root ∷ tops (first inner)) ∷ rows (first inner)))
        (verts_one i j is_i is_j p live u end shape edges_u prop t v g inner same laid arr) in (
          v.0,
          first inner,
          node_read v g inner same laid arr,
          sym (length-map prop.rows_u (λ (r : Planted). r.vertex)) ∙ sym size
              ∙ length-map ((v.0, shape.root ∷ tops (first inner)) ∷ rows (first inner)) (λ (r : ℕ × List ℕ). r.0),
          arr,
          (kid_read (Kid.node v g inner) same laid arr).0,
        )

    -- the word that the lists tell
    abbrev told_leaf_word : List ℕ
    told_leaf_word = told_word i j is_i is_j p live u end shape edges_u prop t sol

    -- it is what is read below the root edge, and nothing else is
    told_read : ReadsBelow prop.rows_u t shape.root told_leaf_word
        × ((xs : List ℕ) → ReadsBelow prop.rows_u t shape.root xs → xs ≡ told_leaf_word)
    told_read =
        let kid = told i j is_i is_j p live u end shape edges_u prop t sol in
        kid_read kid.kid kid.same_tops kid.laid (told_leaves i j is_i is_j p live u end shape edges_u prop t sol)

    -- the tree of the lists: the vertex of its first node, the kids of this, and what is read below the root edge
    pub told_tree : (v : ℕ) × (ks : Named) × IsRead prop.rows_u tops_once t (Named.node_kid v shape.root ks Named.no_kid)
        × (length prop.rows_u ≡ suc (length (rows ks)))
        × IsPermutation (leaves shape.body) (word ks)
        × ReadsBelow prop.rows_u t shape.root (word ks)
    told_tree =
        let kid = told i j is_i is_j p live u end shape edges_u prop t sol in
        kid_tree kid.kid kid.same_tops kid.laid (told_leaves i j is_i is_j p live u end shape edges_u prop t sol)

    -- lists that are read back from a solution after the step solve the instance before it
    pub read_back-Solves : (s : ℕ → List ℕ) → IsReadBack i p u shape.root prop.rows_u t s → Solves i s
    read_back-Solves s back =
        let same : back.word ≡ told_leaf_word = told_read.1 back.word back.reads in
        Solves-from_trees i j is_i is_j p live u end shape edges_u prop t sol s
        (subst (λ xs. IsTurn (shape.root ∷ xs) (s u)) same back.at_end)
        (subst (λ xs. IsTurn (reverse (map phi (shape.root ∷ xs))) (s w)) same back.at_other)
        (λ x h. let n = Has_old i j is_i p live u end shape edges_u prop x h in back.others x n.0 n.1 n.2)

    -- the shape admits the list that is read back
    pub read_back-Admits : (s : ℕ → List ℕ) → IsReadBack i p u shape.root prop.rows_u t s → Admits shape (s u)
    read_back-Admits s back =
        let kid = told i j is_i is_j p live u end shape edges_u prop t sol in
        record {
          word = back.word;
          reads = subst (Reads shape.body) (sym (told_read.1 back.word back.reads)) kid.reads;
          turn = back.at_end;
        }

    -- such lists exist
    pub read_back-some : (s : ℕ → List ℕ) × IsReadBack i p u shape.root prop.rows_u t s
    read_back-some =
        let differ : u ≢ w = u_not_w i j is_i p live u end shape edges_u prop in
        let one : List ℕ = shape.root ∷ told_leaf_word in
        let two : List ℕ = reverse (map phi one) in
        let s : ℕ → List ℕ = λ (x : ℕ). cond (eqb x u) one (cond (eqb x w) two (t x)) in
        let at_u : s u ≡ one = cond-true (eqb u u) one (cond (eqb u w) two (t u)) (eq-eqb u u refl) in
        let at_w : s w ≡ two =
        cond-false (eqb w u) one (cond (eqb w w) two (t w)) (ne_eqb w u (λ e. differ (sym e)))
        ∙ cond-true (eqb w w) two (t w) (eq-eqb w w refl) in (
          s,
          record {
            word = told_leaf_word;
            reads = told_read.0;
            at_end = subst (IsTurn one) (sym at_u) (turn-refl one);
            at_other = subst (IsTurn two) (sym at_w) (turn-refl two);
            others = λ x c nu nw.
                cond-false (eqb x u) one (cond (eqb x w) two (t x)) (ne_eqb x u nu)
                ∙ cond-false (eqb x w) two (t x) (ne_eqb x w nw);
          },
        )

    -- so the instance before the step is solvable
    pub IsSolvable-before : IsSolvable i
    IsSolvable-before = (read_back-some.0, read_back-Solves read_back-some.0 read_back-some.1)
