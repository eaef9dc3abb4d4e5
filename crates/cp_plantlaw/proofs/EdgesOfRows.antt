-- The edges of the vertices of both planted trees after Propagate, and the ends of all edges.
use Rattle.std.proofs.Common.{◌≡◌, ◌≢◌, ◌⊎◌, ℕ, List, [], ◌∷◌, ◌++◌, map, reverse, sym, refl, ap, ◌∙◌, subst, inl, inr, ⊎_elim, IsPermutation}
use Rattle.std.specs.List.{All, AllZip, Contains}
use Rattle.std.proofs.lemmas.Bool.{cases_eq}
use Rattle.std.proofs.lemmas.List.Elements.{All-append, All-contains, Contains-append_cases, Contains-append_left, Contains-append_right}
use Rattle.std.proofs.lemmas.List.Sorted.{All-permutation, Contains-permutation, IsPermutation-reverse, IsPermutation-sym, IsPermutation-trans}
use Rattle.cp_lists.specs.CyclicLists.{Distinct, Has, Lacks}
use Rattle.cp_lists.proofs.DistinctLists.{Distinct-append_left, Distinct-append_right, Distinct-apart, Distinct-apart_right, Has-append_left, Has-append_right, Has-Contains, has_lacks}
use Rattle.cp_base.specs.declared.shape.Shape.{Shape}
use Rattle.cp_base.specs.Shapes.{leaves}
use Rattle.cp_conn.proofs.NamedGraphs.{Contains-edges_at, joins_ends, map_from, map_has}
use Rattle.cp_board.specs.declared.parts.EdgeRow.{EdgeRow}
use Rattle.cp_board.specs.declared.parts.Pipe.{Pipe}
use Rattle.cp_board.specs.Changes.{moved_edges}
use Rattle.cp_board.specs.Instances.{Synchronized, IsSynchronized, edge_names, edges_of, ends_of, graph, vert_names}
use Rattle.cp_board.specs.Names.{rising}
use Rattle.cp_board.specs.Plantings.{Planted, holder, lower_end, tree_edges}
use Rattle.cp_board.specs.Propagations.{IsPropagated}
use Rattle.cp_board.specs.Steps.{IsEnd, opposite, partner}
use Rattle.cp_synclaw.proofs.InstanceDarts.{edges_once, live_at}
use Rattle.cp_plantlaw.proofs.FreshNames.{All-from_items, fresh_once, fresh_other}
use Rattle.cp_plantlaw.proofs.PlantedEdges.{new_ends-differ, row-edges_of}
use Rattle.cp_plantlaw.proofs.PropagatedEnds.{back, back_u, back_w, edges_u-leaves, edges_w-leaves, ends_by_row, held_u, held_w, holder_in, home, moved_row, names_once, old_Has, put, put_old, put_u, put_w, tops_u, tops_w, tree_ends}
use Rattle.cp_plantlaw.proofs.PropagatedRows.{HaveEdges, all_edges, edges_keep, forms, new_edges, old_verts, row_verts, verts_named}
use Rattle.cp_plantlaw.proofs.RowPairs.{own_others, own_rows, zip_both, zip_then}
use Rattle.cp_plantlaw.proofs.ToldTrees.{HaveOneForm}

-- a list is its own image
map_self : (xs : List ℕ) → map (λ x. x) xs ≡ xs
map_self [] = refl
map_self (x ∷ xs) = ap (λ zs. x ∷ zs) (map_self xs)

module _ (i j : Synchronized) (is_i : IsSynchronized i) (p : Pipe) (live : Contains i.pipes p)
    (u : ℕ) (end : IsEnd p u) (shape : Shape)
    (edges_u : rising (shape.root ∷ leaves shape.body) ≡ edges_of i u) (prop : IsPropagated i p u shape j) where
  -- the other end, the partners, and the vertices that stay
  abbrev w : ℕ
  w = opposite p u

  -- the partner of an edge of u
  abbrev phi : ℕ → ℕ
  phi = partner p u

  -- the names of the vertices that stay
  abbrev stay : List ℕ
  stay = map (λ v. v.name) (old_verts i j p u shape prop)

  -- the edges of both trees
  abbrev tree_u : List EdgeRow
  tree_u = tree_edges prop.rows_u prop.edges_u

  -- and those of the second tree
  abbrev tree_w : List EdgeRow
  tree_w = tree_edges prop.rows_w prop.edges_w

  -- the vertices of both trees are different
  rows_once : Distinct (row_verts prop.rows_u ++ row_verts prop.rows_w)
  rows_once = Distinct-append_right stay (row_verts prop.rows_u ++ row_verts prop.rows_w)
      (names_once i j is_i p live u end shape edges_u prop)

  -- the ends of their edges are among them
  ends_u : (e : EdgeRow) → Contains tree_u e → Has e.a (row_verts prop.rows_u) × Has e.b (row_verts prop.rows_u)
  ends_u = tree_ends i j is_i p live u end shape edges_u prop prop.rows_u prop.edges_u
      (λ x h. subst (Has x) (sym (tops_u i j is_i p live u end shape edges_u prop)) (inr h))

  -- and those of the second tree
  ends_w : (e : EdgeRow) → Contains tree_w e → Has e.a (row_verts prop.rows_w) × Has e.b (row_verts prop.rows_w)
  ends_w = tree_ends i j is_i p live u end shape edges_u prop prop.rows_w prop.edges_w
      (λ x h. subst (Has x) (sym (tops_w i j is_i p live u end shape edges_u prop)) (inr h))

  -- new edges are edges of j
  new_in_j : (e : EdgeRow) → Contains (new_edges i j p u shape prop) e → Contains j.edges e
  new_in_j e c = Contains-permutation (all_edges i j p u shape prop) j.edges e (edges_keep i j p u shape prop)
      (Contains-append_right (moved_edges i (λ x v. put i j is_i p live u end shape edges_u prop v x))
      (new_edges i j p u shape prop) e c)

  -- and none of i
  fresh : (e : ℕ) → Has e (prop.edges_u ++ prop.edges_w) → ¬ Contains (edge_names i) e
  fresh e h c = fresh_other (edge_names i) (prop.edges_u ++ prop.edges_w) e e prop.new_edges h
      ((Has-Contains e (edge_names i)).1 c) refl

  -- no new edge is named twice
  new_once : Distinct (prop.edges_u ++ prop.edges_w)
  new_once = fresh_once (edge_names i) (prop.edges_u ++ prop.edges_w) prop.new_edges

  -- the leaves at both ends
  leaves_u : IsPermutation (edges_of i u) (shape.root ∷ map (λ x. x) (leaves shape.body))
  leaves_u = subst (λ zs. IsPermutation (edges_of i u) (shape.root ∷ zs)) (sym (map_self (leaves shape.body)))
      (edges_u-leaves i j is_i p live u end shape edges_u prop)

  -- the edges of the other end are the partners of the root edge and the leaves
  leaves_w : IsPermutation (edges_of i w) (phi shape.root ∷ map phi (leaves shape.body))
  leaves_w =
      let all : List ℕ = map phi (shape.root ∷ leaves shape.body) in
      IsPermutation-trans (edges_of i w) (reverse all) all (edges_w-leaves i j is_i p live u end shape edges_u prop)
      (IsPermutation-sym all (reverse all) (IsPermutation-reverse all))

  -- a new edge is of this tree, or has no end at it
  others_u : (e : EdgeRow) → Contains (new_edges i j p u shape prop) e
      → Contains tree_u e ⊎ ((v : ℕ) → Has v (row_verts prop.rows_u) → (e.a ≢ v) × (e.b ≢ v))
  others_u e c = ⊎_elim
      (λ k. inl k)
      (λ k.
      let n = ends_w e k in
      inr (λ v h.
      let apart : Lacks v (row_verts prop.rows_w) = Distinct-apart v (row_verts prop.rows_u)
      (row_verts prop.rows_w) rows_once h in (
        (λ s. has_lacks v (row_verts prop.rows_w) (subst (λ y. Has y (row_verts prop.rows_w)) s n.0) apart),
        (λ s. has_lacks v (row_verts prop.rows_w) (subst (λ y. Has y (row_verts prop.rows_w)) s n.1) apart),
      )))
      (Contains-append_cases tree_u tree_w e c)

  -- a new edge is of the second tree, or has no end at it
  others_w : (e : EdgeRow) → Contains (new_edges i j p u shape prop) e
      → Contains tree_w e ⊎ ((v : ℕ) → Has v (row_verts prop.rows_w) → (e.a ≢ v) × (e.b ≢ v))
  others_w e c = ⊎_elim
      (λ k.
      let n = ends_u e k in
      inr (λ v h.
      let apart : Lacks v (row_verts prop.rows_u) = Distinct-apart_right v (row_verts prop.rows_u)
      (row_verts prop.rows_w) rows_once h in (
        (λ s. has_lacks v (row_verts prop.rows_u) (subst (λ y. Has y (row_verts prop.rows_u)) s n.0) apart),
        (λ s. has_lacks v (row_verts prop.rows_u) (subst (λ y. Has y (row_verts prop.rows_u)) s n.1) apart),
      )))
      (λ k. inl k)
      (Contains-append_cases tree_u tree_w e c)

  -- the edges of the vertex of a row of the first tree
  pub rows_u-edges : (r : Planted) → Contains prop.rows_u r → IsPermutation r.edges (edges_of j r.vertex)
  rows_u-edges = row-edges_of i j is_i p live u end shape edges_u prop u (λ x. x) shape.root prop.at_u prop.edges_u
      prop.rows_u prop.planted_u leaves_u
      (held_u i j is_i p live u end shape edges_u prop) (put_u i j is_i p live u end shape edges_u prop)
      (back_u i j is_i p live u end shape edges_u prop)
      (Distinct-append_left (row_verts prop.rows_u) (row_verts prop.rows_w) rows_once)
      (tops_u i j is_i p live u end shape edges_u prop)
      (λ e h. fresh e (Has-append_left e prop.edges_u prop.edges_w h))
      (Distinct-append_left prop.edges_u prop.edges_w new_once)
      (λ e c. new_in_j e (Contains-append_left tree_u tree_w e c)) others_u

  -- and of the second
  pub rows_w-edges : (r : Planted) → Contains prop.rows_w r → IsPermutation r.edges (edges_of j r.vertex)
  rows_w-edges = row-edges_of i j is_i p live u end shape edges_u prop w phi (phi shape.root) prop.at_w prop.edges_w
      prop.rows_w prop.planted_w leaves_w
      (held_w i j is_i p live u end shape edges_u prop) (put_w i j is_i p live u end shape edges_u prop)
      (back_w i j is_i p live u end shape edges_u prop)
      (Distinct-append_right (row_verts prop.rows_u) (row_verts prop.rows_w) rows_once)
      (tops_w i j is_i p live u end shape edges_u prop)
      (λ e h. fresh e (Has-append_right e prop.edges_u prop.edges_w h))
      (Distinct-append_right prop.edges_u prop.edges_w new_once)
      (λ e c. new_in_j e (Contains-append_right tree_u tree_w e c)) others_w

  -- so each two rows of one place have the edges of their vertices
  pub rows-HaveEdges : AllZip (HaveEdges i j p u shape prop) prop.rows_u prop.rows_w
  rows-HaveEdges =
      let hs : List Planted = prop.rows_u in
      let bs : List Planted = prop.rows_w in
      let U : Planted → Planted → Type 0 = λ (a b : Planted). Contains hs a in
      let W : Planted → Planted → Type 0 = λ (a b : Planted). Contains bs b in
      zip_then (λ a b. U a b × W a b) (HaveEdges i j p u shape prop) hs bs
      (λ a b h. (rows_u-edges a h.0, rows_w-edges b h.1))
      (zip_both U W hs bs (own_rows hs hs bs (λ r c. c) HaveOneForm (forms i j p u shape prop))
      (own_others bs hs bs (λ r c. c) HaveOneForm (forms i j p u shape prop)))

  -- the ends of a new edge differ
  differ_u : (e : ℕ) → Has e prop.edges_u → holder prop.rows_u e ≢ lower_end prop.rows_u e
  differ_u = new_ends-differ i j is_i p live u end shape edges_u prop u (λ x. x) shape.root prop.at_u prop.edges_u
      prop.rows_u prop.planted_u leaves_u
      (held_u i j is_i p live u end shape edges_u prop) (put_u i j is_i p live u end shape edges_u prop)
      (back_u i j is_i p live u end shape edges_u prop)
      (Distinct-append_left (row_verts prop.rows_u) (row_verts prop.rows_w) rows_once)
      (tops_u i j is_i p live u end shape edges_u prop)
      (λ e h. fresh e (Has-append_left e prop.edges_u prop.edges_w h))
      (Distinct-append_left prop.edges_u prop.edges_w new_once)
      (λ e c. new_in_j e (Contains-append_left tree_u tree_w e c)) others_u

  -- the ends of a new edge of the second tree differ
  differ_w : (e : ℕ) → Has e prop.edges_w → holder prop.rows_w e ≢ lower_end prop.rows_w e
  differ_w = new_ends-differ i j is_i p live u end shape edges_u prop w phi (phi shape.root) prop.at_w prop.edges_w
      prop.rows_w prop.planted_w leaves_w
      (held_w i j is_i p live u end shape edges_u prop) (put_w i j is_i p live u end shape edges_u prop)
      (back_w i j is_i p live u end shape edges_u prop)
      (Distinct-append_right (row_verts prop.rows_u) (row_verts prop.rows_w) rows_once)
      (tops_w i j is_i p live u end shape edges_u prop)
      (λ e h. fresh e (Has-append_right e prop.edges_u prop.edges_w h))
      (Distinct-append_right prop.edges_u prop.edges_w new_once)
      (λ e c. new_in_j e (Contains-append_right tree_u tree_w e c)) others_w

  -- a vertex that stays or is one of a row is one of j
  live_name : (x : ℕ) → Has x (stay ++ (row_verts prop.rows_u ++ row_verts prop.rows_w)) → Contains (vert_names j) x
  live_name x h = Contains-permutation (stay ++ (row_verts prop.rows_u ++ row_verts prop.rows_w)) (vert_names j) x
      (verts_named i j p u shape prop) ((Has-Contains x (stay ++ (row_verts prop.rows_u ++ row_verts prop.rows_w))).0 h)

  -- a vertex of a row of the first tree is one of j
  live_u_row : (x : ℕ) → Has x (row_verts prop.rows_u) → Contains (vert_names j) x
  live_u_row x h = live_name x (Has-append_right x stay (row_verts prop.rows_u ++ row_verts prop.rows_w)
      (Has-append_left x (row_verts prop.rows_u) (row_verts prop.rows_w) h))

  -- a vertex of a row of the second tree is one of j
  live_w_row : (x : ℕ) → Has x (row_verts prop.rows_w) → Contains (vert_names j) x
  live_w_row x h = live_name x (Has-append_right x stay (row_verts prop.rows_u ++ row_verts prop.rows_w)
      (Has-append_right x (row_verts prop.rows_u) (row_verts prop.rows_w) h))

  -- where an end moves there is a vertex of j
  put_live : (x e : ℕ) → Contains (edges_of i x) e
      → Contains (vert_names j) (put i j is_i p live u end shape edges_u prop x e)
  put_live x e c =
      let to : ℕ → ℕ → ℕ = put i j is_i p live u end shape edges_u prop in
      ⊎_elim
      (λ (s : x ≡ u).
      let here : Contains (edges_of i u) e = subst (λ y. Contains (edges_of i y) e) s c in
      subst (Contains (vert_names j)) (sym (ap (λ y. to y e) s ∙ put_u i j is_i p live u end shape edges_u prop e))
      (live_u_row (holder prop.rows_u e) (holder_in prop.rows_u e
      (held_u i j is_i p live u end shape edges_u prop e here))))
      (λ nu. ⊎_elim
      (λ (s : x ≡ w).
      let here : Contains (edges_of i w) e = subst (λ y. Contains (edges_of i y) e) s c in
      subst (Contains (vert_names j)) (sym (ap (λ y. to y e) s ∙ put_w i j is_i p live u end shape edges_u prop e))
      (live_w_row (holder prop.rows_w e) (holder_in prop.rows_w e
      (held_w i j is_i p live u end shape edges_u prop e here))))
      (λ nw. subst (Contains (vert_names j)) (sym (put_old i j is_i p live u end shape edges_u prop x e nu nw))
      (live_name x (Has-append_left x stay (row_verts prop.rows_u ++ row_verts prop.rows_w)
      (old_Has i j is_i p live u end shape edges_u prop x (live_at i is_i x e c) nu nw))))
      (cases_eq x w))
      (cases_eq x u)

  -- the ends of an edge of j are vertices of j, and differ
  abbrev pub AreEnds : EdgeRow → Type 0
  AreEnds e = (Contains (vert_names j) e.a × Contains (vert_names j) e.b) × (e.a ≢ e.b)

  -- an edge that was there ends at two different vertices of j
  moved_ends : (e : EdgeRow) → Contains i.edges e → AreEnds (moved_row i j is_i p live u end shape edges_u prop e)
  moved_ends e c =
      let named : Contains (edge_names i) e.name = map_has (λ (x : EdgeRow). x.name) i.edges e c in
      let ends : ends_of i e.name ≡ (e.a, e.b) = ends_by_row i j is_i p live u end shape edges_u prop i
      (edges_once i is_i) e c in
      let at_a : Contains (edges_of i e.a) e.name = Contains-edges_at (graph i) e.a e.name named
      (joins_ends (graph i) e.a e.b e.name (inl (ap (λ (y : ℕ × ℕ). y.0) ends, ap (λ (y : ℕ × ℕ). y.1) ends))) in
      let at_b : Contains (edges_of i e.b) e.name = Contains-edges_at (graph i) e.b e.name named
      (joins_ends (graph i) e.b e.a e.name (inr (ap (λ (y : ℕ × ℕ). y.0) ends, ap (λ (y : ℕ × ℕ). y.1) ends))) in (
        (put_live e.a e.name at_a, put_live e.b e.name at_b),
        λ same. All-contains (λ (x : EdgeRow). x.a ≢ x.b) i.edges e is_i.ends_differ c
            (sym (home i j is_i p live u end shape edges_u prop e.a e.name at_a)
            ∙ ap (back i j is_i p live u end shape edges_u prop) same
            ∙ home i j is_i p live u end shape edges_u prop e.b e.name at_b),
      )

  -- a new edge ends at two different vertices of j
  new_ends_right : (e : EdgeRow) → Contains (new_edges i j p u shape prop) e → AreEnds e
  new_ends_right e c = ⊎_elim
      (λ k.
      let n = ends_u e k in
      let q = map_from
      (λ (y : ℕ). record { name = y; a = holder prop.rows_u y; b = lower_end prop.rows_u y }) prop.edges_u e k in (
        (live_u_row e.a n.0, live_u_row e.b n.1),
        subst (λ (y : EdgeRow). y.a ≢ y.b) q.2 (differ_u q.0 ((Has-Contains q.0 prop.edges_u).1 q.1)),
      ))
      (λ k.
      let n = ends_w e k in
      let q = map_from
      (λ (y : ℕ). record { name = y; a = holder prop.rows_w y; b = lower_end prop.rows_w y }) prop.edges_w e k in (
        (live_w_row e.a n.0, live_w_row e.b n.1),
        subst (λ (y : EdgeRow). y.a ≢ y.b) q.2 (differ_w q.0 ((Has-Contains q.0 prop.edges_w).1 q.1)),
      ))
      (Contains-append_cases tree_u tree_w e c)

  -- each edge of j ends at two different vertices of j
  pub ends_right : All AreEnds j.edges
  ends_right =
      let moved : List EdgeRow = moved_edges i (λ x v. put i j is_i p live u end shape edges_u prop v x) in
      All-permutation AreEnds (all_edges i j p u shape prop) j.edges (edges_keep i j p u shape prop)
      (All-append AreEnds moved (new_edges i j p u shape prop)
      (All-from_items AreEnds moved (λ e c.
      let q = map_from (moved_row i j is_i p live u end shape edges_u prop) i.edges e c in
      subst AreEnds q.2 (moved_ends q.0 q.1)))
      (All-from_items AreEnds (new_edges i j p u shape prop) new_ends_right))
