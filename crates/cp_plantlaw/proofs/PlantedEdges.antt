-- The edges of the vertices of a planted tree after Propagate are those of its rows.
use Rattle.std.proofs.Common.{◌≡◌, ◌≢◌, ◌⊎◌, ℕ, suc, true, false, List, [], ◌∷◌, ◌++◌, map, sym, refl, ap, ◌∙◌, subst, inl, inr, ⊎_elim, arith, IsPermutation}
use Rattle.std.specs.Prelude.{Option, Some, drop, find, take}
use Rattle.std.specs.List.{Contains}
use Rattle.std.specs.Option.{option_map_or}
use Rattle.std.proofs.lemmas.Bool.{cases_Bool, cond-false, cond-true}
use Rattle.std.proofs.lemmas.List.Elements.{Contains-append_cases}
use Rattle.std.proofs.lemmas.List.Sorted.{Contains-permutation, IsPermutation-sym}
use Rattle.cp_lists.specs.CyclicLists.{Distinct, Has, Lacks}
use Rattle.cp_lists.specs.Rows.{flat}
use Rattle.cp_lists.proofs.DistinctLists.{Distinct-append, Distinct-append_left, Distinct-append_right, Has-append_cases, Has-append_right, Has-Contains, Lacks-from, has_lacks}
use Rattle.cp_lists.proofs.FilteredLists.{filter-Distinct}
use Rattle.cp_lists.proofs.PermutedLists.{Distinct-IsPermutation, Has-IsPermutation, IsPermutation-from}
use Rattle.cp_orbits.proofs.ClassLabels.{Contains-cons_cases}
use Rattle.cp_base.specs.declared.shape.Shape.{Shape}
use Rattle.cp_base.specs.Shapes.{leaves}
use Rattle.cp_conn.specs.NamedGraphs.{ends_at, far}
use Rattle.cp_conn.proofs.NamedGraphs.{Contains-edges_at, edges_at-Contains, far_joins, joins_ends, map_from, map_has}
use Rattle.cp_board.proofs.ListTests.{Contains-from_has}
use Rattle.cp_board.specs.declared.parts.EdgeRow.{EdgeRow}
use Rattle.cp_board.specs.declared.parts.Pipe.{Pipe}
use Rattle.cp_board.specs.Changes.{moved_edges}
use Rattle.cp_board.specs.Instances.{Synchronized, IsSynchronized, edge_names, edges_of, ends_of, graph}
use Rattle.cp_board.specs.Names.{has, rising}
use Rattle.cp_board.specs.Plantings.{Planted, Plants, holder, lower_end, tree_edges}
use Rattle.cp_board.specs.Propagations.{IsPropagated}
use Rattle.cp_board.specs.Steps.{IsEnd}
use Rattle.cp_synclaw.proofs.InstanceDarts.{edges_once}
use Rattle.cp_plantlaw.proofs.ApartPipes.{one_name, one_owner, owned}
use Rattle.cp_plantlaw.proofs.FreshNames.{has-true}
use Rattle.cp_plantlaw.proofs.MovedEnds.{moved_at}
use Rattle.cp_plantlaw.proofs.PlantedOrder.{Led, holder-of_row, planted-Led, planted-tails, row_tails, tail_of_row, top-no_tail}
use Rattle.cp_plantlaw.proofs.PropagatedEnds.{back, edges_j_once, ends-IsMoved, ends_by_row, home, moved_row, put, row_tops, tops_edges}
use Rattle.cp_plantlaw.proofs.PropagatedRows.{all_edges, edges_keep, new_edges, row_edges, row_verts}
use Rattle.cp_plantlaw.proofs.ReadWords.{tops_flat}

-- the first row that has an item x among what `pick` takes of it, if there is one
first_found : (pick : Planted → List ℕ) (rows : List Planted) (x : ℕ) → Has x (flat (map pick rows))
    → (r : Planted) × Contains rows r × Has x (pick r)
    × (option_map_or (λ q. q.vertex) (find (λ q. has (pick q) x) rows) 0 ≡ r.vertex)
first_found pick [] x h = absurd h
first_found pick (q ∷ rows) x h =
    let rest : Option Planted = find (λ (y : Planted). has (pick y) x) rows in
    let vertex : Option Planted → ℕ = λ (o : Option Planted). option_map_or (λ (y : Planted). y.vertex) o 0 in
    ⊎_elim
    (λ k. (
      q,
      (0, omega arith, refl),
      k,
      ap vertex (cond-true (has (pick q) x) (Some q) rest (has-true (pick q) x k)),
    ))
    (λ k.
    let later = first_found pick rows x k in
    ⊎_elim
    (λ (t : has (pick q) x ≡ true). (
      q,
      (0, omega arith, refl),
      (Has-Contains x (pick q)).1 (Contains-from_has (pick q) x t),
      ap vertex (cond-true (has (pick q) x) (Some q) rest t),
    ))
    (λ (f : has (pick q) x ≡ false). (
      later.0,
      (suc later.1.0, omega (arith, later.1.1), later.1.2),
      later.2,
      ap vertex (cond-false (has (pick q) x) (Some q) rest f) ∙ later.3,
    ))
    (cases_Bool (has (pick q) x)))
    (Has-append_cases x (pick q) (flat (map pick rows)) h)

-- a list that is not empty is its first item and the others
whole_list : (es : List ℕ) (x : ℕ) → Has x es → Has x (take 1 es) ⊎ Has x (drop 1 es)
whole_list [] x h = absurd h
whole_list (e ∷ es) x h = ⊎_elim (λ s. inl (inl s)) (λ k. inr k) h

-- the lists of rows of distinct tails are distinct
tail_once : (rows : List Planted) (r : Planted) → Distinct (row_tails rows) → Contains rows r
    → Distinct (drop 1 r.edges)
tail_once [] r once c = absurd (omega (arith, c.1))
tail_once (q ∷ rows) r once c = ⊎_elim
    (λ (e : q ≡ r). subst (λ (y : Planted). Distinct (drop 1 y.edges)) e
    (Distinct-append_left (drop 1 q.edges) (row_tails rows) once))
    (λ k. tail_once rows r (Distinct-append_right (drop 1 q.edges) (row_tails rows) once) k)
    (Contains-cons_cases q r rows c)

-- a list whose first item is not among the others, which are distinct
whole_once : (es : List ℕ) → Distinct (drop 1 es) → ((x : ℕ) → Has x (take 1 es) → Has x (drop 1 es) → ⊥) → Distinct es
whole_once [] once apart = tt
whole_once (e ∷ es) once apart = (Lacks-from e es (λ h. apart e (inl refl) h), once)

module _ (i j : Synchronized) (is_i : IsSynchronized i) (p : Pipe) (live : Contains i.pipes p)
    (u : ℕ) (end : IsEnd p u) (shape : Shape)
    (edges_u : rising (shape.root ∷ leaves shape.body) ≡ edges_of i u) (prop : IsPropagated i p u shape j) where
  -- where ends move, and from where they came
  abbrev to : ℕ → ℕ → ℕ
  to = put i j is_i p live u end shape edges_u prop

  -- the vertex of i from which an end came
  abbrev from : ℕ → ℕ
  from = back i j is_i p live u end shape edges_u prop

  -- a tree in the place of x: its rows, its root edge and its new edges, whose rows are rows of j; and other new edges,
  -- which have no end at it
  module _ (x : ℕ) (f : ℕ → ℕ) (top : ℕ) (vs es : List ℕ) (rows : List Planted)
      (planted : Plants f shape.body top vs (top ∷ es) rows)
      (edges_x : IsPermutation (edges_of i x) (top ∷ map f (leaves shape.body)))
      (held : (e : ℕ) → Contains (edges_of i x) e → Has e (row_edges rows))
      (to_x : (e : ℕ) → to x e ≡ holder rows e)
      (from_x : (v : ℕ) → Has v (row_verts rows) → from v ≡ x)
      (verts_once : Distinct (row_verts rows))
      (tops_are : row_tops rows ≡ top ∷ es)
      (new : (e : ℕ) → Has e es → ¬ Contains (edge_names i) e)
      (es_once : Distinct es)
      (ours : (e : EdgeRow) → Contains (tree_edges rows es) e → Contains j.edges e)
      (others : (e : EdgeRow) → Contains (new_edges i j p u shape prop) e
      → Contains (tree_edges rows es) e ⊎ ((v : ℕ) → Has v (row_verts rows) → (e.a ≢ v) × (e.b ≢ v))) where
    -- the root edge and the leaves are different edges of x
    leaves_once : Distinct (top ∷ map f (leaves shape.body))
    leaves_once = Distinct-IsPermutation (edges_of i x) (top ∷ map f (leaves shape.body)) edges_x
        (filter-Distinct (ends_at (graph i) x) (edge_names i) (edges_once i is_i))

    -- an edge of x, as one of the leaves or the root edge
    leaf_edge : (e : ℕ) → Has e (top ∷ map f (leaves shape.body)) → Contains (edges_of i x) e
    leaf_edge e h = (Has-Contains e (edges_of i x)).0
        (Has-IsPermutation e (top ∷ map f (leaves shape.body)) (edges_of i x)
        (IsPermutation-sym (edges_of i x) (top ∷ map f (leaves shape.body)) edges_x) h)

    -- edges of x and new edges differ
    apart_new : (e : ℕ) → Has e (top ∷ map f (leaves shape.body)) → Has e es → ⊥
    apart_new e h k = new e k (edges_at-Contains (graph i) x e (leaf_edge e h)).0

    -- the root edge and the edges to kids are different
    tails : IsPermutation (top ∷ row_tails rows) (map f (leaves shape.body) ++ top ∷ es)
    tails = planted-tails f shape.body top vs (top ∷ es) rows planted

    -- so no edge goes to two kids
    tails_once : Distinct (top ∷ row_tails rows)
    tails_once =
        let ls : List ℕ = map f (leaves shape.body) in
        Distinct-IsPermutation (ls ++ top ∷ es) (top ∷ row_tails rows)
        (IsPermutation-sym (top ∷ row_tails rows) (ls ++ top ∷ es) tails)
        (Distinct-append ls (top ∷ es) leaves_once.1
        (Lacks-from top es (λ k. apart_new top (inl refl) k), es_once)
        (λ e h. (
          (λ s. has_lacks top ls (subst (λ y. Has y ls) (sym s) h) leaves_once.0),
          Lacks-from e es (λ k. apart_new e (inr h) k),
        )))

    -- no edge is from above of two rows
    tops_once : Distinct (row_tops rows)
    tops_once = subst Distinct (sym tops_are) (Lacks-from top es (λ k. apart_new top (inl refl) k), es_once)

    -- each row stands behind that of its parent
    led : Led (top ∷ []) rows
    led = planted-Led f shape.body top vs (top ∷ es) rows planted (top ∷ []) (inl refl)

    -- a new edge has its ends at its holder and at its lower end
    new_ends_are : (e : ℕ) → Has e es → ends_of j e ≡ (holder rows e, lower_end rows e)
    new_ends_are e h =
        let row : EdgeRow = record { name = e; a = holder rows e; b = lower_end rows e } in
        ends_by_row i j is_i p live u end shape edges_u prop j
        (edges_j_once i j is_i p live u end shape edges_u prop) row
        (ours row (map_has (λ (y : ℕ). record { name = y; a = holder rows y; b = lower_end rows y }) es e
        ((Has-Contains e es).0 h)))

    -- a new edge is one of j
    new_live : (e : ℕ) → Has e es → Contains (edge_names j) e
    new_live e h =
        let row : EdgeRow = record { name = e; a = holder rows e; b = lower_end rows e } in
        map_has (λ (y : EdgeRow). y.name) j.edges row
        (ours row (map_has (λ (y : ℕ). record { name = y; a = holder rows y; b = lower_end rows y }) es e
        ((Has-Contains e es).0 h)))

    -- a new edge ends at its holder
    at_holder : (e : ℕ) → Has e es → Contains (edges_of j (holder rows e)) e
    at_holder e h = Contains-edges_at (graph j) (holder rows e) e (new_live e h)
        (joins_ends (graph j) (holder rows e) (lower_end rows e) e
        (inl (ap (λ (y : ℕ × ℕ). y.0) (new_ends_are e h), ap (λ (y : ℕ × ℕ). y.1) (new_ends_are e h))))

    -- a new edge ends at its lower end
    at_lower : (e : ℕ) → Has e es → Contains (edges_of j (lower_end rows e)) e
    at_lower e h = Contains-edges_at (graph j) (lower_end rows e) e (new_live e h)
        (joins_ends (graph j) (lower_end rows e) (holder rows e) e
        (inr (ap (λ (y : ℕ × ℕ). y.0) (new_ends_are e h), ap (λ (y : ℕ × ℕ). y.1) (new_ends_are e h))))

    -- an edge of x has its end at its holder
    at_old : (e : ℕ) → Contains (edges_of i x) e → Contains (edges_of j (holder rows e)) e
    at_old e c = subst (λ v. Contains (edges_of j v) e) (to_x e)
        (moved_at i j to from (ends-IsMoved i j is_i p live u end shape edges_u prop) x e c)

    -- a row with this vertex is this row
    one_row : (q r : Planted) → Contains rows q → Contains rows r → q.vertex ≡ r.vertex → q ≡ r
    one_row q r cq cr e = one_name (λ (y : Planted). y.vertex) rows q r verts_once cq cr e

    -- a row with this edge from above is this row
    one_top : (q r : Planted) (e : ℕ) → Contains rows q → Contains rows r → Has e (take 1 q.edges)
        → Has e (take 1 r.edges) → q ≡ r
    one_top q r e cq cr hq hr = one_owner (λ (y : Planted). take 1 y.edges) rows q r e
        (subst Distinct (tops_flat rows) tops_once) cq cr hq hr

    -- the edges of a row are edges of its vertex
    row_edge : (r : Planted) → Contains rows r → (e : ℕ) → Has e r.edges → Contains (edges_of j r.vertex) e
    row_edge r c e h = ⊎_elim
        (λ first.
        let is_top : Has e (top ∷ es) = subst (Has e) tops_are (subst (Has e) (sym (tops_flat rows))
        (owned (λ (y : Planted). take 1 y.edges) rows r e c first)) in
        ⊎_elim
        (λ (s : top ≡ e).
        let q = first_found (λ y. y.edges) rows e (held e (leaf_edge e (inl s))) in
        let here : Contains (edges_of j q.0.vertex) e = subst (λ v. Contains (edges_of j v) e) q.3
        (at_old e (leaf_edge e (inl s))) in
        let same : q.0 ≡ r = ⊎_elim
        (λ k. one_top q.0 r e q.1 c k first)
        (λ k. absurd (has_lacks e (row_tails rows) (tail_of_row rows q.0 e q.1 k)
        (subst (λ y. Lacks y (row_tails rows)) s tails_once.0)))
        (whole_list q.0.edges e q.2) in
        subst (λ (y : Planted). Contains (edges_of j y.vertex) e) same here)
        (λ k.
        let q = first_found (λ y. take 1 y.edges) rows e (subst (Has e) (sym tops_are) (inr k)) in
        let same : q.0 ≡ r = one_top q.0 r e q.1 c q.2 first in
        subst (λ v. Contains (edges_of j v) e) (q.3 ∙ ap (λ (y : Planted). y.vertex) same) (at_lower e k))
        is_top)
        (λ later.
        let held_by : holder rows e ≡ r.vertex = holder-of_row (top ∷ []) rows led tails_once r e c later in
        let in_tails : Has e (row_tails rows) = tail_of_row rows r e c later in
        subst (λ v. Contains (edges_of j v) e) held_by
        (⊎_elim
        (λ k. at_old e (leaf_edge e (inr k)))
        (λ k. ⊎_elim
        (λ (s : top ≡ e). absurd (has_lacks e (row_tails rows) in_tails
        (subst (λ y. Lacks y (row_tails rows)) s tails_once.0)))
        (λ l. at_holder e l) k)
        (Has-append_cases e (map f (leaves shape.body)) (top ∷ es)
        (Has-IsPermutation e (top ∷ row_tails rows) (map f (leaves shape.body) ++ top ∷ es) tails (inr in_tails)))))
        (whole_list r.edges e h)

    -- an edge of the vertex of a row is one of the row
    edge_row : (r : Planted) → Contains rows r → (e : ℕ) → Contains (edges_of j r.vertex) e → Has e r.edges
    edge_row r c e h =
        let k = edges_at-Contains (graph j) r.vertex e h in
        let row = map_from (λ (y : EdgeRow). y.name) j.edges e k.0 in
        let once = edges_j_once i j is_i p live u end shape edges_u prop in
        let row_ends : ends_of j e ≡ (row.0.a, row.0.b) =
        ap (ends_of j) (sym row.2) ∙ ends_by_row i j is_i p live u end shape edges_u prop j once row.0 row.1 in
        let here : (row.0.a ≡ r.vertex) ⊎ (row.0.b ≡ r.vertex) = ⊎_elim
        (λ (s : ((ends_of j e).0 ≡ r.vertex) × ((ends_of j e).1 ≡ far (graph j) r.vertex e)).
        inl (sym (ap (λ (y : ℕ × ℕ). y.0) row_ends) ∙ s.0))
        (λ s. inr (sym (ap (λ (y : ℕ × ℕ). y.1) row_ends) ∙ s.1))
        (far_joins (graph j) r.vertex e k.1) in
        let at : Has r.vertex (row_verts rows) =
        (Has-Contains r.vertex (row_verts rows)).1 (map_has (λ (y : Planted). y.vertex) rows r c) in
        let moved : List EdgeRow = moved_edges i (λ v y. to y v) in
        ⊎_elim
        (λ m. old_edge r c at e row.0 row.2
        (map_from (moved_row i j is_i p live u end shape edges_u prop) i.edges row.0 m) here)
        (λ m. ⊎_elim
        (λ t. tree_edge r c e row.0 row.2 t here)
        (λ n. let v = n r.vertex at in ⊎_elim (λ s. absurd (v.0 s)) (λ s. absurd (v.1 s)) here)
        (others row.0 m))
        (Contains-append_cases moved (new_edges i j p u shape prop) row.0
        (Contains-permutation j.edges (all_edges i j p u shape prop) row.0
        (IsPermutation-sym (all_edges i j p u shape prop) j.edges (edges_keep i j p u shape prop)) row.1))
      where
        -- an edge of i with an end there
        old_edge : (r : Planted) → Contains rows r → Has r.vertex (row_verts rows) → (e : ℕ) (row : EdgeRow)
            → row.name ≡ e
            → (q : EdgeRow) × Contains i.edges q × (moved_row i j is_i p live u end shape edges_u prop q ≡ row)
            → (row.a ≡ r.vertex) ⊎ (row.b ≡ r.vertex) → Has e r.edges
        old_edge r c at e row named q here =
            let name : q.0.name ≡ e = ap (λ (y : EdgeRow). y.name) q.2 ∙ named in
            let live_e : Contains (edge_names i) e = subst (Contains (edge_names i)) name
            (map_has (λ (y : EdgeRow). y.name) i.edges q.0 q.1) in
            let old_ends : ends_of i e ≡ (q.0.a, q.0.b) =
            ap (ends_of i) (sym name) ∙ ends_by_row i j is_i p live u end shape edges_u prop i
            (edges_once i is_i) q.0 q.1 in
            let at_a : Contains (edges_of i q.0.a) e = Contains-edges_at (graph i) q.0.a e live_e
            (joins_ends (graph i) q.0.a q.0.b e (inl (
              ap (λ (y : ℕ × ℕ). y.0) old_ends,
              ap
                  (λ (y : ℕ × ℕ). y.1) old_ends,
            ))) in
            let at_b : Contains (edges_of i q.0.b) e = Contains-edges_at (graph i) q.0.b e live_e
            (joins_ends (graph i) q.0.b q.0.a e (inr (
              ap (λ (y : ℕ × ℕ). y.0) old_ends,
              ap
                  (λ (y : ℕ × ℕ). y.1) old_ends,
            ))) in
            let done : (y : ℕ) → Contains (edges_of i y) e → to y e ≡ r.vertex → Has e r.edges =
            λ y cy s.
            let same : y ≡ x = sym (home i j is_i p live u end shape edges_u prop y e cy) ∙ ap from s
            ∙ from_x r.vertex at in
            let cx : Contains (edges_of i x) e = subst (λ z. Contains (edges_of i z) e) same cy in
            let g = first_found (λ z. z.edges) rows e (held e cx) in
            let one : g.0 ≡ r = one_row g.0 r g.1 c (sym g.3 ∙ sym (to_x e) ∙ ap (λ z. to z e) (sym same) ∙ s) in
            subst (λ (z : Planted). Has e z.edges) one g.2 in
            ⊎_elim
            (λ s. done q.0.a at_a (ap (to q.0.a) (sym name) ∙ ap (λ (y : EdgeRow). y.a) q.2 ∙ s))
            (λ s. done q.0.b at_b (ap (to q.0.b) (sym name) ∙ ap (λ (y : EdgeRow). y.b) q.2 ∙ s))
            here

        -- a new edge with an end there
        tree_edge : (r : Planted) → Contains rows r → (e : ℕ) (row : EdgeRow) → row.name ≡ e
            → Contains (tree_edges rows es) row → (row.a ≡ r.vertex) ⊎ (row.b ≡ r.vertex) → Has e r.edges
        tree_edge r c e row named t here =
            let q = map_from (λ (y : ℕ). record { name = y; a = holder rows y; b = lower_end rows y }) es row t in
            let name : q.0 ≡ e = ap (λ (y : EdgeRow). y.name) q.2 ∙ named in
            let top_of : Has e (row_tops rows) = subst (Has e) (sym tops_are)
            (inr (subst (λ y. Has y es) name ((Has-Contains q.0 es).1 q.1))) in
            ⊎_elim
            (λ (s : row.a ≡ r.vertex).
            let g = first_found (λ z. z.edges) rows e (tops_edges rows e top_of) in
            let one : g.0 ≡ r = one_row g.0 r g.1 c
            (sym g.3 ∙ ap (holder rows) (sym name) ∙ ap (λ (y : EdgeRow). y.a) q.2 ∙ s) in
            subst (λ (z : Planted). Has e z.edges) one g.2)
            (λ (s : row.b ≡ r.vertex).
            let g = first_found (λ z. take 1 z.edges) rows e top_of in
            let one : g.0 ≡ r = one_row g.0 r g.1 c
            (sym g.3 ∙ ap (lower_end rows) (sym name) ∙ ap (λ (y : EdgeRow). y.b) q.2 ∙ s) in
            subst (λ (z : Planted). Has e z.edges) one (first_item g.0.edges e g.2))
            here
          where
            first_item : (ls : List ℕ) (y : ℕ) → Has y (take 1 ls) → Has y ls
            first_item [] y k = absurd k
            first_item (l ∷ ls) y k = ⊎_elim (λ s. inl s) (λ none. absurd none) k

    -- so the edges of the vertex of a row are those of the row
    pub row-edges_of : (r : Planted) → Contains rows r → IsPermutation r.edges (edges_of j r.vertex)
    row-edges_of r c = IsPermutation-from r.edges (edges_of j r.vertex)
        (whole_once r.edges (tail_once rows r tails_once.1 c)
        (λ e top_e tail_e. top-no_tail (top ∷ []) rows led tails_once r e c top_e tail_e))
        (filter-Distinct (ends_at (graph j) r.vertex) (edge_names j)
        (edges_j_once i j is_i p live u end shape edges_u prop))
        (λ e h. (Has-Contains e (edges_of j r.vertex)).1 (row_edge r c e h))
        (λ e h. edge_row r c e ((Has-Contains e (edges_of j r.vertex)).0 h))

    -- a new edge is one to a kid of some row
    tail_row : (rs : List Planted) (e : ℕ) → Has e (row_tails rs)
        → (r : Planted) × Contains rs r × Has e (drop 1 r.edges)
    tail_row [] e h = absurd h
    tail_row (q ∷ rs) e h = ⊎_elim
        (λ k. (q, (0, omega arith, refl), k))
        (λ k. let t = tail_row rs e k in (t.0, (suc t.1.0, omega (arith, t.1.1), t.1.2), t.2))
        (Has-append_cases e (drop 1 q.edges) (row_tails rs) h)

    -- the two ends of a new edge differ
    pub new_ends-differ : (e : ℕ) → Has e es → holder rows e ≢ lower_end rows e
    new_ends-differ e h same =
        let in_tails : Has e (row_tails rows) = ⊎_elim
        (λ (s : top ≡ e). absurd (apart_new top (inl refl) (subst (λ y. Has y es) (sym s) h)))
        (λ k. k)
        (Has-IsPermutation e (map f (leaves shape.body) ++ top ∷ es) (top ∷ row_tails rows)
        (IsPermutation-sym (top ∷ row_tails rows) (map f (leaves shape.body) ++ top ∷ es) tails)
        (Has-append_right e (map f (leaves shape.body)) (top ∷ es) (inr h))) in
        let r = tail_row rows e in_tails in
        let q = first_found (λ y. take 1 y.edges) rows e (subst (Has e) (sym tops_are) (inr h)) in
        let one : q.0 ≡ r.0 = one_row q.0 r.0 q.1 r.1
        (sym q.3 ∙ sym same ∙ holder-of_row (top ∷ []) rows led tails_once r.0 e r.1 r.2) in
        top-no_tail (top ∷ []) rows led tails_once r.0 e r.1 (subst
        (λ (y : Planted). Has e (take 1 y.edges)) one q.2) r.2
