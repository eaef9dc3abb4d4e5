-- Where the ends of edges move under Propagate.
use Rattle.std.proofs.Common.{◌≡◌, ◌≢◌, ◌⊎◌, ℕ, Bool, true, false, not, cond, eqb, List, [], ◌∷◌, ◌++◌, append_assoc, length, map, reverse, sym, refl, ap, ap₂, ◌∙◌, subst, inl, inr, ⊎_elim, arith, IsPermutation}
use Rattle.std.specs.Prelude.{Option, Some, filter, find, take}
use Rattle.std.specs.List.{Contains}
use Rattle.std.specs.Option.{option_map_or}
use Rattle.std.proofs.lemmas.Bool.{cases_Bool, cases_eq, cond-false, cond-true, eq-eqb, ne_eqb, false≢true}
use Rattle.std.proofs.lemmas.List.{length-append, length-map, map-append}
use Rattle.std.proofs.lemmas.List.Elements.{All-contains, All-contains_itself, Contains-append_cases}
use Rattle.std.proofs.lemmas.List.Sorted.{Contains-permutation, IsPermutation-sym, length_permutation, IsPermutation-map}
use Rattle.cp_lists.specs.CyclicLists.{Distinct, Has, Lacks}
use Rattle.cp_lists.specs.Rows.{flat}
use Rattle.cp_lists.proofs.DistinctLists.{Distinct-apart, Distinct-apart_right, Distinct-append_right, Has-append_cases, Has-append_left, Has-append_right, Has-Contains, Lacks-append_left, Lacks-append_right, Lacks-from, has_lacks, Distinct-append}
use Rattle.cp_lists.proofs.FilteredLists.{filter-Distinct}
use Rattle.cp_lists.proofs.MappedLists.{map_on-Has}
use Rattle.cp_lists.proofs.PermutedLists.{Distinct-IsPermutation, Has-IsPermutation, IsPermutation-from}
use Rattle.cp_lists.proofs.ReversedLists.{Has-reverse, reverse-Has}
use Rattle.cp_base.specs.declared.shape.Branch.{Branch}
use Rattle.cp_base.specs.declared.shape.Shape.{Shape}
use Rattle.cp_base.specs.Shapes.{leaves}
use Rattle.cp_conn.specs.NamedGraphs.{ends_at, far}
use Rattle.cp_conn.proofs.NamedGraphs.{Contains-edges_at, edges_at-Contains, far_joins, joins_ends, map_from, map_has}
use Rattle.cp_board.specs.declared.parts.EdgeRow.{EdgeRow}
use Rattle.cp_board.specs.declared.parts.Pipe.{Pipe}
use Rattle.cp_board.specs.declared.parts.Vert.{Vert}
use Rattle.cp_board.specs.Changes.{moved_edges}
use Rattle.cp_board.specs.Instances.{Synchronized, IsSynchronized, HasRightEnds, HasRightPairs, edge_names, edges_of, ends_of, graph, vert_names}
use Rattle.cp_board.specs.Names.{has, rising}
use Rattle.cp_board.specs.Plantings.{Planted, Plants, PlantsAll, holder, lower_end, tree_edges}
use Rattle.cp_board.specs.Propagations.{IsPropagated}
use Rattle.cp_board.specs.Steps.{IsEnd, opposite, partner}
use Rattle.cp_board.proofs.NamedLists.{arranged}
use Rattle.cp_board.proofs.Rules.{All-first}
use Rattle.cp_synclaw.proofs.InstanceDarts.{edges_once, live_at, verts_once}
use Rattle.cp_plantlaw.proofs.EndPartners.{MirrorsFrom, by_end, end-MirrorsFrom, found_own}
use Rattle.cp_plantlaw.proofs.FreshNames.{has-false, has-true, fresh_once, fresh_other}
use Rattle.cp_plantlaw.proofs.MovedEnds.{IsMoved, moved_at}
use Rattle.cp_plantlaw.proofs.PropagatedRows.{all_edges, edges_keep, leaf_held, new_edges, old_verts, place, row_edges, row_verts}

-- the first row that has an item x among what `pick` takes of it, if there is one, has one of the vertices
first_in : (pick : Planted → List ℕ) (rows : List Planted) (x : ℕ) → Has x (flat (map pick rows))
    → Has (option_map_or (λ r. r.vertex) (find (λ r. has (pick r) x) rows) 0) (row_verts rows)
first_in pick [] x h = absurd h
first_in pick (r ∷ rows) x h =
    let rest : Option Planted = find (λ (y : Planted). has (pick y) x) rows in
    let held : Option Planted → Type 0 =
    λ (o : Option Planted). Has (option_map_or (λ (y : Planted). y.vertex) o 0) (row_verts (r ∷ rows)) in
    ⊎_elim
    (λ (t : has (pick r) x ≡ true). subst held (sym (cond-true (has (pick r) x) (Some r) rest t)) (inl refl))
    (λ (f : has (pick r) x ≡ false).
    let later : Has x (flat (map pick rows)) = ⊎_elim
    (λ k. absurd (false≢true (sym f ∙ has-true (pick r) x k))) (λ k. k)
    (Has-append_cases x (pick r) (flat (map pick rows)) h) in
    subst held (sym (cond-false (has (pick r) x) (Some r) rest f)) (inr (first_in pick rows x later)))
    (cases_Bool (has (pick r) x))

-- the holder of an edge of some rows is one of their vertices
pub holder_in : (rows : List Planted) (x : ℕ) → Has x (row_edges rows) → Has (holder rows x) (row_verts rows)
holder_in rows x h = first_in (λ r. r.edges) rows x h

-- the edges from above of some rows
abbrev pub row_tops : List Planted → List ℕ
row_tops rows = flat (map (λ r. take 1 r.edges) rows)

-- edges from above of rows one behind the other
row_tops-append : (hs bs : List Planted) → row_tops (hs ++ bs) ≡ row_tops hs ++ row_tops bs
row_tops-append [] bs = refl
row_tops-append (a ∷ hs) bs =
    ap (λ zs. take 1 a.edges ++ zs) (row_tops-append hs bs)
    ∙ sym (append_assoc (take 1 a.edges) (row_tops hs) (row_tops bs))

-- an edge from above is an edge
pub tops_edges : (rows : List Planted) (x : ℕ) → Has x (row_tops rows) → Has x (row_edges rows)
tops_edges [] x h = h
tops_edges (r ∷ rows) x h = ⊎_elim
    (λ k. Has-append_left x r.edges (row_edges rows) (first_item r.edges x k))
    (λ k. Has-append_right x r.edges (row_edges rows) (tops_edges rows x k))
    (Has-append_cases x (take 1 r.edges) (row_tops rows) h)
  where
    first_item : (es : List ℕ) (y : ℕ) → Has y (take 1 es) → Has y es
    first_item [] y k = absurd k
    first_item (e ∷ es) y k = ⊎_elim (λ s. inl s) (λ none. absurd none) k

-- the edges from above of planted rows are those that were taken
mutual
  pub planted-tops : (f : ℕ → ℕ) (b : Branch) (top : ℕ) (vs es : List ℕ) (rows : List Planted)
      → Plants f b top vs es rows → row_tops rows ≡ es
  planted-tops f _ _ _ _ _ (Plants.leaf x) = refl
  planted-tops f _ _ _ _ _ (Plants.free kids top v tops vs es rows all) =
      ap (λ zs. top ∷ zs) (kids-tops f kids tops vs es rows all)
  planted-tops f _ _ _ _ _ (Plants.fixed kids top v tops vs es rows all) =
      ap (λ zs. top ∷ zs) (kids-tops f kids tops vs es rows all)

  -- the same of the kids of a node
  kids-tops : (f : ℕ → ℕ) (kids : List Branch) (tops vs es : List ℕ) (rows : List Planted)
      → PlantsAll f kids tops vs es rows → row_tops rows ≡ es
  kids-tops f _ _ _ _ _ PlantsAll.none = refl
  kids-tops f _ _ _ _ _ (PlantsAll.more k ks top tops us vs ds es rows more_rows one rest) =
      row_tops-append rows more_rows
      ∙ ap₂ (λ (xs ys : List ℕ). xs ++ ys) (planted-tops f k top us ds rows one)
      (kids-tops f ks tops vs es more_rows rest)

-- the vertices of planted rows are those that were taken
mutual
  pub planted-verts : (f : ℕ → ℕ) (b : Branch) (top : ℕ) (vs es : List ℕ) (rows : List Planted)
      → Plants f b top vs es rows → row_verts rows ≡ vs
  planted-verts f _ _ _ _ _ (Plants.leaf x) = refl
  planted-verts f _ _ _ _ _ (Plants.free kids top v tops vs es rows all) =
      ap (λ zs. v ∷ zs) (kids-verts f kids tops vs es rows all)
  planted-verts f _ _ _ _ _ (Plants.fixed kids top v tops vs es rows all) =
      ap (λ zs. v ∷ zs) (kids-verts f kids tops vs es rows all)

  -- the same of the kids of a node
  kids-verts : (f : ℕ → ℕ) (kids : List Branch) (tops vs es : List ℕ) (rows : List Planted)
      → PlantsAll f kids tops vs es rows → row_verts rows ≡ vs
  kids-verts f _ _ _ _ _ PlantsAll.none = refl
  kids-verts f _ _ _ _ _ (PlantsAll.more k ks top tops us vs ds es rows more_rows one rest) =
      map-append (λ (r : Planted). r.vertex) rows more_rows
      ∙ ap₂ (λ (xs ys : List ℕ). xs ++ ys) (planted-verts f k top us ds rows one)
      (kids-verts f ks tops vs es more_rows rest)

-- where some node is planted the edge from above is one of its row
root_held : (f : ℕ → ℕ) (b : Branch) (top : ℕ) (vs es : List ℕ) (rows : List Planted) → Plants f b top vs es rows
    → (es ≡ [] → ⊥) → Has top (row_edges rows)
root_held f _ _ _ _ _ (Plants.leaf x) some = absurd (some refl)
root_held f _ _ _ _ _ (Plants.free kids top v tops vs es rows all) some = inl refl
root_held f _ _ _ _ _ (Plants.fixed kids top v tops vs es rows all) some = inl refl

-- a filter keeps the names that pass
kept_names : (q : ℕ → Bool) (vs : List Vert)
    → map (λ v. v.name) (filter (λ v. q v.name) vs) ≡ filter q (map (λ v. v.name) vs)
kept_names q [] = refl
kept_names q (v ∷ vs) = ⊎_elim
    (λ t. rw (t) (ap (λ zs. v.name ∷ zs) (kept_names q vs)))
    (λ f. rw (f) (kept_names q vs))
    (cases_Bool (q v.name))

-- what passes a filter
pub kept_Has : (q : ℕ → Bool) (xs : List ℕ) (x : ℕ) → Has x xs → q x ≡ true → Has x (filter q xs)
kept_Has q [] x h t = absurd h
kept_Has q (y ∷ xs) x h t = ⊎_elim
    (λ a. rw (a) (⊎_elim (λ e. inl e) (λ k. inr (kept_Has q xs x k t)) h))
    (λ b. rw (b) (⊎_elim (λ (e : y ≡ x). absurd (false≢true (sym b ∙ ap q e ∙ t))) (λ k. kept_Has q xs x k t) h))
    (cases_Bool (q y))

-- and what a filter keeps
pub Has_kept : (q : ℕ → Bool) (xs : List ℕ) (x : ℕ) → Has x (filter q xs) → Has x xs × (q x ≡ true)
Has_kept q [] x h = absurd h
Has_kept q (y ∷ xs) x h = ⊎_elim
    (λ a. ⊎_elim (λ (e : y ≡ x). (inl e, ap q (sym e) ∙ a)) (λ k. let r = Has_kept q xs x k in (inr r.0, r.1))
    (let g : Has x (y ∷ filter q xs) = rw (a) at h in g))
    (λ b. let g : Has x (filter q xs) = rw (b) at h in let r = Has_kept q xs x g in (inr r.0, r.1))
    (cases_Bool (q y))

-- what a filter keeps of distinct items is distinct
Distinct_kept : (q : ℕ → Bool) (xs : List ℕ) → Distinct xs → Distinct (filter q xs)
Distinct_kept q [] d = tt
Distinct_kept q (y ∷ xs) d = ⊎_elim
    (λ a. rw (a) (Lacks-from y (filter q xs) (λ h. has_lacks y xs (Has_kept q xs y h).0 d.0), Distinct_kept q xs d.1))
    (λ b. rw (b) (Distinct_kept q xs d.1))
    (cases_Bool (q y))

-- an instance with a pipe p and one end u of it, a shape whose leaves are the edges of u, and what Propagate makes of
-- it
module _ (i j : Synchronized) (is_i : IsSynchronized i) (p : Pipe) (live : Contains i.pipes p)
    (u : ℕ) (end : IsEnd p u) (shape : Shape)
    (edges_u : rising (shape.root ∷ leaves shape.body) ≡ edges_of i u) (prop : IsPropagated i p u shape j) where
  -- the other end, and the partner of an edge of u
  abbrev pub w : ℕ
  w = opposite p u

  -- the partner of an edge of u
  abbrev pub mate : ℕ → ℕ
  mate = partner p u

  -- the two ends differ, and edges have partners
  pub differ : p.a ≢ p.b
  differ = (All-contains (HasRightEnds i.verts) i.pipes p is_i.ends_free live).differ

  -- the pairs of the pipe are right
  pub right : HasRightPairs (graph i) p
  right = All-contains (HasRightPairs (graph i)) i.pipes p is_i.pairs_right live

  -- the two ends are two vertices
  pub u_not_w : u ≢ w
  u_not_w = by_end i is_i p differ right (λ x y there back. x ≢ y) differ (λ e. differ (sym e)) u end

  -- lists of both ends mirror each other, seen from u
  pub mirrors : MirrorsFrom i is_i p differ right u w mate (λ x. partner p w x)
  mirrors = end-MirrorsFrom i is_i p differ right u end

  -- the edges of u are the leaves, and those of w their partners
  pub edges_u-leaves : IsPermutation (edges_of i u) (shape.root ∷ leaves shape.body)
  edges_u-leaves = arranged (edges_of i u) (shape.root ∷ leaves shape.body) edges_u

  -- the edges of the other end are the partners of the leaves and of the root edge
  pub edges_w-leaves : IsPermutation (edges_of i w) (reverse (map mate (shape.root ∷ leaves shape.body)))
  edges_w-leaves = mirrors.arranges (shape.root ∷ leaves shape.body) edges_u-leaves

  -- both ends are live
  pub live_u : Contains (vert_names i) u
  live_u = live_at i is_i u shape.root
      (Contains-permutation (shape.root ∷ leaves shape.body) (edges_of i u) shape.root
      (IsPermutation-sym (edges_of i u) (shape.root ∷ leaves shape.body) edges_u-leaves)
      ((Has-Contains shape.root (shape.root ∷ leaves shape.body)).0 (inl refl)))

  -- the root edge is one of the rows
  pub rows_some : Has shape.root (row_edges prop.rows_u)
  rows_some = root_held (λ y. y) shape.body shape.root prop.at_u (shape.root ∷ prop.edges_u) prop.rows_u prop.planted_u
      (λ e. let n = ap length e in absurd (omega (arith, n)))

  -- each edge of u is one of the rows planted for it
  pub held_u : (x : ℕ) → Contains (edges_of i u) x → Has x (row_edges prop.rows_u)
  held_u x c =
      let h : Has x (shape.root ∷ leaves shape.body) =
      Has-IsPermutation x (edges_of i u) (shape.root ∷ leaves shape.body) edges_u-leaves
      ((Has-Contains x (edges_of i u)).1 c) in
      let root : Has shape.root (row_edges prop.rows_u) = rows_some in
      ⊎_elim
      (λ e. subst (λ y. Has y (row_edges prop.rows_u)) e root)
      (λ k. ⊎_elim (λ e. subst (λ y. Has y (row_edges prop.rows_u)) e root) (λ l. l)
      (leaf_held (λ y. y) shape.body shape.root prop.at_u (shape.root ∷ prop.edges_u) prop.rows_u x prop.planted_u k)) h

  -- and each of w
  pub held_w : (x : ℕ) → Contains (edges_of i w) x → Has x (row_edges prop.rows_w)
  held_w x c =
      let all : List ℕ = shape.root ∷ leaves shape.body in
      let h : Has x (reverse (map mate all)) =
      Has-IsPermutation x (edges_of i w) (reverse (map mate all)) edges_w-leaves
      ((Has-Contains x (edges_of i w)).1 c) in
      let y = map_on-Has mate x all (reverse-Has x (map mate all) h) in
      let root : Has (mate shape.root) (row_edges prop.rows_w) =
      root_held mate shape.body (mate shape.root) prop.at_w (mate shape.root ∷ prop.edges_w) prop.rows_w prop.planted_w
      (λ e. let n = ap length e in absurd (omega (arith, n))) in
      let there : Has (mate y.0) (row_edges prop.rows_w) = ⊎_elim
      (λ e. subst (λ z. Has z (row_edges prop.rows_w)) (ap mate e) root)
      (λ k. ⊎_elim (λ e. subst (λ z. Has z (row_edges prop.rows_w)) e root) (λ l. l)
      (leaf_held mate shape.body (mate shape.root) prop.at_w
      (mate shape.root ∷ prop.edges_w) prop.rows_w y.0 prop.planted_w k))
      y.1 in
      subst (λ z. Has z (row_edges prop.rows_w)) y.2 there

  -- w has an edge, so it is live
  pub live_w : Contains (vert_names i) w
  live_w =
      let all : List ℕ = shape.root ∷ leaves shape.body in
      let h : Has (mate shape.root) (edges_of i w) =
      Has-IsPermutation (mate shape.root) (reverse (map mate all)) (edges_of i w)
      (IsPermutation-sym (edges_of i w) (reverse (map mate all)) edges_w-leaves)
      (Has-reverse (mate shape.root) (map mate all) (inl refl)) in
      live_at i is_i w (mate shape.root) ((Has-Contains (mate shape.root) (edges_of i w)).0 h)

  -- the names of the vertices that stay
  abbrev pub old : List ℕ
  old = map (λ v. v.name) (old_verts i j p u shape prop)

  -- the test for them
  abbrev stays : ℕ → Bool
  stays x = not (has (u ∷ w ∷ []) x)

  -- they are the names that pass the test
  old_kept : old ≡ filter stays (vert_names i)
  old_kept = kept_names stays i.verts

  -- they are the live ones but u and w
  pub old_Has : (x : ℕ) → Contains (vert_names i) x → x ≢ u → x ≢ w → Has x old
  old_Has x c nu nw =
      subst (Has x) (sym old_kept)
      (kept_Has stays (vert_names i) x ((Has-Contains x (vert_names i)).1 c)
      (ap not (has-false (u ∷ w ∷ []) x ((λ e. nu (sym e)), ((λ e. nw (sym e)), tt)))))

  -- a vertex that stays is live, and none of the two ends
  pub Has_old : (x : ℕ) → Has x old → Contains (vert_names i) x × (x ≢ u) × (x ≢ w)
  Has_old x h =
      let k = Has_kept stays (vert_names i) x (subst (Has x) old_kept h) in (
        (Has-Contains x (vert_names i)).0 k.0,
        (λ e. false≢true (sym (ap not (has-true (u ∷ w ∷ []) x (inl (sym e)))) ∙ k.1)),
        (λ e. false≢true (sym (ap not (has-true (u ∷ w ∷ []) x (inr (inl (sym e))))) ∙ k.1)),
      )

  -- so all vertices are these
  pub verts_i : IsPermutation (vert_names i) (w ∷ u ∷ old)
  verts_i = IsPermutation-from (vert_names i) (w ∷ u ∷ old) (verts_once i is_i) (
    ((λ e. u_not_w e), Lacks-from w old (λ h. (Has_old w h).2 refl)),
    (
      Lacks-from u old (λ h. (Has_old u h).1 refl),
      subst Distinct (sym old_kept) (Distinct_kept stays (vert_names i) (verts_once i is_i)),
    ),
  )
      (λ x h. ⊎_elim
      (λ (e : x ≡ w). inl (sym e))
      (λ nw. ⊎_elim
      (λ (e : x ≡ u). inr (inl (sym e)))
      (λ nu. inr (inr (old_Has x ((Has-Contains x (vert_names i)).0 h) nu nw)))
      (cases_eq x u))
      (cases_eq x w))
      (λ x h. ⊎_elim
      (λ e. subst (λ y. Has y (vert_names i)) e ((Has-Contains w (vert_names i)).1 live_w))
      (λ k. ⊎_elim
      (λ e. subst (λ y. Has y (vert_names i)) e ((Has-Contains u (vert_names i)).1 live_u))
      (λ l. (Has-Contains x (vert_names i)).1 (Has_old x l).0) k) h)

  -- no vertex of j is named twice
  abbrev at_u : List ℕ
  at_u = row_verts prop.rows_u

  -- the vertices of the second tree
  abbrev at_w : List ℕ
  at_w = row_verts prop.rows_w

  -- the vertices of the rows are the new names
  pub verts_u : at_u ≡ prop.at_u
  verts_u = planted-verts (λ y. y) shape.body shape.root prop.at_u
      (shape.root ∷ prop.edges_u) prop.rows_u prop.planted_u

  -- the vertices of the second tree are the new names
  pub verts_w : at_w ≡ prop.at_w
  verts_w = planted-verts mate shape.body (mate shape.root) prop.at_w (mate shape.root ∷ prop.edges_w) prop.rows_w
      prop.planted_w

  -- no vertex of j has two names
  pub names_once : Distinct (old ++ (at_u ++ at_w))
  names_once =
      let new : at_u ++ at_w ≡ prop.at_u ++ prop.at_w = ap₂ (λ (xs ys : List ℕ). xs ++ ys) verts_u verts_w in
      Distinct-append old (at_u ++ at_w)
      (subst Distinct (sym old_kept) (Distinct_kept stays (vert_names i) (verts_once i is_i)))
      (subst Distinct (sym new) (fresh_once (vert_names i) (prop.at_u ++ prop.at_w) prop.new_verts))
      (λ x h. Lacks-from x (at_u ++ at_w) (λ k. fresh_other (vert_names i) (prop.at_u ++ prop.at_w) x x prop.new_verts
      (subst (Has x) new k) ((Has-Contains x (vert_names i)).1 (Has_old x h).0) refl))

  -- the names of the edges of j: those of i and those of both trees
  pub edges_named : IsPermutation (edge_names i ++ (prop.edges_u ++ prop.edges_w)) (edge_names j)
  edges_named =
      let moved : List EdgeRow = moved_edges i (λ x v. place i j p u shape prop v x) in
      let tu : List EdgeRow = tree_edges prop.rows_u prop.edges_u in
      let tw : List EdgeRow = tree_edges prop.rows_w prop.edges_w in
      let name : EdgeRow → ℕ = λ (e : EdgeRow). e.name in
      let same : map name (all_edges i j p u shape prop) ≡ edge_names i ++ (prop.edges_u ++ prop.edges_w) =
      map-append name moved (tu ++ tw)
      ∙ ap₂ (λ (xs ys : List ℕ). xs ++ ys) (moved_names i.edges)
      (map-append name tu tw
      ∙ ap₂ (λ (xs ys : List ℕ). xs ++ ys) (tree_names prop.rows_u prop.edges_u)
      (tree_names prop.rows_w prop.edges_w)) in
      subst (λ zs. IsPermutation zs (edge_names j)) same
      (IsPermutation-map name (all_edges i j p u shape prop) j.edges (edges_keep i j p u shape prop))
    where
      moved_names : (es : List EdgeRow) → map (λ (e : EdgeRow). e.name) (map (λ (e : EdgeRow). record {
        name = e.name;
        a = place i j p u shape prop e.a e.name;
        b = place i j p u shape prop e.b e.name;
      }) es) ≡ map (λ (e : EdgeRow). e.name) es
      moved_names [] = refl
      moved_names (e ∷ es) = ap (λ zs. e.name ∷ zs) (moved_names es)

      -- the names of the edges of a tree
      tree_names : (rows : List Planted) (es : List ℕ) → map (λ (e : EdgeRow). e.name) (tree_edges rows es) ≡ es
      tree_names rows [] = refl
      tree_names rows (e ∷ es) = ap (λ zs. e ∷ zs) (tree_names rows es)

  -- no edge of j is named twice
  pub edges_j_once : Distinct (edge_names j)
  edges_j_once =
      let new : List ℕ = prop.edges_u ++ prop.edges_w in
      Distinct-IsPermutation (edge_names i ++ new) (edge_names j) edges_named
      (Distinct-append (edge_names i) new (edges_once i is_i) (fresh_once (edge_names i) new prop.new_edges)
      (λ x h. Lacks-from x new (λ k. fresh_other (edge_names i) new x x prop.new_edges k h refl)))

  -- the vertex of i from which an end came
  abbrev pub back : ℕ → ℕ
  back x = cond (has at_u x) u (cond (has at_w x) w x)

  -- an end at the first tree came from u
  pub back_u : (x : ℕ) → Has x at_u → back x ≡ u
  back_u x h = cond-true (has at_u x) u (cond (has at_w x) w x) (has-true at_u x h)

  -- an end at the second tree came from the other end
  pub back_w : (x : ℕ) → Has x at_w → back x ≡ w
  back_w x h =
      let apart : Lacks x at_u =
      Distinct-apart_right x at_u at_w (Distinct-append_right old (at_u ++ at_w) names_once) h in
      cond-false (has at_u x) u (cond (has at_w x) w x) (has-false at_u x apart)
      ∙ cond-true (has at_w x) w x (has-true at_w x h)

  -- an end at a vertex that stays was there
  back_old : (x : ℕ) → Has x old → back x ≡ x
  back_old x h =
      let apart : Lacks x (at_u ++ at_w) = Distinct-apart x old (at_u ++ at_w) names_once h in
      cond-false (has at_u x) u (cond (has at_w x) w x) (has-false at_u x (Lacks-append_left x at_u at_w apart))
      ∙ cond-false (has at_w x) w x (has-false at_w x (Lacks-append_right x at_u at_w apart))

  -- where the ends at u, at w and elsewhere are
  abbrev pub put : ℕ → ℕ → ℕ
  put = place i j p u shape prop

  -- an end at u moves to the holder of its edge
  pub put_u : (e : ℕ) → put u e ≡ holder prop.rows_u e
  put_u e = cond-true (eqb u u) (holder prop.rows_u e) (cond (eqb u w) (holder prop.rows_w e) u) (eq-eqb u u refl)

  -- so does one at the other end
  pub put_w : (e : ℕ) → put w e ≡ holder prop.rows_w e
  put_w e =
      cond-false (eqb w u) (holder prop.rows_u e) (cond (eqb w w) (holder prop.rows_w e) w)
      (ne_eqb w u (λ s. u_not_w (sym s)))
      ∙ cond-true (eqb w w) (holder prop.rows_w e) w (eq-eqb w w refl)

  -- an end elsewhere stays
  pub put_old : (x e : ℕ) → x ≢ u → x ≢ w → put x e ≡ x
  put_old x e nu nw =
      cond-false (eqb x u) (holder prop.rows_u e) (cond (eqb x w) (holder prop.rows_w e) x) (ne_eqb x u nu)
      ∙ cond-false (eqb x w) (holder prop.rows_w e) x (ne_eqb x w nw)

  -- an end comes from where it was
  pub home : (x e : ℕ) → Contains (edges_of i x) e → back (put x e) ≡ x
  home x e c = ⊎_elim
      (λ (s : x ≡ u).
      let here : Contains (edges_of i u) e = subst (λ y. Contains (edges_of i y) e) s c in
      ap back (ap (λ y. put y e) s ∙ put_u e) ∙ back_u (holder prop.rows_u e) (holder_in prop.rows_u e (held_u e here))
      ∙ sym s)
      (λ nu. ⊎_elim
      (λ (s : x ≡ w).
      let here : Contains (edges_of i w) e = subst (λ y. Contains (edges_of i y) e) s c in
      ap back (ap (λ y. put y e) s ∙ put_w e) ∙ back_w (holder prop.rows_w e) (holder_in prop.rows_w e (held_w e here))
      ∙ sym s)
      (λ nw. ap back (put_old x e nu nw) ∙ back_old x (old_Has x (live_at i is_i x e c) nu nw))
      (cases_eq x w))
      (cases_eq x u)

  -- the row of an edge of i after the step
  abbrev pub moved_row : EdgeRow → EdgeRow
  moved_row e = record { name = e.name; a = put e.a e.name; b = put e.b e.name }

  -- it is a row of j
  pub row_of_j : (e : EdgeRow) → Contains i.edges e → Contains j.edges (moved_row e)
  row_of_j e c =
      let moved : List EdgeRow = moved_edges i (λ x v. put v x) in
      Contains-permutation (all_edges i j p u shape prop) j.edges (moved_row e) (edges_keep i j p u shape prop)
      (All-contains (λ x. Contains (all_edges i j p u shape prop) x) moved (moved_row e)
      (All-first (λ x. Contains (all_edges i j p u shape prop) x) moved (new_edges i j p u shape prop)
      (All-contains_itself (all_edges i j p u shape prop)))
      (map_has moved_row i.edges e c))

  -- the ends of an edge by its row
  pub ends_by_row : (k : Synchronized) → Distinct (edge_names k) → (e : EdgeRow) → Contains k.edges e
      → ends_of k e.name ≡ (e.a, e.b)
  ends_by_row k once e c =
      ap (λ o. option_map_or (λ (x : EdgeRow). (x.a, x.b)) o (0, 0))
      (All-contains (λ (x : EdgeRow). find (λ y. eqb y.name x.name) k.edges ≡ Some x) k.edges e
      (found_own (λ (x : EdgeRow). x.name) k.edges once) c)

  -- so the ends of edges of i move to vertices of j
  pub ends-IsMoved : IsMoved i j put back
  ends-IsMoved = record {
    live = λ e c.
        let r = map_from (λ (x : EdgeRow). x.name) i.edges e c in
        subst (Contains (edge_names j)) r.2 (map_has (λ (x : EdgeRow). x.name) j.edges (moved_row r.0)
        (row_of_j r.0 r.1));
    ends = λ e c.
        let r = map_from (λ (x : EdgeRow). x.name) i.edges e c in
        let old_ends : (r.0.a, r.0.b) ≡ ends_of i e = sym (ends_by_row i (edges_once i is_i) r.0 r.1) ∙ ap
        (ends_of i) r.2 in
        ap (ends_of j) (sym r.2) ∙ ends_by_row j edges_j_once (moved_row r.0) (row_of_j r.0 r.1)
        ∙ ap₂ (λ (x : ℕ × ℕ) (n : ℕ). (put x.0 n, put x.1 n)) old_ends r.2;
    home = home;
    more =
        let moved : List EdgeRow = moved_edges i (λ x v. put v x) in
        let one = length_permutation (all_edges i j p u shape prop) j.edges (edges_keep i j p u shape prop) in
        let two = length-append moved (new_edges i j p u shape prop) in
        let three : length moved ≡ length i.edges = length-map i.edges moved_row in
        let four = length-map i.edges (λ (x : EdgeRow). x.name) in
        let five = length-map j.edges (λ (x : EdgeRow). x.name) in
        omega (arith, one, two, three, four, five);
  }

  -- the two ends of an edge between two nodes of a tree are vertices of the tree
  pub tree_ends : (rows : List Planted) (es : List ℕ) → ((x : ℕ) → Has x es → Has x (row_tops rows)) → (e : EdgeRow)
      → Contains (tree_edges rows es) e → Has e.a (row_verts rows) × Has e.b (row_verts rows)
  tree_ends rows es tops e c =
      let r = map_from (λ x. record { name = x; a = holder rows x; b = lower_end rows x }) es e c in
      let top : Has r.0 (row_tops rows) = tops r.0 ((Has-Contains r.0 es).1 r.1) in (
        subst (λ (y : EdgeRow). Has y.a (row_verts rows)) r.2 (holder_in rows r.0 (tops_edges rows r.0 top)),
        subst (λ (y : EdgeRow). Has y.b (row_verts rows)) r.2 (first_in (λ y. take 1 y.edges) rows r.0 top),
      )

  -- the edges from above in both trees
  pub tops_u : row_tops prop.rows_u ≡ shape.root ∷ prop.edges_u
  tops_u = planted-tops (λ y. y) shape.body shape.root prop.at_u (shape.root ∷ prop.edges_u) prop.rows_u prop.planted_u

  -- the edges from above of the second tree
  pub tops_w : row_tops prop.rows_w ≡ mate shape.root ∷ prop.edges_w
  tops_w = planted-tops mate shape.body (mate shape.root) prop.at_w (mate shape.root ∷ prop.edges_w) prop.rows_w
      prop.planted_w

  -- no end of a new edge is a vertex that stays
  pub new_ends : (e : EdgeRow) → Contains (new_edges i j p u shape prop) e → (x : ℕ) → Has x old → (e.a ≢ x) × (e.b ≢ x)
  new_ends e c x h =
      let tu : List EdgeRow = tree_edges prop.rows_u prop.edges_u in
      let tw : List EdgeRow = tree_edges prop.rows_w prop.edges_w in
      let apart : Lacks x (at_u ++ at_w) = Distinct-apart x old (at_u ++ at_w) names_once h in
      ⊎_elim
      (λ k. let t = tree_ends prop.rows_u prop.edges_u (λ y g. subst (Has y) (sym tops_u) (inr g)) e k in (
        (λ s. has_lacks x at_u (subst (λ y. Has y at_u) s t.0) (Lacks-append_left x at_u at_w apart)),
        (λ s. has_lacks x at_u (subst (λ y. Has y at_u) s t.1) (Lacks-append_left x at_u at_w apart)),
      ))
      (λ k. let t = tree_ends prop.rows_w prop.edges_w (λ y g. subst (Has y) (sym tops_w) (inr g)) e k in (
        (λ s. has_lacks x at_w (subst (λ y. Has y at_w) s t.0) (Lacks-append_right x at_u at_w apart)),
        (λ s. has_lacks x at_w (subst (λ y. Has y at_w) s t.1) (Lacks-append_right x at_u at_w apart)),
      ))
      (Contains-append_cases tu tw e c)

  -- an edge of j at a vertex that stays was one there
  edge_before : (x e : ℕ) → Has x old → Contains (edges_of j x) e → Contains (edges_of i x) e
  edge_before x e h c =
      let k = edges_at-Contains (graph j) x e c in
      let r = map_from (λ (y : EdgeRow). y.name) j.edges e k.0 in
      let row_ends : ends_of j e ≡ (r.0.a, r.0.b) = ap (ends_of j) (sym r.2) ∙ ends_by_row j edges_j_once r.0 r.1 in
      let moved : List EdgeRow = moved_edges i (λ y v. put v y) in
      let here : (r.0.a ≡ x) ⊎ (r.0.b ≡ x) = ⊎_elim
      (λ (s : ((ends_of j e).0 ≡ x) × ((ends_of j e).1 ≡ far (graph j) x e)). inl
      (sym (ap (λ (y : ℕ × ℕ). y.0) row_ends) ∙ s.0))
      (λ s. inr (sym (ap (λ (y : ℕ × ℕ). y.1) row_ends) ∙ s.1))
      (far_joins (graph j) x e k.1) in
      let case : Contains moved r.0 ⊎ Contains (new_edges i j p u shape prop) r.0 =
      Contains-append_cases moved (new_edges i j p u shape prop) r.0
      (Contains-permutation j.edges (all_edges i j p u shape prop) r.0
      (IsPermutation-sym (all_edges i j p u shape prop) j.edges (edges_keep i j p u shape prop)) r.1) in
      ⊎_elim
      (λ m.
      let q = map_from moved_row i.edges r.0 m in
      let named : q.0.name ≡ e = ap (λ (y : EdgeRow). y.name) q.2 ∙ r.2 in
      let live_e : Contains (edge_names i) e = subst (Contains (edge_names i)) named
      (map_has (λ (y : EdgeRow). y.name) i.edges q.0 q.1) in
      let old_ends : ends_of i e ≡ (q.0.a, q.0.b) = ap (ends_of i) (sym named) ∙ ends_by_row i
      (edges_once i is_i) q.0 q.1 in
      let at_a : Contains (edges_of i q.0.a) e = Contains-edges_at (graph i) q.0.a e live_e
      (joins_ends (graph i) q.0.a q.0.b e (inl (ap (λ (y : ℕ × ℕ). y.0) old_ends, ap (λ (y : ℕ × ℕ). y.1) old_ends))) in
      let at_b : Contains (edges_of i q.0.b) e = Contains-edges_at (graph i) q.0.b e live_e
      (joins_ends (graph i) q.0.b q.0.a e (inr (ap (λ (y : ℕ × ℕ). y.0) old_ends, ap (λ (y : ℕ × ℕ). y.1) old_ends))) in
      ⊎_elim
      (λ (s : r.0.a ≡ x).
      let same : q.0.a ≡ x =
      sym (home q.0.a e at_a)
      ∙ ap back (ap (put q.0.a) (sym named) ∙ ap (λ (y : EdgeRow). y.a) q.2 ∙ s) ∙ back_old x h in
      subst (λ y. Contains (edges_of i y) e) same at_a)
      (λ (s : r.0.b ≡ x).
      let same : q.0.b ≡ x =
      sym (home q.0.b e at_b)
      ∙ ap back (ap (put q.0.b) (sym named) ∙ ap (λ (y : EdgeRow). y.b) q.2 ∙ s) ∙ back_old x h in
      subst (λ y. Contains (edges_of i y) e) same at_b)
      here)
      (λ m. let n = new_ends r.0 m x h in ⊎_elim (λ s. absurd (n.0 s)) (λ s. absurd (n.1 s)) here)
      case

  -- so a vertex that stays keeps its edges
  pub edges_stay : (x : ℕ) → Has x old → IsPermutation (edges_of i x) (edges_of j x)
  edges_stay x h =
      let n = Has_old x h in
      IsPermutation-from (edges_of i x) (edges_of j x)
      (filter-Distinct (ends_at (graph i) x) (edge_names i) (edges_once i is_i))
      (filter-Distinct (ends_at (graph j) x) (edge_names j) edges_j_once)
      (λ e k. (Has-Contains e (edges_of j x)).1
      (subst (λ y. Contains (edges_of j y) e) (put_old x e n.1 n.2)
      (moved_at i j put back ends-IsMoved x e ((Has-Contains e (edges_of i x)).0 k))))
      (λ e k. (Has-Contains e (edges_of i x)).1 (edge_before x e h ((Has-Contains e (edges_of j x)).0 k)))
