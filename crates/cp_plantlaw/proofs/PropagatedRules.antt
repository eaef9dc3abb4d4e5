-- What Propagate makes of an instance keeps the rules, where its new names are small enough.
use Rattle.std.proofs.Common.{◌≡◌, ◌≢◌, ℕ, suc, ◌+◌, ◌<◌, ◌≤◌, ◌^◌, Bool, true, false, not, eqb, List, [], ◌∷◌, ◌++◌, append_assoc, length, map, reverse, slice_index, sym, refl, ap, ap₂, ◌∙◌, subst, inl, inr, ⊎_elim, arith, IsPermutation}
use Rattle.std.specs.Prelude.{None, Some, filter, find, take}
use Rattle.std.specs.List.{All, AllZip, Contains, flat_map, zip}
use Rattle.std.specs.List.Sorted.{IsStrictlyIncreasing}
use Rattle.std.specs.Option.{option_map}
use Rattle.std.proofs.lemmas.Bool.{cases_Bool, cases_eq, cond-false, cond-true, eq-eqb, ne_eqb}
use Rattle.std.proofs.lemmas.List.{map-append}
use Rattle.std.proofs.lemmas.List.Elements.{All-append, All-contains, All-cons, All-filter, All-head, All-nil, All-tail, Contains-append_left, Contains-append_right, filter_passes}
use Rattle.std.proofs.lemmas.List.Kept.{IsStrictlyIncreasing-filter}
use Rattle.std.proofs.lemmas.List.Sorted.{All-permutation, Contains-permutation, IsPermutation-append_right, IsPermutation-cons, IsPermutation-map, IsPermutation-middle, IsPermutation-refl, IsPermutation-reverse, IsPermutation-sym, IsPermutation-trans}
use Rattle.cp_lists.specs.CyclicLists.{Distinct, Has}
use Rattle.cp_lists.specs.Turns.{turned_to_least}
use Rattle.cp_lists.proofs.DistinctLists.{Distinct-append, Distinct-append_left, Distinct-append_right, Distinct-apart, Has-append_cases, Has-append_left, Has-append_right, Has-Contains, Lacks-from, has_lacks}
use Rattle.cp_lists.proofs.FilteredLists.{filter-Distinct}
use Rattle.cp_lists.proofs.LeastItems.{turned_to_least-IsTurn, turned_to_least-head}
use Rattle.cp_lists.proofs.PermutedLists.{Distinct-IsPermutation, Has-IsPermutation}
use Rattle.cp_lists.proofs.TurnedLists.{Has-of_turn}
use Rattle.cp_base.specs.declared.shape.Shape.{Shape}
use Rattle.cp_base.specs.Shapes.{leaves}
use Rattle.cp_conn.specs.NamedGraphs.{ends_at}
use Rattle.cp_conn.proofs.NamedGraphs.{map_from, map_has}
use Rattle.cp_board.specs.declared.parts.Kind.{Kind}
use Rattle.cp_board.specs.declared.parts.Kind.TheVariants.{P, Q}
use Rattle.cp_board.specs.declared.parts.Pipe.{Pipe}
use Rattle.cp_board.specs.declared.parts.Vert.{Vert}
use Rattle.cp_board.specs.Changes.{free_vert, other_pipes}
use Rattle.cp_board.specs.Instances.{Synchronized, AreNames, HasRightEnds, HasRightPairs, IsRightKind, IsSynchronized, cell_of, cells, edge_names, edges_of, graph, kind_in, pipe_names, vert_names}
use Rattle.cp_board.specs.Names.{by_name, has, rising}
use Rattle.cp_board.specs.Plantings.{Planted, fixed_nodes, free_nodes}
use Rattle.cp_board.specs.Propagations.{IsPropagated, fixed_verts, node_pipes}
use Rattle.cp_board.specs.Steps.{IsEnd, opposite}
use Rattle.cp_board.proofs.ListTests.{IsStrictlyIncreasing-from_test, distinct}
use Rattle.cp_board.proofs.NamedLists.{by_name_keeps, rises-by_name, rises_from}
use Rattle.cp_board.proofs.NumberOfNewNames.{Distinct-from_rises}
use Rattle.cp_sync.proofs.EqualOrders.{rising_same}
use Rattle.cp_plantlaw.proofs.ApartPipes.{owned}
use Rattle.cp_plantlaw.proofs.EdgesOfRows.{ends_right, rows_u-edges, rows_w-edges}
use Rattle.cp_plantlaw.proofs.EndPartners.{found_own}
use Rattle.cp_plantlaw.proofs.FreshNames.{All-from_items, fresh_once, fresh_other, has-false, passed}
use Rattle.cp_plantlaw.proofs.PermutedRows.{IsPermutation-flat_map}
use Rattle.cp_plantlaw.proofs.PropagatedBack.{other_stays, other_vert}
use Rattle.cp_plantlaw.proofs.PropagatedEnds.{Has_old, edges_j_once, edges_named, edges_stay, names_once, old_Has, verts_u, verts_w}
use Rattle.cp_plantlaw.proofs.PropagatedRows.{all_edges, all_pipes, all_verts, edges_ordered, free_forms, new_fixed, new_free, new_pipes, old_verts, pipes_keep, row_verts, verts_keep, verts_named, verts_ordered}
use Rattle.cp_plantlaw.proofs.RowPairs as row_pairs
use Rattle.cp_plantlaw.proofs.ToldTrees.{HaveOneForm, zip_length}
use Rattle.cp_plantlaw.proofs.RowPairs.{first_zip, node_pipe, node_vert, second_zip, turn-IsPermutation}

-- names in the order of names rise, where none stands twice
names_rise : {A : Type 0} (name : A → ℕ) (xs : List A) → Distinct (map name xs)
    → IsStrictlyIncreasing (map name (by_name name xs))
names_rise name xs once =
    IsStrictlyIncreasing-from_test (map name (by_name name xs))
    (rises-by_name name xs (distinct-true (map name xs) once))
  where
    distinct-true : (ns : List ℕ) → Distinct ns → distinct ns ≡ true
    distinct-true [] d = refl
    distinct-true (n ∷ ns) d = rw (has-false ns n d.0) (distinct-true ns d.1)

-- the least of numbers that rise is the first, also of another order of them
least_first : (xs ys : List ℕ) → IsStrictlyIncreasing xs → IsPermutation ys xs → take 1 (turned_to_least ys) ≡ take 1 xs
least_first [] [] up p = refl
least_first [] (y ∷ ys) up p = absurd (Has-IsPermutation y (y ∷ ys) [] p (inl refl))
least_first (x ∷ xs) ys up p =
    let here : Has x ys = Has-IsPermutation x (x ∷ xs) ys (IsPermutation-sym ys (x ∷ xs) p) (inl refl) in
    let w = turned_to_least-head x ys here in
    let least_in : Has w.0 ys = Has-of_turn ys (turned_to_least ys) w.0 (turned_to_least-IsTurn ys)
    (subst (Has w.0) (sym w.2) (inl refl)) in
    let low : w.0 ≤ x = w.3 x here in
    let high : x ≤ w.0 = ⊎_elim
    (λ (e : x ≡ w.0). omega (arith, e))
    (λ k. let l = rest_greater x xs w.0 up k in omega (arith, l))
    (Has-IsPermutation w.0 ys (x ∷ xs) p least_in) in
    let same : w.0 ≡ x = omega (arith, low, high) in
    ap (take 1) w.2 ∙ ap (λ z. z ∷ []) same
  where
    later : (y a : ℕ) (zs : List ℕ) → IsStrictlyIncreasing (y ∷ a ∷ zs) → IsStrictlyIncreasing (a ∷ zs)
    later y a zs rise m lt =
        let step : suc m + 1 ≡ suc (m + 1) = omega arith in
        subst (λ k. slice_index (y ∷ a ∷ zs) (suc m) < slice_index (y ∷ a ∷ zs) k) step
        (rise (suc m) (omega (arith, lt)))

    -- the items behind the first are greater
    rest_greater : (y : ℕ) (zs : List ℕ) (z : ℕ) → IsStrictlyIncreasing (y ∷ zs) → Has z zs → y < z
    rest_greater y [] z rise h = absurd h
    rest_greater y (a ∷ zs) z rise h =
        let first : y < a = rise 0 (omega arith) in
        ⊎_elim
        (λ (e : a ≡ z). omega (arith, e, first))
        (λ k. let l = rest_greater a zs z (λ m lt. later y a zs rise m lt) k in omega (arith, l, first))
        h

-- what holds of all items of the lists of some items holds of their items
all-flat_map : {A : Type 0} (R : ℕ → Type 0) (f : A → List ℕ) (xs : List A) → All (λ x. All R (f x)) xs
    → All R (flat_map f xs)
all-flat_map R f [] all = All-nil R
all-flat_map R f (x ∷ xs) all = All-append R (f x) (flat_map f xs)
    (All-head (λ y. All R (f y)) x xs all)
    (all-flat_map R f xs (All-tail (λ y. All R (f y)) x xs all))

-- a P-vertex among vertices of different names has its kind by its name
free_kind : (vs : List Vert) (x : ℕ) → Distinct (map (λ v. v.name) vs) → Contains vs (free_vert x)
    → kind_in vs x ≡ Some P
free_kind vs x once c = ap (option_map (λ (v : Vert). v.kind))
    (All-contains (λ (v : Vert). find (λ y. eqb y.name v.name) vs ≡ Some v) vs (free_vert x)
    (found_own (λ (v : Vert). v.name) vs once) c)

-- and a vertex whose kind by its name is P is there
pub kind_free : (vs : List Vert) (x : ℕ) → kind_in vs x ≡ Some P → Contains vs (free_vert x)
kind_free [] x e = let h : None ≡ Some P = e in absurd cc
kind_free (v ∷ vs) x e = ⊎_elim
    (λ (s : v.name ≡ x).
    let first : Some v.kind ≡ Some P =
    sym (ap (option_map (λ (y : Vert). y.kind)) (cond-true (eqb v.name x) (Some v) (find (λ y. eqb y.name x) vs)
    (eq-eqb v.name x s))) ∙ e in
    let kind : v.kind ≡ P = cc in
    (0, omega arith, ap₂ (λ (n : ℕ) (k : Kind). record { name = n; kind = k }) s kind))
    (λ ne.
    let rest : kind_in vs x ≡ Some P =
    sym (ap (option_map (λ (y : Vert). y.kind)) (cond-false (eqb v.name x) (Some v) (find (λ y. eqb y.name x) vs)
    (ne_eqb v.name x ne))) ∙ e in
    let c = kind_free vs x rest in
    (suc c.0, omega (arith, c.1), c.2))
    (cases_eq v.name x)

-- lists of some of the items share no item where those of all do not
some_apart : {A : Type 0} (f : A → List ℕ) (q : A → Bool) (xs : List A) → Distinct (flat_map f xs)
    → Distinct (flat_map f (filter q xs)) × ((x : ℕ) → Has x (flat_map f (filter q xs)) → Has x (flat_map f xs))
some_apart f q [] once = (tt, (λ x h. h))
some_apart f q (y ∷ ys) once =
    let rest = some_apart f q ys (Distinct-append_right (f y) (flat_map f ys) once) in
    ⊎_elim
    (λ (t : q y ≡ true). rw (t) (
      Distinct-append (f y) (flat_map f (filter q ys)) (Distinct-append_left (f y) (flat_map f ys) once) rest.0
          (λ x h. Lacks-from x (flat_map f (filter q ys)) (λ k. has_lacks x (flat_map f ys) (rest.1 x k)
          (Distinct-apart x (f y) (flat_map f ys) once h))),
      λ x h. ⊎_elim
          (λ k. Has-append_left x (f y) (flat_map f ys) k)
          (λ k. Has-append_right x (f y) (flat_map f ys) (rest.1 x k))
          (Has-append_cases x (f y) (flat_map f (filter q ys)) h),
    ))
    (λ (e : q y ≡ false). rw (e) (rest.0, λ x h. Has-append_right x (f y) (flat_map f ys) (rest.1 x h)))
    (cases_Bool (q y))

-- the ends of the pipes of P-nodes are the vertices of both
pipe_ends : (names : List ℕ) (hs bs : List Planted) → length names ≡ length hs → length bs ≡ length hs
    → IsPermutation (flat_map (λ q. q.a ∷ q.b ∷ []) (node_pipes names hs bs)) (row_verts hs ++ row_verts bs)
pipe_ends [] [] [] e d = IsPermutation-refl []
pipe_ends [] [] (b ∷ bs) e d = absurd (omega (arith, d))
pipe_ends [] (a ∷ hs) bs e d = absurd (omega (arith, e))
pipe_ends (n ∷ names) [] bs e d = absurd (omega (arith, e))
pipe_ends (n ∷ names) (a ∷ hs) [] e d = absurd (omega (arith, d))
pipe_ends (n ∷ names) (a ∷ hs) (b ∷ bs) e d =
    let rest : List ℕ = flat_map (λ (q : Pipe). q.a ∷ q.b ∷ []) (node_pipes names hs bs) in
    let us : List ℕ = row_verts hs in
    let ws : List ℕ = row_verts bs in
    IsPermutation-cons a.vertex (b.vertex ∷ rest) (us ++ b.vertex ∷ ws)
    (IsPermutation-trans (b.vertex ∷ rest) (b.vertex ∷ (us ++ ws)) (us ++ b.vertex ∷ ws)
    (IsPermutation-cons b.vertex rest (us ++ ws) (pipe_ends names hs bs (omega (arith, e)) (omega (arith, d))))
    (IsPermutation-sym (us ++ b.vertex ∷ ws) (b.vertex ∷ (us ++ ws)) (IsPermutation-middle us b.vertex ws)))

-- the names of the pipes of P-nodes
pipe_names_are : (names : List ℕ) (hs bs : List Planted) → length names ≡ length hs → length bs ≡ length hs
    → map (λ q. q.name) (node_pipes names hs bs) ≡ names
pipe_names_are [] [] [] e d = refl
pipe_names_are [] [] (b ∷ bs) e d = absurd (omega (arith, d))
pipe_names_are [] (a ∷ hs) bs e d = absurd (omega (arith, e))
pipe_names_are (n ∷ names) [] bs e d = absurd (omega (arith, e))
pipe_names_are (n ∷ names) (a ∷ hs) [] e d = absurd (omega (arith, d))
pipe_names_are (n ∷ names) (a ∷ hs) (b ∷ bs) e d =
    ap (λ zs. n ∷ zs) (pipe_names_are names hs bs (omega (arith, e)) (omega (arith, d)))

-- new names that are small enough
pub record AreSmall (i j : Synchronized) (p : Pipe) (u : ℕ) (shape : Shape)
    (prop : IsPropagated i p u shape j) : Type 0 where
  pub verts : All (λ n. n < 2 ^ 63) (prop.at_u ++ prop.at_w)
  pub edges : All (λ n. n < 2 ^ 63) (prop.edges_u ++ prop.edges_w)
  pub pipes : All (λ n. n < 2 ^ 63) prop.names
  pub cells : All (λ n. n < 2 ^ 63) prop.new_cells

module _ (i j : Synchronized) (is_i : IsSynchronized i) (p : Pipe) (live : Contains i.pipes p)
    (u : ℕ) (end : IsEnd p u) (shape : Shape)
    (edges_u : rising (shape.root ∷ leaves shape.body) ≡ edges_of i u) (prop : IsPropagated i p u shape j)
    (small : AreSmall i j p u shape prop) where
  -- the other end, and the vertices that stay
  abbrev w : ℕ
  w = opposite p u

  -- the names of the vertices that stay
  abbrev stay : List ℕ
  stay = map (λ v. v.name) (old_verts i j p u shape prop)

  -- the rows of the first tree
  abbrev hs : List Planted
  hs = prop.rows_u

  -- the rows of the second tree
  abbrev bs : List Planted
  bs = prop.rows_w

  -- the names of the vertices
  abbrev names_j : List ℕ
  names_j = stay ++ (row_verts hs ++ row_verts bs)

  -- no vertex of j has two names
  names_once_j : Distinct names_j
  names_once_j = names_once i j is_i p live u end shape edges_u prop

  -- no vertex of j is named twice
  verts_j_once : Distinct (vert_names j)
  verts_j_once = Distinct-IsPermutation names_j (vert_names j) (verts_named i j p u shape prop) names_once_j

  -- rows in the order of their names
  in_order : {A : Type 0} (name : A → ℕ) (xs ys : List A) → ys ≡ by_name name xs → Distinct (map name ys)
      → IsStrictlyIncreasing (map name ys)
  in_order name xs ys e once =
      subst (λ zs. IsStrictlyIncreasing (map name zs)) (sym e)
      (names_rise name xs (Distinct-IsPermutation (map name ys) (map name xs)
      (IsPermutation-sym (map name xs) (map name ys)
      (IsPermutation-map name xs ys (subst (IsPermutation xs) (sym e) (by_name_keeps name xs)))) once))

  -- the names of the vertices rise, and are small
  verts_ok : AreNames (vert_names j)
  verts_ok = record {
    rise = in_order (λ v. v.name) (all_verts i j p u shape prop) j.verts
        (verts_ordered i j p u shape prop) verts_j_once;
    fit = All-permutation (λ n. n < 2 ^ 63) names_j (vert_names j) (verts_named i j p u shape prop)
        (All-append (λ n. n < 2 ^ 63) stay (row_verts hs ++ row_verts bs)
        (All-from_items (λ n. n < 2 ^ 63) stay (λ n c.
        All-contains (λ n. n < 2 ^ 63) (vert_names i) n is_i.verts_named.fit
        (Has_old i j is_i p live u end shape edges_u prop n ((Has-Contains n stay).1 c)).0))
        (subst (All (λ n. n < 2 ^ 63)) (sym (ap₂ (λ (xs ys : List ℕ). xs ++ ys)
        (verts_u i j is_i p live u end shape edges_u prop)
        (verts_w i j is_i p live u end shape edges_u prop))) small.verts));
  }

  -- the names of the edges rise, and are small
  edges_ok : AreNames (edge_names j)
  edges_ok = record {
    rise = in_order (λ e. e.name) (all_edges i j p u shape prop) j.edges (edges_ordered i j p u shape prop)
        (edges_j_once i j is_i p live u end shape edges_u prop);
    fit = All-permutation (λ n. n < 2 ^ 63) (edge_names i ++ (prop.edges_u ++ prop.edges_w)) (edge_names j)
        (edges_named i j is_i p live u end shape edges_u prop)
        (All-append (λ n. n < 2 ^ 63) (edge_names i) (prop.edges_u ++ prop.edges_w) is_i.edges_named.fit small.edges);
  }

  -- the pipes that stay
  abbrev old_pipes : List Pipe
  old_pipes = other_pipes i (p.name ∷ [])

  -- both trees have as many P-nodes
  free_count : length (free_nodes bs) ≡ length (free_nodes hs)
  free_count = sym (zip_length HaveOneForm (free_nodes hs) (free_nodes bs) (free_forms i j p u shape prop))

  -- the names of the pipes of j
  pipe_names_j : IsPermutation (map (λ q. q.name) old_pipes ++ prop.names) (pipe_names j)
  pipe_names_j =
      subst (λ zs. IsPermutation zs (pipe_names j))
      (map-append (λ (q : Pipe). q.name) old_pipes (new_pipes i j p u shape prop)
      ∙ ap (λ zs. map (λ (q : Pipe). q.name) old_pipes ++ zs)
      (pipe_names_are prop.names (free_nodes hs) (free_nodes bs) prop.one_name_each free_count))
      (IsPermutation-map (λ q. q.name) (all_pipes i j p u shape prop) j.pipes (pipes_keep i j p u shape prop))

  -- no pipe of i is named twice
  pipes_i_once : Distinct (pipe_names i)
  pipes_i_once = Distinct-from_rises (pipe_names i) (rises_from (pipe_names i) is_i.pipes_named.rise)

  -- a name of a pipe that stays is one of i
  old_name : (qs : List Pipe) (t : Pipe → Bool) (n : ℕ) → Has n (map (λ q. q.name) (filter t qs))
      → Has n (map (λ q. q.name) qs)
  old_name [] t n h = h
  old_name (q ∷ qs) t n h = ⊎_elim
      (λ (y : t q ≡ true). ⊎_elim (λ e. inl e) (λ k. inr (old_name qs t n k))
      (let g : Has n (q.name ∷ map (λ (z : Pipe). z.name) (filter t qs)) = rw (y) at h in g))
      (λ (y : t q ≡ false). inr (old_name qs t n (let g : Has n (map (λ (z : Pipe). z.name) (filter t qs)) = rw
      (y) at h in g)))
      (cases_Bool (t q))

  -- the names of pipes that stay are different
  old_names_once : (qs : List Pipe) (t : Pipe → Bool) → Distinct (map (λ q. q.name) qs)
      → Distinct (map (λ q. q.name) (filter t qs))
  old_names_once [] t d = tt
  old_names_once (q ∷ qs) t d = ⊎_elim
      (λ (y : t q ≡ true). rw (y) (
        Lacks-from q.name (map (λ (z : Pipe). z.name) (filter t qs))
            (λ h. has_lacks q.name (map (λ (z : Pipe). z.name) qs) (old_name qs t q.name h) d.0),
        old_names_once qs t d.1,
      ))
      (λ (y : t q ≡ false). rw (y) (old_names_once qs t d.1))
      (cases_Bool (t q))

  -- the names of the pipes rise, and are small
  pipes_ok : AreNames (pipe_names j)
  pipes_ok =
      let test : Pipe → Bool = λ (q : Pipe). not (has (p.name ∷ []) q.name) in
      let olds : List ℕ = map (λ (q : Pipe). q.name) old_pipes in
      let once : Distinct (olds ++ prop.names) =
      Distinct-append olds prop.names (old_names_once i.pipes test pipes_i_once)
      (fresh_once (pipe_names i) prop.names prop.new_pipes)
      (λ n h. Lacks-from n prop.names (λ k. fresh_other (pipe_names i) prop.names n n prop.new_pipes k
      (old_name i.pipes test n h) refl)) in
      record {
        rise = in_order (λ q. q.name) (all_pipes i j p u shape prop) j.pipes prop.pipes
            (Distinct-IsPermutation (olds ++ prop.names) (pipe_names j) pipe_names_j once);
        fit = All-permutation (λ n. n < 2 ^ 63) (olds ++ prop.names) (pipe_names j) pipe_names_j
            (All-append (λ n. n < 2 ^ 63) olds prop.names
            (All-from_items (λ n. n < 2 ^ 63) olds (λ n c.
            All-contains (λ n. n < 2 ^ 63) (pipe_names i) n is_i.pipes_named.fit
            ((Has-Contains n (pipe_names i)).0 (old_name i.pipes test n ((Has-Contains n olds).1 c)))))
            small.pipes);
      }

  -- the cells of vertices are small
  abbrev SmallCell : Vert → Type 0
  SmallCell v = All (λ c. c < 2 ^ 63) (cell_of v.kind)

  -- a P-vertex has no cell
  free_cells : (rows : List Planted) → All SmallCell (map (λ r. free_vert r.vertex) rows)
  free_cells [] = All-nil SmallCell
  free_cells (r ∷ rows) = All-cons SmallCell (free_vert r.vertex) (map (λ r. free_vert r.vertex) rows)
      (All-nil (λ c. c < 2 ^ 63)) (free_cells rows)

  -- the Q-vertices have the new cells
  fixed_cells : (direction : List ℕ → List ℕ) (cs : List ℕ) (rows : List Planted) → All (λ c. c < 2 ^ 63) cs
      → All SmallCell (fixed_verts direction cs rows)
  fixed_cells direction [] rows all = All-nil SmallCell
  fixed_cells direction (c ∷ cs) [] all = All-nil SmallCell
  fixed_cells direction (c ∷ cs) (r ∷ rows) all =
      All-cons SmallCell (node_vert direction c r) (fixed_verts direction cs rows)
      (All-cons (λ c. c < 2 ^ 63) c [] (All-head (λ c. c < 2 ^ 63) c cs all) (All-nil (λ c. c < 2 ^ 63)))
      (fixed_cells direction cs rows (All-tail (λ c. c < 2 ^ 63) c cs all))

  -- what holds of all old vertices and of all vertices of the rows holds of all
  all_new_verts : (R : Vert → Type 0) → All R (old_verts i j p u shape prop) → All R (new_free i j p u shape prop)
      → All R (fixed_verts (λ es. es) prop.new_cells (fixed_nodes hs)) → All R
      (fixed_verts reverse prop.new_cells (fixed_nodes bs))
      → All R j.verts
  all_new_verts R old free fu fw =
      All-permutation R (all_verts i j p u shape prop) j.verts (verts_keep i j p u shape prop)
      (All-append R (old_verts i j p u shape prop) (new_free i j p u shape prop ++ new_fixed i j p u shape prop) old
      (All-append R (new_free i j p u shape prop) (new_fixed i j p u shape prop) free
      (All-append R (fixed_verts (λ es. es) prop.new_cells (fixed_nodes hs))
      (fixed_verts reverse prop.new_cells (fixed_nodes bs)) fu fw)))

  -- all cells are small
  cells_ok : All (λ c. c < 2 ^ 63) (cells j)
  cells_ok = all-flat_map (λ c. c < 2 ^ 63) (λ (v : Vert). cell_of v.kind) j.verts
      (all_new_verts SmallCell
      (All-filter (λ (v : Vert). not (has (u ∷ w ∷ []) v.name)) SmallCell i.verts
      (All-from_items SmallCell i.verts (λ v c. All-from_items (λ n. n < 2 ^ 63) (cell_of v.kind) (λ n k.
      All-contains (λ n. n < 2 ^ 63) (cells i) n is_i.cells_fit
      ((Has-Contains n (cells i)).0 (owned (λ (z : Vert). cell_of z.kind) i.verts v n c
      ((Has-Contains n (cell_of v.kind)).1 k)))))))
      (free_cells (free_nodes hs ++ free_nodes bs))
      (fixed_cells (λ es. es) prop.new_cells (fixed_nodes hs) small.cells)
      (fixed_cells reverse prop.new_cells (fixed_nodes bs) small.cells))

  -- the edges of a vertex rise
  edges_rise : (k : Synchronized) → IsStrictlyIncreasing (edge_names k) → (v : ℕ) → IsStrictlyIncreasing (edges_of k v)
  edges_rise k up v = IsStrictlyIncreasing-filter (ends_at (graph k) v) (edge_names k) up

  -- a vertex that stays has the same edges
  edges_same : (x : ℕ) → Has x stay → edges_of i x ≡ edges_of j x
  edges_same x h =
      let kept = edges_stay i j is_i p live u end shape edges_u prop x h in
      rising_same (edges_of i x) (edges_of j x) (edges_rise i is_i.edges_named.rise x) (edges_rise j edges_ok.rise x)
      (λ z c. Contains-permutation (edges_of i x) (edges_of j x) z kept c)
      (λ z c. Contains-permutation (edges_of j x) (edges_of i x) z
      (IsPermutation-sym (edges_of i x) (edges_of j x) kept) c)

  -- so it has the same psi
  same_kind : (x : ℕ) (k : Kind) → edges_of i x ≡ edges_of j x → IsRightKind (graph i) x k → IsRightKind (graph j) x k
  same_kind x P e h = tt
  same_kind x (Q c psi) e h = subst (λ es. IsPermutation es psi × (take 1 psi ≡ take 1 es)) e h

  -- the psi of a Q-node is right
  node_kind : (direction : List ℕ → List ℕ) (c : ℕ) (r : Planted)
      → IsPermutation (direction r.edges) (edges_of j r.vertex)
      → IsRightKind (graph j) r.vertex (Q c (turned_to_least (direction r.edges)))
  node_kind direction c r arr = (
    IsPermutation-trans (edges_of j r.vertex) (direction r.edges) (turned_to_least (direction r.edges))
        (IsPermutation-sym (direction r.edges) (edges_of j r.vertex) arr)
        (turn-IsPermutation (direction r.edges) (turned_to_least (direction r.edges))
        (turned_to_least-IsTurn (direction r.edges))),
    least_first (edges_of j r.vertex) (direction r.edges) (edges_rise j edges_ok.rise r.vertex) arr,
  )

  -- a vertex has a right kind in j
  abbrev RightKind : Vert → Type 0
  RightKind v = IsRightKind (graph j) v.name v.kind

  -- a P-vertex has one
  free_kinds : (rows : List Planted) → All RightKind (map (λ r. free_vert r.vertex) rows)
  free_kinds [] = All-nil RightKind
  free_kinds (r ∷ rows) = All-cons RightKind (free_vert r.vertex) (map (λ r. free_vert r.vertex) rows) tt
      (free_kinds rows)

  -- the vertices of Q-nodes have one
  fixed_kinds : (direction : List ℕ → List ℕ) (cs : List ℕ) (rows : List Planted)
      → ((r : Planted) → Contains rows r → IsPermutation (direction r.edges) (edges_of j r.vertex))
      → All RightKind (fixed_verts direction cs rows)
  fixed_kinds direction [] rows all = All-nil RightKind
  fixed_kinds direction (c ∷ cs) [] all = All-nil RightKind
  fixed_kinds direction (c ∷ cs) (r ∷ rows) all =
      All-cons RightKind (node_vert direction c r) (fixed_verts direction cs rows)
      (node_kind direction c r (all r (0, omega arith, refl)))
      (fixed_kinds direction cs rows (λ q k. all q (suc k.0, omega (arith, k.1), k.2)))

  -- a row that a test keeps is a row
  kept_row : (t : Planted → Bool) (rows : List Planted) (r : Planted) → Contains (filter t rows) r → Contains rows r
  kept_row t rows r c = All-contains (Contains rows) (filter t rows) r
      (All-filter t (Contains rows) rows (All-from_items (Contains rows) rows (λ q k. k))) c

  -- all vertices have right kinds
  lists_ok : All RightKind j.verts
  lists_ok =
      let test : Vert → Bool = λ (v : Vert). not (has (u ∷ w ∷ []) v.name) in
      let base : All (λ v. v.name ≢ u → v.name ≢ w → RightKind v) i.verts =
      All-from_items (λ v. v.name ≢ u → v.name ≢ w → RightKind v) i.verts (λ v c nu nw.
      same_kind v.name v.kind (edges_same v.name (old_Has i j is_i p live u end shape edges_u prop v.name
      (map_has (λ (z : Vert). z.name) i.verts v c) nu nw))
      (All-contains (λ (z : Vert). IsRightKind (graph i) z.name z.kind) i.verts v is_i.lists_right c)) in
      let kept = All-filter test (λ v. v.name ≢ u → v.name ≢ w → RightKind v) i.verts base in
      let passes = filter_passes test i.verts in
      all_new_verts RightKind
      (λ k d lt. kept k d lt
      (λ e. passed (u ∷ w ∷ []) _ (passes k d lt) u (inl refl) e)
      (λ e. passed (u ∷ w ∷ []) _ (passes k d lt) w (inr (inl refl)) e))
      (free_kinds (free_nodes hs ++ free_nodes bs))
      (fixed_kinds (λ es. es) prop.new_cells (fixed_nodes hs)
      (λ r c. rows_u-edges i j is_i p live u end shape edges_u prop r (kept_row (λ q. q.fixed) hs r c)))
      (fixed_kinds reverse prop.new_cells (fixed_nodes bs)
      (λ r c. IsPermutation-trans (reverse r.edges) r.edges (edges_of j r.vertex)
      (IsPermutation-sym r.edges (reverse r.edges) (IsPermutation-reverse r.edges))
      (rows_w-edges i j is_i p live u end shape edges_u prop r (kept_row (λ q. q.fixed) bs r c))))

  -- what holds of the pipes that stay and of the new ones holds of all
  all_new_pipes : (R : Pipe → Type 0) → ((q : Pipe) → Contains i.pipes q → q.name ≢ p.name → R q)
      → ((n : ℕ) (a b : Planted) → Contains hs a → Contains bs b → length b.edges ≡ length a.edges → R
      (node_pipe n a b))
      → All R j.pipes
  all_new_pipes R old new =
      let test : Pipe → Bool = λ (q : Pipe). not (has (p.name ∷ []) q.name) in
      let base : All (λ q. q.name ≢ p.name → R q) i.pipes = All-from_items (λ q. q.name ≢ p.name → R q) i.pipes old in
      let kept = All-filter test (λ q. q.name ≢ p.name → R q) i.pipes base in
      let passes = filter_passes test i.pipes in
      All-permutation R (all_pipes i j p u shape prop) j.pipes (pipes_keep i j p u shape prop)
      (All-append R old_pipes (new_pipes i j p u shape prop)
      (λ k d lt. kept k d lt (λ e. passed (p.name ∷ []) _ (passes k d lt) p.name (inl refl) e))
      (row_pairs.all_pipes R prop.names (free_nodes hs) (free_nodes bs)
      (each_new (free_nodes hs) (free_nodes bs) (λ r c. kept_row (λ q. not q.fixed) hs r c)
      (λ r c. kept_row (λ q. not q.fixed) bs r c) (free_forms i j p u shape prop))))
    where
      each_new : (as_h as_b : List Planted) → ((r : Planted) → Contains as_h r → Contains hs r)
          → ((r : Planted) → Contains as_b r → Contains bs r) → AllZip HaveOneForm as_h as_b
          → AllZip (λ a b. (n : ℕ) → R (node_pipe n a b)) as_h as_b
      each_new [] [] ih ib z = tt
      each_new [] (b ∷ rest_b) ih ib z = absurd z
      each_new (a ∷ rest_h) [] ih ib z = absurd z
      each_new (a ∷ rest_h) (b ∷ rest_b) ih ib z = (
        (λ n. new n a b (ih a (0, omega arith, refl)) (ib b (0, omega arith, refl)) z.0.1),
        each_new rest_h rest_b (λ r c. ih r (suc c.0, omega (arith, c.1), c.2))
            (λ r c. ib r (suc c.0, omega (arith, c.1), c.2)) z.1,
      )

  -- a P-vertex that stays is one of j
  free_stays : (x : ℕ) → Has x stay → kind_in i.verts x ≡ Some P → kind_in j.verts x ≡ Some P
  free_stays x h e =
      let n = Has_old i j is_i p live u end shape edges_u prop x h in
      free_kind j.verts x verts_j_once
      (other_vert i j is_i p live u end shape edges_u prop (free_vert x) (kind_free i.verts x e) n.1 n.2)

  -- the vertex of a row of a P-node is a P-vertex of j
  free_new : (r : Planted) → Contains (free_nodes hs ++ free_nodes bs) r → kind_in j.verts r.vertex ≡ Some P
  free_new r c =
      let new : Contains (new_free i j p u shape prop) (free_vert r.vertex) =
      map_has (λ (q : Planted). free_vert q.vertex) (free_nodes hs ++ free_nodes bs) r c in
      free_kind j.verts r.vertex verts_j_once
      (Contains-permutation (all_verts i j p u shape prop) j.verts (free_vert r.vertex) (verts_keep i j p u shape prop)
      (Contains-append_right (old_verts i j p u shape prop)
      (new_free i j p u shape prop ++ new_fixed i j p u shape prop)
      (free_vert r.vertex)
      (Contains-append_left (new_free i j p u shape prop) (new_fixed i j p u shape prop) (free_vert r.vertex) new)))

  -- two rows of different trees have different vertices
  rows_apart : (a b : Planted) → Contains hs a → Contains bs b → a.vertex ≢ b.vertex
  rows_apart a b ca cb e =
      let once = Distinct-append_right stay (row_verts hs ++ row_verts bs) names_once_j in
      let at_a : Has a.vertex (row_verts hs) = (Has-Contains a.vertex (row_verts hs)).1
      (map_has (λ (r : Planted). r.vertex) hs a ca) in
      let at_b : Has b.vertex (row_verts bs) = (Has-Contains b.vertex (row_verts bs)).1
      (map_has (λ (r : Planted). r.vertex) bs b cb) in
      has_lacks a.vertex (row_verts bs) (subst (λ x. Has x (row_verts bs)) (sym e) at_b)
      (Distinct-apart a.vertex (row_verts hs) (row_verts bs) once at_a)

  -- the pairs of a pipe of two P-nodes are right
  pairs_new : (n : ℕ) (a b : Planted) → Contains hs a → Contains bs b → length b.edges ≡ length a.edges
      → HasRightPairs (graph j) (node_pipe n a b)
  pairs_new n a b ca cb size =
      let pairs : List (ℕ × ℕ) = zip a.edges b.edges in
      let kept : IsPermutation pairs (by_name (λ x. x.0) pairs) = by_name_keeps (λ x. x.0) pairs in
      let edges_a = rows_u-edges i j is_i p live u end shape edges_u prop a ca in
      let edges_b = rows_w-edges i j is_i p live u end shape edges_u prop b cb in
      let firsts : List ℕ = map (λ (x : ℕ × ℕ). x.0) (by_name (λ (x : ℕ × ℕ). x.0) pairs) in
      let firsts_are : IsPermutation a.edges firsts =
      subst (λ zs. IsPermutation zs firsts) (first_zip a.edges b.edges size)
      (IsPermutation-map (λ (x : ℕ × ℕ). x.0) pairs (by_name (λ (x : ℕ × ℕ). x.0) pairs) kept) in
      let once : Distinct a.edges =
      Distinct-IsPermutation (edges_of j a.vertex) a.edges (IsPermutation-sym a.edges (edges_of j a.vertex) edges_a)
      (filter-Distinct (ends_at (graph j) a.vertex) (edge_names j)
      (edges_j_once i j is_i p live u end shape edges_u prop)) in
      let both : IsPermutation firsts (edges_of j a.vertex) =
      IsPermutation-trans firsts a.edges (edges_of j a.vertex) (IsPermutation-sym a.edges firsts firsts_are) edges_a in
      record {
        first = rising_same firsts (edges_of j a.vertex)
            (names_rise (λ (x : ℕ × ℕ). x.0) pairs (subst Distinct (sym (first_zip a.edges b.edges size)) once))
            (edges_rise j edges_ok.rise a.vertex)
            (λ z c. Contains-permutation firsts (edges_of j a.vertex) z both c)
            (λ z c. Contains-permutation (edges_of j a.vertex) firsts z
            (IsPermutation-sym firsts (edges_of j a.vertex) both) c);
        second = IsPermutation-trans (edges_of j b.vertex) b.edges (map (λ x. x.1) (by_name (λ x. x.0) pairs))
            (IsPermutation-sym b.edges (edges_of j b.vertex) edges_b)
            (subst (λ zs. IsPermutation zs (map (λ x. x.1) (by_name (λ x. x.0) pairs)))
            (second_zip a.edges b.edges size)
            (IsPermutation-map (λ x. x.1) pairs (by_name (λ x. x.0) pairs) kept));
      }

  -- the pairs of all pipes
  pairs_ok : All (HasRightPairs (graph j)) j.pipes
  pairs_ok = all_new_pipes (HasRightPairs (graph j))
      (λ q c ne.
      let r = All-contains (HasRightPairs (graph i)) i.pipes q is_i.pairs_right c in
      let ea = edges_same q.a (other_stays i j is_i p live u end shape edges_u prop q c ne q.a (inl refl)) in
      let eb = edges_same q.b (other_stays i j is_i p live u end shape edges_u prop q c ne q.b (inr (inl refl))) in
      record {
        first = r.first ∙ ea;
        second = subst (λ es. IsPermutation es (map (λ (x : ℕ × ℕ). x.1) q.pairs)) eb r.second;
      })
      pairs_new

  -- the ends of all pipes are two different P-vertices
  ends_free_ok : All (HasRightEnds j.verts) j.pipes
  ends_free_ok =
      let test : Pipe → Bool = λ (q : Pipe). not (has (p.name ∷ []) q.name) in
      let base : All (λ q. q.name ≢ p.name → HasRightEnds j.verts q) i.pipes =
      All-from_items (λ q. q.name ≢ p.name → HasRightEnds j.verts q) i.pipes (λ q c ne.
      let r = All-contains (HasRightEnds i.verts) i.pipes q is_i.ends_free c in
      record {
        differ = r.differ;
        free_a = free_stays q.a (other_stays i j is_i p live u end shape edges_u prop q c ne q.a (inl refl)) r.free_a;
        free_b = free_stays q.b (other_stays i j is_i p live u end shape edges_u prop q c ne q.b
            (inr (inl refl))) r.free_b;
      }) in
      let kept = All-filter test (λ q. q.name ≢ p.name → HasRightEnds j.verts q) i.pipes base in
      let passes = filter_passes test i.pipes in
      All-permutation (HasRightEnds j.verts) (all_pipes i j p u shape prop) j.pipes (pipes_keep i j p u shape prop)
      (All-append (HasRightEnds j.verts) old_pipes (new_pipes i j p u shape prop)
      (λ k d lt. kept k d lt (λ e. passed (p.name ∷ []) _ (passes k d lt) p.name (inl refl) e))
      (row_pairs.all_pipes (HasRightEnds j.verts) prop.names (free_nodes hs) (free_nodes bs)
      (each (free_nodes hs) (free_nodes bs) (λ r c. c) (λ r c. c) (free_forms i j p u shape prop))))
    where
      each : (us ws : List Planted) → ((r : Planted) → Contains us r → Contains (free_nodes hs) r)
          → ((r : Planted) → Contains ws r → Contains (free_nodes bs) r) → AllZip HaveOneForm us ws
          → AllZip (λ a b. (n : ℕ) → HasRightEnds j.verts (node_pipe n a b)) us ws
      each [] [] iu iw z = tt
      each [] (b ∷ ws) iu iw z = absurd z
      each (a ∷ us) [] iu iw z = absurd z
      each (a ∷ us) (b ∷ ws) iu iw z =
          let ca : Contains (free_nodes hs) a = iu a (0, omega arith, refl) in
          let cb : Contains (free_nodes bs) b = iw b (0, omega arith, refl) in (
            (λ n. record {
              differ = rows_apart a b (kept_row (λ q. not q.fixed) hs a ca) (kept_row (λ q. not q.fixed) bs b cb);
              free_a = free_new a (Contains-append_left (free_nodes hs) (free_nodes bs) a ca);
              free_b = free_new b (Contains-append_right (free_nodes hs) (free_nodes bs) b cb);
            }),
            each us ws (λ r c. iu r (suc c.0, omega (arith, c.1), c.2))
                (λ r c. iw r (suc c.0, omega (arith, c.1), c.2)) z.1,
          )

  -- no two pipes have a common end
  apart_ok : Distinct (flat_map (λ q. q.a ∷ q.b ∷ []) j.pipes)
  apart_ok =
      let ends : Pipe → List ℕ = λ (q : Pipe). q.a ∷ q.b ∷ [] in
      let test : Pipe → Bool = λ (q : Pipe). not (has (p.name ∷ []) q.name) in
      let olds : List ℕ = flat_map ends old_pipes in
      let new : List ℕ = row_verts (free_nodes hs) ++ row_verts (free_nodes bs) in
      let old_ends = some_apart ends test i.pipes is_i.ends_apart in
      let stays : All (λ q. (x : ℕ) → Has x (ends q) → Has x stay) old_pipes =
      (let base : All (λ q. q.name ≢ p.name → (x : ℕ) → Has x (ends q) → Has x stay) i.pipes =
      All-from_items (λ q. q.name ≢ p.name → (x : ℕ) → Has x (ends q) → Has x stay) i.pipes
      (λ q c ne x h. other_stays i j is_i p live u end shape edges_u prop q c ne x h) in
      let kept = All-filter test (λ q. q.name ≢ p.name → (x : ℕ) → Has x (ends q) → Has x stay) i.pipes base in
      let passes = filter_passes test i.pipes in
      λ k d lt. kept k d lt (λ e. passed (p.name ∷ []) _ (passes k d lt) p.name (inl refl) e)) in
      let rows_distinct = Distinct-append_right stay (row_verts hs ++ row_verts bs) names_once_j in
      let whole : Distinct (olds ++ new) = Distinct-append olds new old_ends.0
      (free_verts_once rows_distinct)
      (λ x h. Lacks-from x new (λ k. has_lacks x (row_verts hs ++ row_verts bs) (free_verts_in x k)
      (Distinct-apart x stay (row_verts hs ++ row_verts bs) names_once_j (owned_stays old_pipes stays x h)))) in
      Distinct-IsPermutation (olds ++ new) (flat_map ends j.pipes)
      (IsPermutation-trans (olds ++ new) (flat_map ends (all_pipes i j p u shape prop)) (flat_map ends j.pipes)
      (subst (IsPermutation (olds ++ new)) (sym (flat_map-both ends old_pipes (new_pipes i j p u shape prop)))
      (IsPermutation-append_right olds new (flat_map ends (new_pipes i j p u shape prop))
      (IsPermutation-sym (flat_map ends (new_pipes i j p u shape prop)) new
      (pipe_ends prop.names (free_nodes hs) (free_nodes bs) prop.one_name_each free_count))))
      (IsPermutation-flat_map ends (all_pipes i j p u shape prop) j.pipes (pipes_keep i j p u shape prop))) whole
    where
      flat_map-both : (f : Pipe → List ℕ) (xs ys : List Pipe) → flat_map f (xs ++ ys) ≡ flat_map f xs ++ flat_map f ys
      flat_map-both f [] ys = refl
      flat_map-both f (x ∷ xs) ys =
          ap (λ zs. f x ++ zs) (flat_map-both f xs ys) ∙ sym (append_assoc (f x) (flat_map f xs) (flat_map f ys))

      -- the ends of the pipes that stay are vertices that stay
      owned_stays : (qs : List Pipe) → All (λ q. (x : ℕ) → Has x (q.a ∷ q.b ∷ []) → Has x stay) qs
          → (x : ℕ) → Has x (flat_map (λ q. q.a ∷ q.b ∷ []) qs) → Has x stay
      owned_stays [] all x h = absurd h
      owned_stays (q ∷ qs) all x h = ⊎_elim
          (λ k. All-head (λ (z : Pipe). (y : ℕ) → Has y (z.a ∷ z.b ∷ []) → Has y stay) q qs all x k)
          (λ k. owned_stays qs (All-tail (λ (z : Pipe). (y : ℕ) → Has y (z.a ∷ z.b ∷ []) → Has y stay) q qs all) x k)
          (Has-append_cases x (q.a ∷ q.b ∷ []) (flat_map (λ q. q.a ∷ q.b ∷ []) qs) h)

      -- a vertex of a row that a test keeps is one of a row
      kept_verts : (t : Planted → Bool) (rows : List Planted) (x : ℕ) → Has x (row_verts (filter t rows))
          → Has x (row_verts rows)
      kept_verts t rows x h =
          let q = map_from (λ (r : Planted). r.vertex) (filter t rows) x
          ((Has-Contains x (row_verts (filter t rows))).0 h) in
          (Has-Contains x (row_verts rows)).1 (subst (Contains (row_verts rows)) q.2
          (map_has (λ (r : Planted). r.vertex) rows q.0 (kept_row t rows q.0 q.1)))

      -- the vertices of P-nodes are those of rows
      free_verts_in : (x : ℕ) → Has x (row_verts (free_nodes hs) ++ row_verts (free_nodes bs))
          → Has x (row_verts hs ++ row_verts bs)
      free_verts_in x h = ⊎_elim
          (λ k. Has-append_left x (row_verts hs) (row_verts bs) (kept_verts (λ q. not q.fixed) hs x k))
          (λ k. Has-append_right x (row_verts hs) (row_verts bs) (kept_verts (λ q. not q.fixed) bs x k))
          (Has-append_cases x (row_verts (free_nodes hs)) (row_verts (free_nodes bs)) h)

      -- the vertices of rows that a test keeps are different
      kept_once : (t : Planted → Bool) (rows : List Planted) → Distinct (row_verts rows)
          → Distinct (row_verts (filter t rows))
      kept_once t [] d = tt
      kept_once t (r ∷ rows) d = ⊎_elim
          (λ (y : t r ≡ true). rw (y) (
            Lacks-from r.vertex (row_verts (filter t rows)) (λ h. has_lacks r.vertex (row_verts rows)
                (kept_verts t rows r.vertex h) d.0),
            kept_once t rows d.1,
          ))
          (λ (y : t r ≡ false). rw (y) (kept_once t rows d.1))
          (cases_Bool (t r))

      -- the vertices of the P-nodes of both trees are different
      free_verts_once : Distinct (row_verts hs ++ row_verts bs)
          → Distinct (row_verts (free_nodes hs) ++ row_verts (free_nodes bs))
      free_verts_once d = Distinct-append (row_verts (free_nodes hs)) (row_verts (free_nodes bs))
          (kept_once (λ q. not q.fixed) hs (Distinct-append_left (row_verts hs) (row_verts bs) d))
          (kept_once (λ q. not q.fixed) bs (Distinct-append_right (row_verts hs) (row_verts bs) d))
          (λ x h. Lacks-from x (row_verts (free_nodes bs)) (λ k. has_lacks x (row_verts bs)
          (kept_verts (λ q. not q.fixed) bs x k)
          (Distinct-apart x (row_verts hs) (row_verts bs) d (kept_verts (λ q. not q.fixed) hs x h))))

  -- the instance after the step keeps the rules
  pub IsSynchronized-propagated : IsSynchronized j
  IsSynchronized-propagated =
      let ends = ends_right i j is_i p live u end shape edges_u prop in
      record {
        verts_named = verts_ok;
        edges_named = edges_ok;
        pipes_named = pipes_ok;
        cells_fit = cells_ok;
        ends_live = λ k d lt. (ends k d lt).0;
        ends_differ = λ k d lt. (ends k d lt).1;
        lists_right = lists_ok;
        ends_free = ends_free_ok;
        ends_apart = apart_ok;
        pairs_right = pairs_ok;
      }
