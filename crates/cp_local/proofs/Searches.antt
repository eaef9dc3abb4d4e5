-- A search that finds the edges of the vertices that it has found, until there are no more.
use Rattle.std.proofs.Common.{◌≡◌, ℕ, ◌+◌, ◌<◌, ◌≤◌, ◌↔◌, Bool, true, eqb, List, [], ◌∷◌, ◌++◌, fold, length, get_or, slice_index, sym, refl, ap, ◌∙◌, subst, inl, inr, ⊎_elim, arith, length-append, append_assoc}
use Rattle.std.specs.Prelude.{◌⊎◌, nat_eq}
use Rattle.std.specs.List.{All, Contains, list_any}
use Rattle.std.specs.List.Sorted.{IsStrictlyIncreasing}
use Rattle.std.proofs.lemmas.Bool.{cases_Bool, cases_lt, cond-false, cond-true, eq-eqb, eqb-true, false≢true, or_cases, or_left, or_right}
use Rattle.std.proofs.lemmas.List.{append-nil, get_or_append_left, get_or_default}
use Rattle.indexmap.specs.IndexSet.{insert_key}
use Rattle.cp_lists.specs.CyclicLists.{Has, Distinct}
use Rattle.cp_lists.proofs.DistinctLists.{Distinct-append, Has-Contains, Has-append_cases, Has-append_left, Has-append_right, Has-place, Has_at}
use Rattle.cp_orbits.specs.Connected.{Connected, here, step}
use Rattle.cp_orbits.proofs.ClassLabels.{Connected-trans}
use Rattle.cp_conn.specs.NamedGraphs.{far, pairs}
use Rattle.cp_conn.proofs.DistinctSubsets.{subset_length}
use Rattle.cp_conn.proofs.NamedGraphs.{edges_at-Contains, far_joins, pairs_have}
use Rattle.cp_board.specs.Instances.{IsSynchronized, Synchronized, edge_names, edges_of, ends_of, graph, vert_names}
use Rattle.cp_sync.proofs.NumberedGraphs.{live_ends}
use Rattle.cp_local.specs.LocalGraphs.{AreComponents, IsReached}
use Rattle.cp_local.specs.Searching.{AreJoinedTo, IsSearched, with_ends}

-- what is an item passes the test
any_of : (p : ℕ → Bool) (xs : List ℕ) (x : ℕ) → Has x xs → p x ≡ true → list_any p xs ≡ true
any_of p [] x h t = absurd h
any_of p (y ∷ ys) x h t = ⊎_elim
    (λ e. or_left (p y) (list_any p ys) (ap p e ∙ t))
    (λ k. or_right (p y) (list_any p ys) (any_of p ys x k t))
    h

-- some item passes a test
of_any : (p : ℕ → Bool) (xs : List ℕ) → list_any p xs ≡ true → (x : ℕ) × Has x xs × (p x ≡ true)
of_any p [] t = absurd (false≢true t)
of_any p (y ∷ ys) t = ⊎_elim
    (λ e. (y, inl refl, e))
    (λ e. let r = of_any p ys e in (r.0, inr r.1, r.2))
    (or_cases (p y) (list_any p ys) t)

-- a list with one more item, where it is new
abbrev pub with_key : List ℕ → ℕ → List ℕ
with_key ks k = insert_key nat_eq ks k

-- the item is there, or goes last
with_key_cases : (ks : List ℕ) (k : ℕ)
    → (Has k ks × (with_key ks k ≡ ks)) ⊎ ((Has k ks → ⊥) × (with_key ks k ≡ ks ++ k ∷ []))
with_key_cases ks k = ⊎_elim
    (λ t.
    let w = of_any (nat_eq k) ks t in
    inl (
      subst (λ x. Has x ks) (sym (eqb-true k w.0 w.2)) w.1,
      cond-true (list_any (nat_eq k) ks) ks (ks ++ k ∷ []) t,
    ))
    (λ f. inr (
      λ h. false≢true (sym f ∙ any_of (nat_eq k) ks k h (eq-eqb k k refl)),
      cond-false (list_any (nat_eq k) ks) ks (ks ++ k ∷ []) f,
    ))
    (cases_Bool (list_any (nat_eq k) ks))

-- what was there is there, at its place
pub with_key-begins : (ks : List ℕ) (k : ℕ) → (ws : List ℕ) × (with_key ks k ≡ ks ++ ws)
with_key-begins ks k = ⊎_elim
    (λ h. ([], h.1 ∙ sym (append-nil ks)))
    (λ h. (k ∷ [], h.1))
    (with_key_cases ks k)

-- no item stands twice
with_key-Distinct : (ks : List ℕ) (k : ℕ) → Distinct ks → Distinct (with_key ks k)
with_key-Distinct ks k once = ⊎_elim
    (λ h. subst Distinct (sym h.1) once)
    (λ h. subst Distinct (sym h.1) (Distinct-append ks (k ∷ []) once (tt, tt)
    (λ d hd. (λ same. h.0 (subst (λ x. Has x ks) (sym same) hd), tt))))
    (with_key_cases ks k)

-- the item is there
with_key-Has : (ks : List ℕ) (k : ℕ) → Has k (with_key ks k)
with_key-Has ks k = ⊎_elim
    (λ h. subst (Has k) (sym h.1) h.0)
    (λ h. subst (Has k) (sym h.1) (Has-append_right k ks (k ∷ []) (inl refl)))
    (with_key_cases ks k)

-- with all others
with_key-keeps : (ks : List ℕ) (k d : ℕ) → Has d ks → Has d (with_key ks k)
with_key-keeps ks k d h = let b = with_key-begins ks k in subst (Has d) (sym b.1) (Has-append_left d ks b.0 h)

-- and no more
with_key-from : (ks : List ℕ) (k d : ℕ) → Has d (with_key ks k) → Has d ks ⊎ (k ≡ d)
with_key-from ks k d h = ⊎_elim
    (λ c. inl (subst (Has d) c.1 h))
    (λ c. ⊎_elim inl (λ last. ⊎_elim inr (λ z. absurd z) last) (Has-append_cases d ks (k ∷ []) (subst (Has d) c.1 h)))
    (with_key_cases ks k)

module _ (i : Synchronized) where
  -- they begin with the vertices before
  pub with_ends-begins : (vs : List ℕ) (e : ℕ) → (ws : List ℕ) × (with_ends i vs e ≡ vs ++ ws)
  with_ends-begins vs e =
      let a = with_key-begins vs (ends_of i e).0 in
      let b = with_key-begins (with_key vs (ends_of i e).0) (ends_of i e).1 in
      (a.0 ++ b.0, b.1 ∙ ap (λ xs. xs ++ b.0) a.1 ∙ append_assoc vs a.0 b.0)

  -- a search goes on with an edge and its ends
  IsSearched-edge : IsSynchronized i → (k : ℕ) (vs es : List ℕ) (e : ℕ) → IsSearched i k vs es
      → Contains (edge_names i) e → IsSearched i k (with_ends i vs e) (es ++ e ∷ [])
  IsSearched-edge is k vs es e s c = record {
    within = let h = ap length more.1 in omega (arith, s.within, h, length-append vs more.0);
    verts_once = with_key-Distinct us b (with_key-Distinct vs a s.verts_once);
    verts_live = λ v h. ⊎_elim
        (λ k. ⊎_elim (s.verts_live v) (λ same. subst (Contains (vert_names i)) same ends.0) (with_key-from vs a v k))
        (λ same. subst (Contains (vert_names i)) same ends.1)
        (with_key-from us b v h);
    edges_live = λ f h. ⊎_elim (s.edges_live f) (λ one. subst (Contains (edge_names i)) (only f one) c)
        (Has-append_cases f es (e ∷ []) h);
    ends_found = λ f h. ⊎_elim
        (λ old. let w = s.ends_found f old in (kept (ends_of i f).0 w.0, kept (ends_of i f).1 w.1))
        (λ one. subst (λ x. Has (ends_of i x).0 (with_ends i vs e) × Has (ends_of i x).1 (with_ends i vs e))
        (only f one)
        (with_key-keeps us b a (with_key-Has vs a), with_key-Has us b))
        (Has-append_cases f es (e ∷ []) h);
    edges_found = λ j lt f h.
        let same : slice_index (with_ends i vs e) j ≡ slice_index vs j =
        ap (λ xs. slice_index xs j) more.1 ∙ get_or_append_left vs more.0 0 j (omega (arith, lt, s.within)) in
        Has-append_left f es (e ∷ []) (s.edges_found j lt f (subst (λ v. Contains (edges_of i v) f) same h));
  }
    where
      a : ℕ
      a = (ends_of i e).0

      b : ℕ
      b = (ends_of i e).1

      us : List ℕ
      us = with_key vs a

      more : (ws : List ℕ) × (with_ends i vs e ≡ vs ++ ws)
      more = with_ends-begins vs e

      ends : Contains (vert_names i) a × Contains (vert_names i) b
      ends = let l = live_ends i is e c in (l.0, l.1)

      kept : (d : ℕ) → Has d vs → Has d (with_ends i vs e)
      kept d h = with_key-keeps us b d (with_key-keeps vs a d h)

      only : (f : ℕ) → Has f (e ∷ []) → e ≡ f
      only f one = ⊎_elim (λ same. same) (λ z. absurd z) one

  -- and with some edges and their ends
  pub IsSearched-edges : IsSynchronized i → (k : ℕ) (vs es at : List ℕ) → IsSearched i k vs es
      → ((e : ℕ) → Has e at → Contains (edge_names i) e) → IsSearched i k (fold (with_ends i) vs at) (es ++ at)
  IsSearched-edges is k vs es [] s live = subst (IsSearched i k vs) (sym (append-nil es)) s
  IsSearched-edges is k vs es (e ∷ at) s live =
      subst (IsSearched i k (fold (with_ends i) (with_ends i vs e) at)) (append_assoc es (e ∷ []) at)
      (IsSearched-edges is k (with_ends i vs e) (es ++ e ∷ []) at (IsSearched-edge is k vs es e s (live e (inl refl)))
      (λ f h. live f (inr h)))

  -- they begin with the vertices before
  pub with_all-begins : (vs at : List ℕ) → (ws : List ℕ) × (fold (with_ends i) vs at ≡ vs ++ ws)
  with_all-begins vs [] = ([], sym (append-nil vs))
  with_all-begins vs (e ∷ at) =
      let a = with_ends-begins vs e in
      let b = with_all-begins (with_ends i vs e) at in
      (a.0 ++ b.0, b.1 ∙ ap (λ xs. xs ++ b.0) a.1 ∙ append_assoc vs a.0 b.0)

  -- a vertex of which all edges are found is done
  IsSearched-next : (k v : ℕ) (vs es at : List ℕ) → IsSearched i k vs es → k < length vs → slice_index vs k ≡ v
      → at ≡ edges_of i v → ((j : ℕ) → j < length at → Has (get_or at j 0) es) → IsSearched i (k + 1) vs es
  IsSearched-next k v vs es at s lt at_k is_at all = record {
    within = omega (arith, lt);
    verts_once = s.verts_once;
    verts_live = s.verts_live;
    edges_live = s.edges_live;
    ends_found = s.ends_found;
    edges_found = λ j below e h. ⊎_elim
        (λ (less : j < k). s.edges_found j less e h)
        (λ (rest : k ≤ j).
        let same : j ≡ k = omega (arith, below, rest) in
        let w = subst (λ xs. Contains xs e) (sym is_at) (subst (λ u. Contains (edges_of i u) e) (ap
        (slice_index vs) same ∙ at_k) h) in
        subst (λ x. Has x es) (get_or_default at w.0 0 e w.1 ∙ w.2) (all w.0 w.1))
        (cases_lt j k);
  }

  -- a search visits the next vertex that is found
  pub IsSearched-visit : IsSynchronized i → (k v : ℕ) (vs es at us fs : List ℕ) → IsSearched i k vs es → k < length vs
      → slice_index vs k ≡ v → at ≡ edges_of i v → us ≡ fold (with_ends i) vs at → fs ≡ es ++ at
      → IsSearched i (k + 1) us fs
  IsSearched-visit is k v vs es at us fs s lt at_k is_at is_us is_fs =
      let b = with_all-begins vs at in
      let live : (e : ℕ) → Has e at → Contains (edge_names i) e =
      λ e h. (edges_at-Contains (graph i) v e ((Has-Contains e (edges_of i v)).0 (subst (Has e) is_at h))).0 in
      subst (λ xs. IsSearched i (k + 1) xs fs) (sym is_us)
      (subst (IsSearched i (k + 1) (fold (with_ends i) vs at)) (sym is_fs)
      (IsSearched-next k v (fold (with_ends i) vs at) (es ++ at) at (IsSearched-edges is k vs es at s live)
      (let h = ap length b.1 in omega (arith, lt, h, length-append vs b.0))
      (ap (λ xs. slice_index xs k) b.1 ∙ get_or_append_left vs b.0 0 k lt ∙ at_k) is_at
      (λ j l. Has-append_right (get_or at j 0) es at (Has_at at j l))))

  -- before the first step two vertices are found
  pub IsSearched-none : (u v : ℕ) (vs : List ℕ) → Contains (vert_names i) u → Contains (vert_names i) v
      → vs ≡ with_key (with_key [] u) v → IsSearched i 0 vs []
  IsSearched-none u v vs cu cv e = record {
    within = omega arith;
    verts_once = subst Distinct (sym e) (with_key-Distinct (with_key [] u) v (with_key-Distinct [] u tt));
    verts_live = λ x h. ⊎_elim
        (λ k. ⊎_elim (λ z. absurd z) (λ same. subst (Contains (vert_names i)) same cu) (with_key-from [] u x k))
        (λ same. subst (Contains (vert_names i)) same cv)
        (with_key-from (with_key [] u) v x (subst (Has x) e h));
    edges_live = λ f h. absurd h;
    ends_found = λ f h. absurd h;
    edges_found = λ j lt. absurd (omega (arith, lt));
  }

  -- both are there
  pub first_two : (u v : ℕ) (vs : List ℕ) → vs ≡ with_key (with_key [] u) v → Has u vs × Has v vs
  first_two u v vs e = (
    subst (Has u) (sym e) (with_key-keeps (with_key [] u) v u (with_key-Has [] u)),
    subst (Has v) (sym e) (with_key-Has (with_key [] u) v),
  )

  -- and each is connected to itself
  pub first_reached : (u v : ℕ) (vs : List ℕ) → vs ≡ with_key (with_key [] u) v → (x : ℕ) → Has x vs
      → IsReached i u v x
  first_reached u v vs e x h = ⊎_elim
      (λ k. ⊎_elim (λ z. absurd z) (λ same. inl (subst (Connected (pairs (graph i)) u) same here))
      (with_key-from [] u x k))
      (λ same. inr (subst (Connected (pairs (graph i)) v) same here))
      (with_key-from (with_key [] u) v x (subst (Has x) e h))

  -- what is connected to a vertex that is connected to u or v is so too
  pub reached_more : (u v y x : ℕ) → IsReached i u v y → Connected (pairs (graph i)) y x → IsReached i u v x
  reached_more u v y x r c = ⊎_elim
      (λ a. inl (Connected-trans (pairs (graph i)) u y x a c))
      (λ b. inr (Connected-trans (pairs (graph i)) v y x b c))
      r

  -- the vertices with the ends of an edge are those before and these ends
  with_ends-from : (vs : List ℕ) (e x : ℕ) → Has x (with_ends i vs e)
      → Has x vs ⊎ (((ends_of i e).0 ≡ x) ⊎ ((ends_of i e).1 ≡ x))
  with_ends-from vs e x h = ⊎_elim
      (λ k. ⊎_elim inl (λ same. inr (inl same)) (with_key-from vs (ends_of i e).0 x k))
      (λ same. inr (inr same))
      (with_key-from (with_key vs (ends_of i e).0) (ends_of i e).1 x h)

  -- those with the ends of some edges are those before and the ends of these
  with_all-from : (vs at : List ℕ) (x : ℕ) → Has x (fold (with_ends i) vs at)
      → Has x vs ⊎ ((e : ℕ) × Has e at × (((ends_of i e).0 ≡ x) ⊎ ((ends_of i e).1 ≡ x)))
  with_all-from vs [] x h = inl h
  with_all-from vs (e ∷ at) x h = ⊎_elim
      (λ k. ⊎_elim inl (λ ends. inr (e, inl refl, ends)) (with_ends-from vs e x k))
      (λ w. inr (w.0, inr w.1, w.2))
      (with_all-from (with_ends i vs e) at x h)

  -- an end of an edge of y is connected to y
  end_joined : (y e x : ℕ) → Contains (edges_of i y) e → ((ends_of i e).0 ≡ x) ⊎ ((ends_of i e).1 ≡ x)
      → Connected (pairs (graph i)) y x
  end_joined y e x c ends =
      let h = edges_at-Contains (graph i) y e c in
      let far_end = far (graph i) y e in
      let other : Connected (pairs (graph i)) y far_end =
      step here (ends_of i e) (pairs_have (graph i) e h.0) (far_joins (graph i) y e h.1) in
      ⊎_elim
      (λ j. ⊎_elim
      (λ a. subst (Connected (pairs (graph i)) y) (sym j.0 ∙ a) here)
      (λ b. subst (Connected (pairs (graph i)) y) (sym j.1 ∙ b) other)
      ends)
      (λ j. ⊎_elim
      (λ a. subst (Connected (pairs (graph i)) y) (sym j.0 ∙ a) other)
      (λ b. subst (Connected (pairs (graph i)) y) (sym j.1 ∙ b) here)
      ends)
      (far_joins (graph i) y e h.1)

  -- where the edges of a vertex that is found are added, each vertex is connected to one that was found
  pub visit-AreJoinedTo : (y : ℕ) (vs at us : List ℕ) → Has y vs → at ≡ edges_of i y
      → us ≡ fold (with_ends i) vs at → AreJoinedTo i vs us
  visit-AreJoinedTo y vs at us hy is_at is_us x h = ⊎_elim
      (λ k. (x, k, here))
      (λ w. (
        y,
        hy,
        end_joined y w.0 x (subst (λ xs. Contains xs w.0) is_at ((Has-Contains w.0 at).0 w.1)) w.2,
      ))
      (with_all-from vs at x (subst (Has x) is_us h))

  -- there are not more vertices than the instance has
  pub IsSearched-size : (k : ℕ) (vs es : List ℕ) → IsSearched i k vs es → length vs ≤ length (vert_names i)
  IsSearched-size k vs es s =
      subset_length vs (vert_names i) s.verts_once (λ d h. (Has-Contains d (vert_names i)).1 (s.verts_live d h))

  -- at the end of a search from u and v its vertices and edges, in order, are the components of the two
  pub IsSearched-AreComponents : (u v k : ℕ) (vs es verts edges : List ℕ) → IsSearched i k vs es → length vs ≤ k
      → Has u vs → Has v vs → ((x : ℕ) → Has x vs → IsReached i u v x) → IsStrictlyIncreasing verts
      → IsStrictlyIncreasing edges → ((x : ℕ) → Has x verts ↔ Has x vs) → ((x : ℕ) → Has x edges ↔ Has x es)
      → AreComponents i u v verts edges
  IsSearched-AreComponents u v k vs es verts edges s done hu hv reached up_vs up_es same_verts same_edges = record {
    closed = record {
      verts_rise = up_vs;
      edges_rise = up_es;
      verts_live = λ x c. s.verts_live x (vert_from x c);
      edges_live = λ e c. s.edges_live e (edge_from e c);
      whole = λ x e cx ce.
          let p = Has-place x vs (vert_from x cx) in
          (Has-Contains e edges).0 ((same_edges e).1 (s.edges_found p.0 (omega (arith, p.1, done)) e
          (subst (λ y. Contains (edges_of i y) e) (sym p.2) ce)));
      ends_within = λ e c.
          let w = s.ends_found e (edge_from e c) in
          (vert_to (ends_of i e).0 w.0, vert_to (ends_of i e).1 w.1);
    };
    first = vert_to u hu;
    second = vert_to v hv;
    reached = λ x c. reached x (vert_from x c);
  }
    where
      vert_from : (x : ℕ) → Contains verts x → Has x vs
      vert_from x c = (same_verts x).0 ((Has-Contains x verts).1 c)

      vert_to : (x : ℕ) → Has x vs → Contains verts x
      vert_to x h = (Has-Contains x verts).0 ((same_verts x).1 h)

      edge_from : (e : ℕ) → Contains edges e → Has e es
      edge_from e c = (same_edges e).0 ((Has-Contains e edges).1 c)

  -- the edges of a vertex are live
  pub all_live : (v : ℕ) (at : List ℕ) → at ≡ edges_of i v → All (Contains (edge_names i)) at
  all_live v at e = subst (All (Contains (edge_names i))) (sym e) (λ k d lt.
      (edges_at-Contains (graph i) v (get_or (edges_of i v) k d)
      (k, lt, get_or_default (edges_of i v) k (get_or (edges_of i v) k d) d lt)).0)
