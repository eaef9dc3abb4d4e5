-- Bonds on graphs alone: what each edge of the one pole leads to at the other, and bonds of equal degrees
-- (Bläsius, Fink, Rutter 2021).
use Rattle.std.proofs.Common.{◌≡◌, ℕ, ◌<◌, ◌≤◌, ◌↔◌, Bool, true, false, cond, eqb, List, [], ◌∷◌, length, sym, refl, ap, ◌∙◌, subst, inl, inr, ⊎_elim, arith}
use Rattle.std.specs.List.{Contains, filter}
use Rattle.std.proofs.lemmas.Bool.{cases_eq, eq-eqb, eqb-true, false≢true}
use Rattle.cp_lists.specs.CyclicLists.{Distinct, head_or}
use Rattle.cp_lists.proofs.DistinctLists.{Has-Contains}
use Rattle.cp_lists.proofs.FilteredLists.{filter-Distinct}
use Rattle.cp_orbits.specs.Classes.{labels}
use Rattle.cp_orbits.proofs.ClassLabels.{Connected-sym, Connected-trans, Connected-more, Contains-head, Contains-cons_cases, connected_labels, labels_connected}
use Rattle.cp_conn.specs.Bonds.{ConnectedWithout, IsBond, GoesOn, IsAlong}
use Rattle.cp_conn.specs.CutVertex.{avoids, without_vertex}
use Rattle.cp_conn.specs.NamedGraphs.{NamedGraph, pairs, ends_at, edges_at, far}
use Rattle.cp_conn.proofs.CutVertices.{kept_of, kept_pair, removed_alone}
use Rattle.cp_conn.proofs.DistinctSubsets.{injected_length}
use Rattle.cp_conn.proofs.NamedGraphs.{far_back, far_edges_at, edges_at-Contains}

-- the order in which two vertices are removed plays no part
pub ConnectedWithout-swap : (g : NamedGraph) (u v x y : ℕ) → ConnectedWithout g u v x y → ConnectedWithout g v u x y
ConnectedWithout-swap g u v x y c =
    Connected-more
    (without_vertex u (without_vertex v (pairs g)))
    (without_vertex v (without_vertex u (pairs g))) x y
    (λ e k.
    let h = kept_pair (avoids u) (without_vertex v (pairs g)) e k in
    let i = kept_pair (avoids v) (pairs g) e h.0 in
    kept_of (avoids v) (without_vertex u (pairs g)) e (kept_of (avoids u) (pairs g) e i.0 h.1) i.1)
    c

-- connection without u and v can be read the other way
pub ConnectedWithout-sym : (g : NamedGraph) (u v x y : ℕ) → ConnectedWithout g u v x y → ConnectedWithout g u v y x
ConnectedWithout-sym g u v x y c = Connected-sym (without_vertex u (without_vertex v (pairs g))) x y c

-- two vertices that are connected without u and v to a third are connected so
pub ConnectedWithout-trans : (g : NamedGraph) (u v x y z : ℕ) → ConnectedWithout g u v x y
    → ConnectedWithout g u v y z → ConnectedWithout g u v x z
ConnectedWithout-trans g u v x y z c d = Connected-trans (without_vertex u (without_vertex v (pairs g))) x y z c d

-- nothing else is connected to the first of the vertices that are removed
pub ConnectedWithout-first : (g : NamedGraph) (u v x : ℕ) → ConnectedWithout g u v x u → x ≡ u
ConnectedWithout-first g u v x c = removed_alone u (without_vertex v (pairs g)) x c

-- nothing else is connected to the second of the vertices that are removed
pub ConnectedWithout-second : (g : NamedGraph) (u v x : ℕ) → ConnectedWithout g u v x v → x ≡ v
ConnectedWithout-second g u v x c = removed_alone v (without_vertex u (pairs g)) x (ConnectedWithout-swap g u v x v c)

-- x and y have one label where u and v are removed
abbrev pub joined_without : NamedGraph → ℕ → ℕ → ℕ → ℕ → Bool
joined_without g u v x y =
    eqb
    (labels (without_vertex u (without_vertex v (pairs g))) x)
    (labels (without_vertex u (without_vertex v (pairs g))) y)

-- what edge e of u leads to at v: itself where it ends at v, or else all edges of v into the component that it enters
abbrev pub onward : NamedGraph → ℕ → ℕ → ℕ → List ℕ
onward g u v e =
    cond (eqb (far g u e) v) (e ∷ []) (filter (λ f. joined_without g u v (far g u e) (far g v f)) (edges_at g v))

-- the first edge of v that edge e of u leads to
abbrev pub first_onward : NamedGraph → ℕ → ℕ → ℕ → ℕ
first_onward g u v e = head_or 0 (onward g u v e)

-- the edges onward are those as which an edge can go on
pub onward-GoesOn : (g : NamedGraph) (u v e f : ℕ) → Contains (onward g u v e) f ↔ GoesOn g u v e f
onward-GoesOn g u v e f = by_end (eqb (far g u e) v) refl
  where
    -- the far end of edge k of v is connected to that of e where u and v are removed
    joins : ℕ → Bool
    joins k = joined_without g u v (far g u e) (far g v k)

    -- the edges onward are right, where it is known whether e ends at v
    by_end : (b : Bool) → eqb (far g u e) v ≡ b
        → Contains (cond b (e ∷ []) (filter (λ k. joined_without g u v (far g u e) (far g v k)) (edges_at g v))) f
        ↔ GoesOn g u v e f
    by_end true is = (
      λ c. inl (
        eqb-true (far g u e) v is,
        ⊎_elim (λ same. sym same) (λ none. absurd (omega (arith, none.1))) (Contains-cons_cases e f [] c),
      ),
      λ on. ⊎_elim
          (λ h. subst (Contains (e ∷ [])) (sym h.1) (Contains-head e []))
          (λ h. absurd (h.0 (eqb-true (far g u e) v is)))
          on,
    )
    by_end false is = (
      λ c. let h = kept_pair joins (edges_at g v) f c in
          inr (
            λ same. absurd (false≢true (sym is ∙ eq-eqb (far g u e) v same)),
            h.0,
            connected_labels (without_vertex u (without_vertex v (pairs g))) (far g u e) (far g v f)
                (eqb-true
                (labels (without_vertex u (without_vertex v (pairs g))) (far g u e))
                (labels (without_vertex u (without_vertex v (pairs g))) (far g v f)) h.1),
          ),
      λ on. ⊎_elim
          (λ h. absurd (false≢true (sym is ∙ eq-eqb (far g u e) v h.0)))
          (λ h. kept_of joins (edges_at g v) f h.1
          (eq-eqb
          (labels (without_vertex u (without_vertex v (pairs g))) (far g u e))
          (labels (without_vertex u (without_vertex v (pairs g))) (far g v f))
          (labels_connected (without_vertex u (without_vertex v (pairs g))) (far g u e) (far g v f) h.2)))
          on,
    )

-- what an edge of u goes on as is an edge of v
pub GoesOn-within : (g : NamedGraph) (u v e f : ℕ) → Contains (edges_at g u) e → GoesOn g u v e f
    → Contains (edges_at g v) f
GoesOn-within g u v e f c on =
    ⊎_elim
    (λ h. subst (Contains (edges_at g v)) (sym h.1)
    (subst (λ (w : ℕ). Contains (edges_at g w) e) h.0 (far_edges_at g u e c)))
    (λ h. h.1)
    on

module _ (g : NamedGraph) (u v : ℕ) (bond : IsBond g u v) where
  -- no two edges of u go on as one edge of v
  pub GoesOn-apart : (e f k : ℕ) → Contains (edges_at g u) e → Contains (edges_at g u) f → GoesOn g u v e k
      → GoesOn g u v f k → e ≡ f
  GoesOn-apart e f k ce cf on_e on_f =
      ⊎_elim
      (λ h. ⊎_elim
      (λ i. sym h.1 ∙ i.1)
      (λ i. absurd (ends_there e f ce cf h.0
      (subst (λ (z : ℕ). ConnectedWithout g u v (far g u f) (far g v z)) h.1 i.2)))
      on_f)
      (λ h. ⊎_elim
      (λ i. absurd (ends_there f e cf ce i.0
      (subst (λ (z : ℕ). ConnectedWithout g u v (far g u e) (far g v z)) i.1 h.2)))
      (λ i. bond.one_each e f ce cf h.0
      (ConnectedWithout-trans g u v (far g u e) (far g v k) (far g u f) h.2
      (ConnectedWithout-sym g u v (far g u f) (far g v k) i.2)))
      on_f)
      on_e
    where
      -- an edge between u and v leads from v to u, and so into no component
      ends_there : (e f : ℕ) → Contains (edges_at g u) e → Contains (edges_at g u) f → far g u e ≡ v
          → ConnectedWithout g u v (far g u f) (far g v e) → ⊥
      ends_there e f ce cf at c =
          let back : far g v e ≡ u =
          ap (λ (w : ℕ). far g w e) (sym at) ∙ far_back g u e (edges_at-Contains g u e ce).1 in
          bond.no_loop f cf
          (ConnectedWithout-first g u v (far g u f)
          (subst (λ (w : ℕ). ConnectedWithout g u v (far g u f) w) back c))

  -- each edge of u goes on
  pub GoesOn-some : (e : ℕ) → Contains (edges_at g u) e → (f : ℕ) × GoesOn g u v e f
  GoesOn-some e c =
      ⊎_elim
      (λ at. (e, inl (at, refl)))
      (λ off. let f = bond.reach e c off in (f.0, inr (off, f.1, f.2)))
      (cases_eq (far g u e) v)

  -- each edge of u leads to some edge of v
  pub onward_filled : (e : ℕ) → Contains (edges_at g u) e → 0 < length (onward g u v e)
  onward_filled e c =
      let f : (f : ℕ) × GoesOn g u v e f = GoesOn-some e c in
      omega (arith, ((onward-GoesOn g u v e f.0).1 f.1).1)

  -- no two edges of u lead to one edge of v
  pub onward_apart : (e f k : ℕ) → Contains (edges_at g u) e → Contains (edges_at g u) f
      → Contains (onward g u v e) k → Contains (onward g u v f) k → e ≡ f
  onward_apart e f k ce cf on_e on_f =
      GoesOn-apart e f k ce cf ((onward-GoesOn g u v e k).0 on_e) ((onward-GoesOn g u v f k).0 on_f)

  -- to go on as the first edge onward is one way to go along the bond
  pub IsAlong-first_onward : IsAlong g u v (first_onward g u v)
  IsAlong-first_onward e c =
      (onward-GoesOn g u v e (first_onward g u v e)).0 (first (onward g u v e) (onward_filled e c))
    where
      -- a list that is not empty contains its first item
      first : (xs : List ℕ) → 0 < length xs → Contains xs (head_or 0 xs)
      first [] lt = absurd (omega arith)
      first (x ∷ xs) lt = Contains-head x xs

  -- along a bond no two edges go on as one
  pub along_apart : (along : ℕ → ℕ) → IsAlong g u v along → (e f : ℕ) → Contains (edges_at g u) e
      → Contains (edges_at g u) f → along e ≡ along f → e ≡ f
  along_apart along is e f ce cf same =
      GoesOn-apart e f (along f) ce cf (subst (GoesOn g u v e) same (is e ce)) (is f cf)

  -- the other pole has no fewer edges
  pub bond_degrees : Distinct g.edges → length (edges_at g u) ≤ length (edges_at g v)
  bond_degrees once =
      injected_length (first_onward g u v) (edges_at g u) (edges_at g v)
      (filter-Distinct (ends_at g u) g.edges once)
      (λ e h.
      let c : Contains (edges_at g u) e = (Has-Contains e (edges_at g u)).0 h in
      (Has-Contains (first_onward g u v e) (edges_at g v)).1
      (GoesOn-within g u v e (first_onward g u v e) c (IsAlong-first_onward e c)))
      (λ e f he hf same.
      along_apart (first_onward g u v) IsAlong-first_onward e f
      ((Has-Contains e (edges_at g u)).0 he) ((Has-Contains f (edges_at g u)).0 hf) same)

  -- an edge of v, as which an edge of u goes on, goes back as that edge
  pub GoesOn-back : (e f : ℕ) → Contains (edges_at g u) e → GoesOn g u v e f → GoesOn g v u f e
  GoesOn-back e f c on =
      ⊎_elim
      (λ h. inl (
        ap (far g v) h.1 ∙ ap (λ (w : ℕ). far g w e) (sym h.0) ∙ far_back g u e (edges_at-Contains g u e c).1,
        sym h.1,
      ))
      (λ h. inr (
        λ at. bond.no_loop e c
            (ConnectedWithout-first g u v (far g u e) (subst (ConnectedWithout g u v (far g u e)) at h.2)),
        c,
        ConnectedWithout-swap g u v (far g v f) (far g u e) (ConnectedWithout-sym g u v (far g u e) (far g v f) h.2),
      ))
      on
