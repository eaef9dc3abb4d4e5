-- The pipes of an instance by their first ends are all its pipes.
use Rattle.std.proofs.Common.{◌≡◌, ◌≢◌, ◌⊎◌, ℕ, ◌||◌, eqb, List, [], ◌∷◌, sym, refl, ap, ◌∙◌, subst, ⊎_elim, inl, inr, arith}
use Rattle.std.specs.Prelude.{Option, Some, None}
use Rattle.std.specs.List.{Contains, flat_map}
use Rattle.std.specs.List.Sorted.{IsPermutation, IsSorted}
use Rattle.std.specs.Ordering.{nat_cmp}
use Rattle.std.specs.Option.{option_map, option_map_or}
use Rattle.std.proofs.lemmas.Bool.{cases_eq, cond-true, cond-false, eq-eqb, ne_eqb}
use Rattle.cp_lists.specs.CyclicLists.{Has, Distinct}
use Rattle.cp_lists.proofs.DistinctLists.{has_lacks, has_other, Has-append_left, Has-append_right, Has-append_cases, Lacks-from, Distinct-append, Has-Contains}
use Rattle.cp_orbits.proofs.ClassLabels.{Contains-cons_cases}
use Rattle.cp_board.specs.declared.parts.Kind.TheVariants.{P}
use Rattle.cp_board.specs.declared.parts.Pipe.{Pipe}
use Rattle.cp_board.specs.Instances.{Synchronized, IsSynchronized, HasRightEnds, vert_names, pipe_names, pipe_with, pipe_at, pipe_ends_of}
use Rattle.cp_board.proofs.NamedLists.{rises_from}
use Rattle.cp_board.proofs.NumberOfNewNames.{Distinct-from_rises}
use Rattle.cp_trace.specs.Parts.{name_from, pipes_from, pipes_by_ends}
use Rattle.cp_trace.proofs.NamedParts.{found_in, named_found, name_in, in_names, kind_named}
use Rattle.cp_trace.proofs.RisingLists.{sorted_same}

-- the two ends of a pipe
abbrev ends : Pipe → List ℕ
ends p = p.a ∷ p.b ∷ []

-- the first end of a pipe is one of the ends
first_in_ends : (ps : List Pipe) (p : Pipe) → Contains ps p → Has p.a (flat_map ends ps)
first_in_ends [] p c = absurd (omega (arith, c.1))
first_in_ends (q ∷ ps) p c =
    ⊎_elim (λ (e : q ≡ p). inl (ap (λ (x : Pipe). x.a) e)) (λ h. inr (inr (first_in_ends ps p h)))
    (Contains-cons_cases q p ps c)

-- where ends differ, a pipe is found at its first end
with_first : (ps : List Pipe) (p : Pipe) → Distinct (flat_map ends ps) → Contains ps p → pipe_with ps p.a ≡ Some p
with_first [] p d c = absurd (omega (arith, c.1))
with_first (q ∷ ps) p d c =
    ⊎_elim
    (λ (e : q ≡ p). subst (λ (z : Pipe). pipe_with (q ∷ ps) z.a ≡ Some z) e
    (cond-true (eqb q.a q.a || eqb q.b q.a) (Some q) (pipe_with ps q.a)
    (ap (λ b. b || eqb q.b q.a) (eq-eqb q.a q.a refl))))
    (λ h.
    let end = first_in_ends ps p h in
    let other_a = ne_eqb q.a p.a (λ e. has_other p.a q.a (flat_map ends ps) end d.0.1 (sym e)) in
    let other_b = ne_eqb q.b p.a (λ e. has_other p.a q.b (flat_map ends ps) end d.1.0 (sym e)) in
    cond-false (eqb q.a p.a || eqb q.b p.a) (Some q) (pipe_with ps p.a) (ap (λ b. b || eqb q.b p.a) other_a ∙ other_b)
    ∙ with_first ps p d.1.1 h)
    (Contains-cons_cases q p ps c)

module _ (i : Synchronized) where
  -- a pipe that is found at a vertex is one of the instance
  pub found_pipe : (v : ℕ) (p : Pipe) → pipe_at i v ≡ Some p → Contains i.pipes p
  found_pipe v p e = (found_in (λ (x : Pipe). eqb x.a v || eqb x.b v) i.pipes p e).0

  -- the pipe of a vertex, of which the name is known
  pipe_of : (v p : ℕ) (o : Option Pipe) → pipe_at i v ≡ o → Some p ≡ option_map (λ (q : Pipe). q.name) o
      → (q : Pipe) × (o ≡ Some q) × (q.name ≡ p) × Contains i.pipes q
  pipe_of v p None e h = absurd cc
  pipe_of v p (Some q) e h = (q, refl, cc, found_pipe v q e)

  -- it is a pipe of the instance
  pub pipe_live : (v p : ℕ) → Some p ≡ option_map (λ (q : Pipe). q.name) (pipe_at i v) → Contains (pipe_names i) p
  pipe_live v p h =
      let q = pipe_of v p (pipe_at i v) refl h in
      subst (Contains (pipe_names i)) q.2
      ((Has-Contains q.0.name (pipe_names i)).0 (name_in (λ (x : Pipe). x.name) i.pipes q.0 q.3))

module _ (i : Synchronized) (is : IsSynchronized i) where
  -- the ends of a pipe stand under its name
  pub ends_under : (p : Pipe) → Contains i.pipes p → pipe_ends_of i p.name ≡ (p.a, p.b)
  ends_under p c =
      ap (λ o. option_map_or (λ (x : Pipe). (x.a, x.b)) o (0, 0))
      (named_found (λ (x : Pipe). x.name) i.pipes p is.pipes_named.rise c)

  -- of a vertex comes no name, or that of the pipe whose first end it is
  single_from : (v : ℕ) (o : Option Pipe) → pipe_at i v ≡ o
      → (name_from v o ≡ []) ⊎ ((p : Pipe) × Contains i.pipes p × (p.a ≡ v) × (name_from v o ≡ p.name ∷ []))
  single_from v None e = inl refl
  single_from v (Some p) e =
      ⊎_elim (λ (same : p.a ≡ v). inr
      (p, found_pipe i v p e, same, cond-true (eqb p.a v) (p.name ∷ []) [] (eq-eqb p.a v same)))
      (λ other. inl (cond-false (eqb p.a v) (p.name ∷ []) [] (ne_eqb p.a v other))) (cases_eq p.a v)

  -- a vertex gives no name, or that of the one pipe whose first end it is
  single : (v : ℕ) → (pipes_from i v ≡ []) ⊎
      ((p : Pipe) × Contains i.pipes p × (p.a ≡ v) × (pipes_from i v ≡ p.name ∷ []))
  single v = single_from v (pipe_at i v) refl

  -- the names that come of one vertex differ
  single-Distinct : (v : ℕ) → Distinct (pipes_from i v)
  single-Distinct v =
      ⊎_elim (λ (e : pipes_from i v ≡ []). subst Distinct (sym e) tt) (λ s. subst Distinct (sym s.3) (tt, tt))
      (single v)

  -- a name that comes of a vertex is that of a pipe whose first end it is
  in_single : (v n : ℕ) → Has n (pipes_from i v) → (p : Pipe) × Contains i.pipes p × (p.a ≡ v) × (p.name ≡ n)
  in_single v n h =
      ⊎_elim (λ (e : pipes_from i v ≡ []). absurd (let none : Has n [] = subst (Has n) e h in none))
      (λ s. (s.0, s.1, s.2, ⊎_elim (λ (e : s.0.name ≡ n). e) (λ none. absurd none) (subst (Has n) s.3 h))) (single v)

  -- a name that comes of vertices is that of a pipe whose first end is one of them
  in_from : (vs : List ℕ) (n : ℕ) → Has n (flat_map (pipes_from i) vs)
      → (p : Pipe) × Contains i.pipes p × (p.name ≡ n) × Has p.a vs
  in_from [] n h = absurd h
  in_from (v ∷ vs) n h =
      ⊎_elim (λ here. let s = in_single v n here in (s.0, s.1, s.3, inl (sym s.2)))
      (λ later. let s = in_from vs n later in (s.0, s.1, s.2, inr s.3))
      (Has-append_cases n (pipes_from i v) (flat_map (pipes_from i) vs) h)

  -- the name of a pipe comes of its first end
  own : (p : Pipe) → Contains i.pipes p → Has p.name (pipes_from i p.a)
  own p c =
      subst (Has p.name) (sym (ap (name_from p.a) (with_first i.pipes p is.ends_apart c) ∙ cond-true (eqb p.a p.a)
      (p.name ∷ []) [] (eq-eqb p.a p.a refl))) (inl refl)

  -- a pipe whose first end is among some vertices has its name among those that these give
  to_from : (vs : List ℕ) (p : Pipe) → Contains i.pipes p → Has p.a vs → Has p.name (flat_map (pipes_from i) vs)
  to_from [] p c h = absurd h
  to_from (v ∷ vs) p c h =
      ⊎_elim
      (λ (e : v ≡ p.a). Has-append_left p.name (pipes_from i v) (flat_map (pipes_from i) vs)
      (subst (λ w. Has p.name (pipes_from i w)) (sym e) (own p c)))
      (λ later. Has-append_right p.name (pipes_from i v) (flat_map (pipes_from i) vs) (to_from vs p c later))
      h

  -- two pipes of one name have one first end
  same_first : (p q : Pipe) → Contains i.pipes p → Contains i.pipes q → p.name ≡ q.name → p.a ≡ q.a
  same_first p q c d e =
      ap (λ (x : ℕ × ℕ). x.0) (sym (ends_under p c) ∙ ap (pipe_ends_of i) e ∙ ends_under q d)

  -- of different vertices come different names
  from-Distinct : (vs : List ℕ) → Distinct vs → Distinct (flat_map (pipes_from i) vs)
  from-Distinct [] d = tt
  from-Distinct (v ∷ vs) d =
      Distinct-append (pipes_from i v) (flat_map (pipes_from i) vs) (single-Distinct v) (from-Distinct vs d.1)
      (λ n here. Lacks-from n (flat_map (pipes_from i) vs) (λ later.
      let p = in_single v n here in
      let q = in_from vs n later in
      has_lacks v vs (subst (λ w. Has w vs) (same_first q.0 p.0 q.1 p.1 (q.2 ∙ sym p.3) ∙ p.2) q.3) d.0))

  -- a pipe's first end is a vertex
  first_live : (p : Pipe) → Contains i.pipes p → Has p.a (vert_names i)
  first_live p c =
      let right = subst (HasRightEnds i.verts) c.2 (is.ends_free c.0 p c.1) in
      kind_named i.verts p.a P right.free_a

  -- the pipes by their first ends, sorted, are all pipes in order
  pub pipes_sorted : (sorted : List ℕ) → IsPermutation (pipes_by_ends i) sorted → IsSorted nat_cmp sorted
      → sorted ≡ pipe_names i
  pipes_sorted sorted moved order =
      sorted_same (pipe_names i) (pipes_by_ends i) sorted is.pipes_named.rise
      (from-Distinct (vert_names i) (Distinct-from_rises (vert_names i)
      (rises_from (vert_names i) is.verts_named.rise)))
      (λ z c. (Has-Contains z (pipe_names i)).0 (there z ((Has-Contains z (pipes_by_ends i)).1 c)))
      (λ z c. (Has-Contains z (pipes_by_ends i)).0 (back z ((Has-Contains z (pipe_names i)).1 c)))
      moved order
    where
      there : (z : ℕ) → Has z (pipes_by_ends i) → Has z (pipe_names i)
      there z h =
          let p = in_from (vert_names i) z h in
          subst (λ n. Has n (pipe_names i)) p.2 (name_in (λ (x : Pipe). x.name) i.pipes p.0 p.1)

      back : (z : ℕ) → Has z (pipe_names i) → Has z (pipes_by_ends i)
      back z h =
          let p = in_names (λ (x : Pipe). x.name) z i.pipes h in
          subst (λ n. Has n (pipes_by_ends i)) p.2 (to_from (vert_names i) p.0 p.1 (first_live p.0 p.1))

  -- where its first end is the vertex, its name comes of the vertex
  pub pipe_from : (v p : ℕ) → Some p ≡ option_map (λ (q : Pipe). q.name) (pipe_at i v) → (pipe_ends_of i p).0 ≡ v
      → p ∷ [] ≡ pipes_from i v
  pipe_from v p h e =
      let q = pipe_of i v p (pipe_at i v) refl h in
      let first : q.0.a ≡ v = ap (λ (x : ℕ × ℕ). x.0) (sym (ends_under q.0 q.3) ∙ ap (pipe_ends_of i) q.2) ∙ e in
      sym (ap (name_from v) q.1 ∙ cond-true (eqb q.0.a v) (q.0.name ∷ []) [] (eq-eqb q.0.a v first) ∙ ap
      (λ n. n ∷ []) q.2)

  -- and else none does
  pub pipe_not_from : (v p : ℕ) → Some p ≡ option_map (λ (q : Pipe). q.name) (pipe_at i v) → (pipe_ends_of i p).0 ≢ v
      → [] ≡ pipes_from i v
  pipe_not_from v p h ne =
      let q = pipe_of i v p (pipe_at i v) refl h in
      let other : q.0.a ≢ v = λ e. ne
      (ap (λ (x : ℕ × ℕ). x.0) (ap (pipe_ends_of i) (sym q.2) ∙ ends_under q.0 q.3) ∙ e) in
      sym (ap (name_from v) q.1 ∙ cond-false (eqb q.0.a v) (q.0.name ∷ []) [] (ne_eqb q.0.a v other))
