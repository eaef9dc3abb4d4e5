-- The pipe of greatest degree, and its ends.
use Rattle.std.proofs.Common.{◌≡◌, ◌≢◌, ℕ, suc, ◌<◌, ◌≤◌, true, false, eqb, get_or, List, [], ◌∷◌, length, map, refl, sym, ap, ◌∙◌, subst, inl, inr, ⊎_elim, arith}
use Rattle.std.specs.Prelude.{Option, None, Some, find}
use Rattle.std.specs.Option.{option_map, option_map_or}
use Rattle.std.specs.List.{Contains}
use Rattle.std.proofs.lemmas.Bool.{cases_Bool, cond-false, cond-true, eqb-true}
use Rattle.std.proofs.lemmas.List.Elements.{Contains-get_or}
use Rattle.cp_conn.specs.Bonds.{IsBond}
use Rattle.cp_conn.specs.NamedGraphs.{IsCut}
use Rattle.cp_board.specs.declared.parts.Pipe.{Pipe}
use Rattle.cp_board.specs.Instances.{Synchronized, IsSynchronized, HasRightEnds, HasRightPairs, IsPVertex, edges_of, graph, pairs_of, pipe_ends_of, pipe_in, pipe_named, pipe_names, vert_names}
use Rattle.cp_board.specs.Runs.{IsEmbeddedEnd, IsGreatest, NeedsEmbedding}
use Rattle.cp_board.specs.Steps.{IsEnd, degree}
use Rattle.cp_runlaw.proofs.FoundPipes.{All-find, length-right_end}
use Rattle.cp_runlaw.proofs.Poles.{bond_le}
use Rattle.cp_synclaw.proofs.InstanceDarts.{edges_once, live_at}

-- a pipe that is found has the name of a pipe
found-Contains : (n : ℕ) (ps : List Pipe) (p : Pipe) → pipe_in ps n ≡ Some p → Contains (map (λ (q : Pipe). q.name) ps) n
found-Contains n [] p e = absurd (cc)
found-Contains n (q ∷ qs) p e = ⊎_elim
    (λ (t : eqb q.name n ≡ true). (0, omega arith, eqb-true q.name n t))
    (λ (f : eqb q.name n ≡ false).
    let rest = found-Contains n qs p (sym (cond-false (eqb q.name n) (Some q) (find (λ (x : Pipe). eqb x.name n) qs) f) ∙ e) in
    (suc rest.0, omega (arith, rest.1), rest.2))
    (cases_Bool (eqb q.name n))

-- the pipe p of greatest degree
module _ (i : Synchronized) (is : IsSynchronized i) (p : Pipe) (greatest : IsGreatest i p) where
  -- its name is live
  pub greatest-live : Contains (pipe_names i) p.name
  greatest-live = found-Contains p.name i.pipes p greatest.live

  -- its two ends are P-vertices
  ends : HasRightEnds i.verts p
  ends = All-find (HasRightEnds i.verts) (λ x. eqb x.name p.name) i.pipes p is.ends_free greatest.live

  -- as each of them is
  pub end-IsPVertex : (u : ℕ) → IsEnd p u → IsPVertex i u
  end-IsPVertex u end = ⊎_elim
      (λ (e : p.a ≡ u). subst (IsPVertex i) e ends.free_a)
      (λ (e : p.b ≡ u). subst (IsPVertex i) e ends.free_b)
      end

  -- an end has as many edges as the pipe has pairs
  pub end-degree : (u : ℕ) → IsEnd p u → length (edges_of i u) ≡ degree p
  end-degree u end = length-right_end i p u
      (All-find (HasRightPairs (graph i)) (λ x. eqb x.name p.name) i.pipes p is.pairs_right greatest.live) end

  -- so an end of a large pipe is live
  pub end-live : 4 ≤ degree p → (u : ℕ) → IsEnd p u → Contains (vert_names i) u
  end-live many u end =
      let some : 0 < length (edges_of i u) = omega (arith, many, end-degree u end) in
      live_at i is u (get_or (edges_of i u) 0 0) (Contains-get_or (edges_of i u) 0 0 some)

  -- the end whose block is embedded is an end
  pub embedded-IsEnd : (u : ℕ) → IsEmbeddedEnd i p u → IsEnd p u
  embedded-IsEnd u embedded = ⊎_elim (λ h. inl (sym h.0)) (λ h. inr (sym h.0)) embedded

  -- and no cut vertex
  pub embedded-uncut : (u : ℕ) → NeedsEmbedding i p → IsEmbeddedEnd i p u → ¬ IsCut (graph i) u
  embedded-uncut u needs embedded = ⊎_elim
      (λ h. subst (λ (v : ℕ). ¬ IsCut (graph i) v) (sym h.0) h.1)
      (λ h. subst (λ (v : ℕ). ¬ IsCut (graph i) v) (sym h.0) (λ cut. needs.1 (h.1, cut)))
      embedded

  -- the ends that are told of it
  pub greatest-ends : (pipe : ℕ) → p.name ≡ pipe → pipe_ends_of i pipe ≡ (p.a, p.b)
  greatest-ends pipe named = subst (λ (n : ℕ). pipe_ends_of i n ≡ (p.a, p.b)) named
      (ap (λ (o : Option Pipe). option_map_or (λ (x : Pipe). (x.a, x.b)) o (0, 0)) greatest.live)

  -- it is found under its name
  pub greatest-named : (pipe : ℕ) → p.name ≡ pipe → pipe_named i pipe ≡ Some p
  greatest-named pipe named = subst (λ (n : ℕ). pipe_named i n ≡ Some p) named greatest.live

  -- a pole of a bond with an end of a large pipe is live
  pub pole-live : 4 ≤ degree p → (u v : ℕ) → IsEnd p u → IsBond (graph i) u v → Contains (vert_names i) v
  pole-live many u v end bond =
      let le : length (edges_of i u) ≤ length (edges_of i v) = bond_le (graph i) u v bond (edges_once i is) in
      let some : 0 < length (edges_of i v) = omega (arith, many, end-degree u end, le) in
      live_at i is v (get_or (edges_of i v) 0 0) (Contains-get_or (edges_of i v) 0 0 some)

-- the pipe of which a name is told
pub told-pipe : (o : Option Pipe) (n : ℕ) → Some n ≡ option_map (λ (q : Pipe). q.name) o
    → (q : Pipe) × (o ≡ Some q) × (q.name ≡ n)
told-pipe None n e = absurd (cc)
told-pipe (Some q) n e = (q, refl, cc)
