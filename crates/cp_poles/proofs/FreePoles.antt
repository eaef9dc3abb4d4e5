-- FreePole keeps solvability, and how a solution is turned back.
use Rattle.std.proofs.Common.{◌≡◌, ◌≢◌, ℕ, Bool, false, not, ◌||◌, eqb, List, [], ◌∷◌, map, reverse, slice_index_or, sym, refl, ap, ◌∙◌, subst, inl, inr, ⊎_elim}
use Rattle.std.specs.Prelude.{Some, None, find}
use Rattle.std.specs.List.{All, Contains}
use Rattle.std.specs.Option.{option_map_or}
use Rattle.std.proofs.lemmas.Bool.{cases_Bool, cond-false, cond-true, eq-eqb, or_left, or_right, false≢true}
use Rattle.std.proofs.lemmas.List.Elements.{All-contains, All-cons, All-filter, All-nil}
use Rattle.cp_conn.specs.NamedGraphs.{NamedGraph}
use Rattle.cp_board.specs.declared.parts.Kind.TheVariants.{P}
use Rattle.cp_board.specs.declared.parts.Pipe.{Pipe}
use Rattle.cp_board.specs.declared.steps.Step.TheVariants.{FreePole}
use Rattle.cp_board.specs.Names.{has}
use Rattle.cp_board.specs.Instances.{Synchronized, IsSynchronized, IsPVertex, HasRightEnds, graph, names_of_verts, pairs_of, pipe_ends_of, pipe_named, vert_names}
use Rattle.cp_board.specs.Changes.{IsWithoutPipe, other_pipes}
use Rattle.cp_board.specs.Rotations.{ArrangesEdges, IsRotationOf}
use Rattle.cp_board.specs.Solutions.{IsMirror, IsSolution, Solves, list_in, second_of}
use Rattle.cp_board.specs.Effects.{After}
use Rattle.cp_board.specs.Steps.{Allowed, IsEnd, IsFreePole, opposite, partner}
use Rattle.cp_board.specs.Reductions.{KeepsSolvable, Performs}
use Rattle.cp_board.specs.Rewrites.{dropping, rewritten}
use Rattle.cp_board.proofs.DroppedPipes.{IsRewriteOf-dropping, IsSynchronized-fewer_pipes, IsWithoutPipe-dropping, Solves-without_pipe}
use Rattle.cp_poles.proofs.ApartEnds.{Apart, others_apart}
use Rattle.cp_poles.proofs.FixedEnds.{named-Contains}
use Rattle.cp_poles.proofs.FoundItems.{All-found, None-other}
use Rattle.cp_poles.specs.Permuted.{IsReordered}
use Rattle.cp_poles.specs.Wanted.{other_of, wanted, wanted_by}
use Rattle.cp_poles.proofs.PermutedLists.{IsReordered-some}
use Rattle.cp_poles.proofs.PipePartners.{FitsEnd, by_end, end-FitsEnd}
use Rattle.cp_poles.proofs.ReorderedSolutions.{HasNoEnd, Solves-reordered}
use Rattle.cp_poles.proofs.SmallRewrites.{live_pipe}
use Rattle.cp_poles.proofs.SmallPipes.{Solves-with_pipe, own_name, right_ends, right_pairs}

-- where nothing is found all fail
All-not_found : {A : Type 0} (t : A → Bool) (xs : List A) → find t xs ≡ None → All (λ x. t x ≡ false) xs
All-not_found t [] e = All-nil (λ x. t x ≡ false)
All-not_found t (x ∷ xs) e = ⊎_elim
    (λ b. absurd (None-other x (sym e ∙ cond-true (t x) (Some x) (find t xs) b)))
    (λ b. All-cons (λ y. t y ≡ false) x xs b
    (All-not_found t xs (sym (cond-false (t x) (Some x) (find t xs) b) ∙ e)))
    (cases_Bool (t x))

-- a live pipe, and an end u of it
module _ (i : Synchronized) (pipe : ℕ) (p : Pipe) (is : IsSynchronized i) (live : pipe_named i pipe ≡ Some p) (u : ℕ)
    (end : IsEnd p u) where
  -- the graph
  abbrev g : NamedGraph
  g = graph i

  -- the ends are two P-vertices
  ends : HasRightEnds i.verts p
  ends = right_ends i pipe p is live

  -- what the reverse of partners is, seen from u
  fits : FitsEnd i is p ends.differ (right_pairs i pipe p is live) u (opposite p u) (λ x. partner p u x)
      (λ x. partner p (opposite p u) x)
  fits = end-FitsEnd i is p ends.differ (right_pairs i pipe p is live) u end

  -- the chosen end is a P-vertex
  pub free_end : IsPVertex i u
  free_end = ⊎_elim (λ e. subst (IsPVertex i) e ends.free_a) (λ e. subst (IsPVertex i) e ends.free_b) end

  -- it is a vertex
  pub live_end : Contains (vert_names i) u
  live_end = named-Contains i.verts u P free_end

  -- the instance without the pipe
  abbrev pub left : Synchronized
  left = record { verts = i.verts; edges = i.edges; pipes = other_pipes i (p.name ∷ []) }

  -- keeps the rules
  pub left-IsSynchronized : IsSynchronized left
  left-IsSynchronized = IsSynchronized-fewer_pipes i (λ q. not (has (p.name ∷ []) q.name)) is

  -- the pipe is found by its name
  found : find (λ x. eqb x.name p.name) i.pipes ≡ Some p
  found = ap (λ n. find (λ x. eqb x.name n) i.pipes) (own_name i pipe p is live) ∙ live

  -- have no end of p
  others : All (λ q. Apart p q) (other_pipes i (p.name ∷ []))
  others = others_apart p.name p i.pipes is.ends_apart found

  -- so none of them ends at u
  pub others_off : All (HasNoEnd u) (other_pipes i (p.name ∷ []))
  others_off k d lt =
      let h = others k d lt in
      ⊎_elim (λ e. ((λ z. h.0 (z ∙ sym e)), (λ z. h.2 (z ∙ sym e))))
      (λ e. ((λ z. h.1 (z ∙ sym e)), (λ z. h.3 (z ∙ sym e))))
      end

  -- the other end is another P-vertex, and an end
  pub other_end : (opposite p u ≢ u) × IsPVertex i (opposite p u) × IsEnd p (opposite p u)
  other_end = by_end i is p ends.differ (right_pairs i pipe p is live)
      (λ x y there back. (y ≢ x) × IsPVertex i y × IsEnd p y)
      ((λ e. ends.differ (sym e)), ends.free_b, inr refl) (ends.differ, ends.free_a, inl refl) u end

  -- it is a vertex
  pub live_other : Contains (vert_names i) (opposite p u)
  live_other = named-Contains i.verts (opposite p u) P other_end.1

  -- it has a list in each rotation
  pub other_arranged : (s : ℕ → List ℕ) → IsRotationOf g s → ArrangesEdges g (opposite p u) (s (opposite p u))
  other_arranged s rotation =
      All-contains (λ v. ArrangesEdges g v (s v)) (vert_names i) (opposite p u) rotation.arranged live_other

  -- the wanted order arranges the edges of u
  pub wanted_arranged : (s : ℕ → List ℕ) → IsRotationOf g s → ArrangesEdges g u (wanted p u s)
  wanted_arranged s rotation = fits.arranges (s (opposite p u)) (other_arranged s rotation)

  -- what is left where the pipe goes is that
  pub left_is : (j : Synchronized) → IsWithoutPipe i p.name j → j ≡ left
  left_is j w =
      ap (λ z. record { verts = z; edges = j.edges; pipes = j.pipes }) w.verts
      ∙ ap (λ z. record { verts = i.verts; edges = z; pipes = j.pipes }) w.edges
      ∙ ap (λ z. record { verts = i.verts; edges = i.edges; pipes = z }) w.pipes

  -- the graph is the same without the pipe
  pub rotation_before : (j : Synchronized) (s : ℕ → List ℕ) → IsWithoutPipe i p.name j → Solves j s → IsRotationOf g s
  rotation_before j s w h = subst (λ k. IsRotationOf (graph k) s) (left_is j w) h.rotation

  -- a solution without the pipe, with the wanted order at u, solves the instance
  pub Solves-wanted : (v : ℕ) → IsPVertex i v → All (HasNoEnd v) (other_pipes i (p.name ∷ [])) → opposite p u ≢ v
      → (j : Synchronized) (s s' : ℕ → List ℕ) → IsWithoutPipe i p.name j → Solves j s
      → IsReordered g s u v (wanted p u s) s' → Solves i s'
  Solves-wanted v free_v off_v nv j s s' w h re =
      Solves-with_pipe i pipe p is live left s' record { verts = refl; edges = refl; pipes = refl }
      (Solves-reordered left left-IsSynchronized s s' u v (wanted p u s) re free_end free_v others_off off_v
      (subst (λ k. Solves k s) (left_is j w) h))
      mirror
    where
      same : s' (opposite p u) ≡ s (opposite p u)
      same = re.others (opposite p u) live_other other_end.0 nv

      mirror : IsMirror (second_of p) (s' p.a) (s' p.b)
      mirror = fits.mirrors s' (other_arranged s' re.rotation)
          (re.first ∙ ap (λ xs. reverse (map (λ x. partner p (opposite p u) x) xs)) (sym same))

-- the pole of a FreePole
module _ (i : Synchronized) (pipe : ℕ) (p : Pipe) (is : IsSynchronized i) (live : pipe_named i pipe ≡ Some p)
    (u v : ℕ) (free : IsFreePole i p u v) where
  -- no pipe ends at it
  pole_off : All (HasNoEnd v) i.pipes
  pole_off k d lt =
      let q : Pipe = slice_index_or i.pipes k d in
      let none = All-not_found (λ x. eqb x.a v || eqb x.b v) i.pipes free.unmatched k d lt in (
        λ e. false≢true (sym none ∙ or_left (eqb q.a v) (eqb q.b v) (eq-eqb q.a v e)),
        λ e. false≢true (sym none ∙ or_right (eqb q.a v) (eqb q.b v) (eq-eqb q.b v e)),
      )

  -- the pole is a vertex
  pub live_pole : Contains (vert_names i) v
  live_pole = named-Contains i.verts v P free.free

  -- so it is not the other end
  pole_other : opposite p u ≢ v
  pole_other e =
      let h = (All-found (λ x. eqb x.name pipe) (HasNoEnd v) i.pipes p pole_off live).0 in
      ⊎_elim (λ at. h.0 (at ∙ e)) (λ at. h.1 (at ∙ e)) (other_end i pipe p is live u free.end).2

  -- a solution after the step, with the wanted order at the end, is one before it
  pub Solves-before_free : (j : Synchronized) (s s' : ℕ → List ℕ) → IsWithoutPipe i p.name j → Solves j s
      → IsReordered (graph i) s u v (wanted p u s) s' → Solves i s'
  Solves-before_free j s s' w h re =
      Solves-wanted i pipe p is live u free.end v free.free
      (All-filter (λ q. not (has (p.name ∷ []) q.name)) (HasNoEnd v) i.pipes pole_off) pole_other j s s' w h re

-- FreePole keeps solvability
pub KeepsSolvable-free : (pipe end pole : ℕ) → KeepsSolvable (FreePole pipe end pole)
KeepsSolvable-free pipe u v i j is allowed after =
    let p : Pipe = allowed.0 in
    let live : pipe_named i pipe ≡ Some p = allowed.1 in
    let free : IsFreePole i p u v = allowed.2 in
    let w : IsWithoutPipe i p.name j = subst (λ n. IsWithoutPipe i n j) (sym (own_name i pipe p is live)) after.2 in (
      λ solved. (solved.0, Solves-without_pipe i j pipe solved.0 after.2 solved.1),
      λ solved.
          let s : ℕ → List ℕ = solved.0 in
          let rotation : IsRotationOf (graph i) s = rotation_before i pipe p is live u free.end j s w solved.1 in
          let re = IsReordered-some i is s rotation u v (live_end i pipe p is live u free.end)
          (live_pole i pipe p is live u v free) free.bond (wanted p u s)
          (wanted_arranged i pipe p is live u free.end s rotation) in
          (re.0, Solves-before_free i pipe p is live u v free j s re.0 w solved.1 re.1),
    )

-- the rewrite that drops the pipe performs the step
pub Performs-free : (i : Synchronized) (pipe end pole : ℕ) → IsSynchronized i
    → Allowed i (FreePole pipe end pole) → Performs i (FreePole pipe end pole) (dropping pipe)
Performs-free i pipe u v is allowed = (
  IsRewriteOf-dropping i pipe is (live_pipe i pipe allowed.0 allowed.1),
  (allowed.0, allowed.1, IsWithoutPipe-dropping i (rewritten (dropping pipe) i) pipe is refl),
)

-- a solution after the step, with the wanted order at the end, is one before it
pub IsSolution-before_free : (i j : Synchronized) (pipe end pole : ℕ) (after before : List (ℕ × List ℕ))
    → IsSynchronized i → (allowed : Allowed i (FreePole pipe end pole)) → After i (FreePole pipe end pole) j
    → IsSolution j after → map (λ x. x.0) before ≡ vert_names i
    → IsReordered (graph i) (list_in after) end pole (wanted allowed.0 end (list_in after)) (list_in before)
    → IsSolution i before
IsSolution-before_free i j pipe u v after before is allowed effect h names re =
    let p : Pipe = allowed.0 in
    let live : pipe_named i pipe ≡ Some p = allowed.1 in
    let w : IsWithoutPipe i p.name j = subst (λ n. IsWithoutPipe i n j) (sym (own_name i pipe p is live)) effect.2 in
    record {
      names = names;
      solves = Solves-before_free i pipe p is live u v allowed.2 j (list_in after) (list_in before) w h.solves re;
    }

-- what turning back asks of a solution after the step
pub record IsTurnable (i : Synchronized) (pipe end pole : ℕ) (lists : List (ℕ × List ℕ)) (order : List ℕ) : Type 0 where
  pub live_end : Contains (vert_names i) end
  pub live_pole : Contains (vert_names i) pole
  pub names : map (λ x. x.0) lists ≡ vert_names i
  pub rotation : IsRotationOf (graph i) (list_in lists)
  pub arranged : ArrangesEdges (graph i) end order

-- a solution after FreePole is one that can be turned back
pub free-IsTurnable : (i j : Synchronized) (pipe end pole : ℕ) (after : List (ℕ × List ℕ)) → IsSynchronized i
    → (allowed : Allowed i (FreePole pipe end pole)) → After i (FreePole pipe end pole) j → IsSolution j after
    → IsTurnable i pipe end pole after (wanted allowed.0 end (list_in after))
free-IsTurnable i j pipe u v after is allowed effect h =
    let p : Pipe = allowed.0 in
    let live : pipe_named i pipe ≡ Some p = allowed.1 in
    let w : IsWithoutPipe i p.name j = subst (λ n. IsWithoutPipe i n j) (sym (own_name i pipe p is live)) effect.2 in
    let rotation : IsRotationOf (graph i) (list_in after) =
    rotation_before i pipe p is live u allowed.2.end j (list_in after) w h.solves in
    record {
      live_end = live_end i pipe p is live u allowed.2.end;
      live_pole = live_pole i pipe p is live u v allowed.2;
      names = h.names ∙ ap names_of_verts w.verts;
      rotation = rotation;
      arranged = wanted_arranged i pipe p is live u allowed.2.end (list_in after) rotation;
    }

-- the wanted order by what a board tells of the pipe
pub wanted-told : (i : Synchronized) (pipe : ℕ) (p : Pipe) → pipe_named i pipe ≡ Some p → (u : ℕ) (s : ℕ → List ℕ)
    → wanted_by (pipe_ends_of i pipe) (pairs_of i pipe) u s ≡ wanted p u s
wanted-told i pipe p live u s =
    ap (λ o. wanted_by (option_map_or (λ x. (x.a, x.b)) o (0, 0)) (option_map_or (λ x. x.pairs) o []) u s) live

-- the other end by what a board tells of the pipe has a list
pub other_named : (i : Synchronized) (pipe : ℕ) (p : Pipe) → pipe_named i pipe ≡ Some p → (u : ℕ)
    (rows : List (ℕ × List ℕ)) → map (λ x. x.0) rows ≡ vert_names i → Contains (vert_names i) (opposite p u)
    → Contains (map (λ x. x.0) rows) (other_of (pipe_ends_of i pipe) u)
other_named i pipe p live u rows names c =
    subst (λ ns. Contains ns (other_of (pipe_ends_of i pipe) u)) (sym names)
    (subst (Contains (vert_names i))
    (sym (ap (λ o. other_of (option_map_or (λ x. (x.a, x.b)) o (0, 0)) u) live)) c)
