-- FusePoles keeps solvability, and how a solution is turned back.
use Rattle.std.proofs.Common.{◌≡◌, ◌≢◌, ℕ, false, ◌||◌, not, eqb, List, [], ◌∷◌, map, reverse, slice_index_or, sym, refl, ap, ◌∙◌, subst, ⊎_elim}
use Rattle.std.specs.Prelude.{◌↔◌, Some, find}
use Rattle.std.specs.List.{All, Contains}
use Rattle.std.specs.Option.{option_map_or}
use Rattle.std.specs.List.Sorted.{IsPermutation}
use Rattle.std.proofs.lemmas.Bool.{cases_eq, ne_eqb}
use Rattle.std.proofs.lemmas.List.{reverse-reverse}
use Rattle.std.proofs.lemmas.List.Elements.{All-cons, All-contains, All-filter, All-head, All-tail}
use Rattle.std.proofs.lemmas.List.Sorted.{All-permutation, Contains-permutation, IsPermutation-map, IsPermutation-sym}
use Rattle.cp_lists.specs.CyclicLists.{Distinct, Has}
use Rattle.cp_lists.specs.Turns.{IsTurn}
use Rattle.cp_lists.proofs.DistinctLists.{Has-Contains}
use Rattle.cp_lists.proofs.FilteredLists.{filter-Distinct}
use Rattle.cp_lists.proofs.MappedLists.{Distinct-map_on}
use Rattle.cp_lists.proofs.PermutedLists.{Distinct-IsPermutation}
use Rattle.cp_lists.proofs.ReversedLists.{map-reverse}
use Rattle.cp_lists.proofs.TurnedLists.{turn-map, turn-reverse, turn-sym, turn-trans, turn_mirrored}
use Rattle.cp_conn.specs.NamedGraphs.{NamedGraph, ends_at}
use Rattle.cp_conn.proofs.NamedGraphs.{map_has}
use Rattle.cp_maps.proofs.GluedVertices.{maps_agree}
use Rattle.cp_board.specs.declared.parts.Pipe.{Pipe}
use Rattle.cp_board.specs.declared.steps.Step.TheVariants.{FusePoles}
use Rattle.cp_board.specs.Names.{has}
use Rattle.cp_board.specs.Instances.{HasRightPairs, Synchronized, IsSynchronized, edges_of, graph, names_of_verts, pipe_named, vert_names}
use Rattle.cp_board.specs.Changes.{pairs_by_first, pipes_by_name}
use Rattle.cp_board.specs.Rotations.{IsRotationOf}
use Rattle.cp_board.specs.Solutions.{IsMirror, IsSolution, Solves, first_of, list_in, second_of}
use Rattle.cp_board.specs.Reductions.{KeepsSolvable}
use Rattle.cp_board.specs.Effects.{After, IsFused}
use Rattle.cp_board.specs.Steps.{Allowed, IsEnd, IsFusible, opposite, partner}
use Rattle.cp_board.proofs.NamedLists.{by_name_keeps}
use Rattle.cp_poles.proofs.FoundItems.{All-found, All-unfiltered, Some-same}
use Rattle.cp_poles.proofs.FreePoles.{IsTurnable, free_end, live_end, live_other, other_arranged, other_end, wanted_arranged}
use Rattle.cp_synclaw.proofs.InstanceDarts.{edges_once}
use Rattle.cp_synclaw.proofs.InstanceSystems.{listed_edge}
use Rattle.cp_synclaw.proofs.MirroredBonds.{bond-IsMirror}
use Rattle.cp_poles.proofs.FusiblePipes.{IsSynchronized-without_two, ends-apart, named_own, others-no_end_p, others-no_end_q, q_end, q_live, without_two}
use Rattle.cp_poles.proofs.PipePartners.{HasPartners, by_end, end-FitsEnd, end-HasPartners, first_second, found_own, second_first}
use Rattle.cp_poles.proofs.PermutedLists.{IsReordered-some}
use Rattle.cp_poles.proofs.ReorderedSolutions.{Solves-reordered}
use Rattle.cp_poles.specs.Permuted.{IsReordered}
use Rattle.cp_poles.specs.Wanted.{wanted}
use Rattle.cp_poles.proofs.SmallPipes.{live_a, live_b, own_name, right_ends, right_pairs}

-- the ends of a pipe mirror each other, seen from one of them as from the first
abbrev MirrorsFrom : Pipe → (ℕ → List ℕ) → ℕ → ℕ → (ℕ → ℕ) → (ℕ → ℕ) → Type 0
MirrorsFrom p s u w there back = IsMirror there (s u) (s w) ↔ IsMirror (second_of p) (s p.a) (s p.b)

-- a live pipe, an end u of it, and a rotation
module _ (i : Synchronized) (pipe : ℕ) (p : Pipe) (is : IsSynchronized i) (live : pipe_named i pipe ≡ Some p) (u : ℕ)
    (end : IsEnd p u) (s : ℕ → List ℕ) (rotation : IsRotationOf (graph i) s) where
  -- its ends differ, and its pairs are right
  differ : p.a ≢ p.b
  differ = (right_ends i pipe p is live).differ

  -- the pairs are right
  right : HasRightPairs (graph i) p
  right = right_pairs i pipe p is live

  -- mirrored lists, seen from the other side
  other_side : (f g : ℕ → ℕ) (a b : ℕ) → ((x : ℕ) → Has x (s a) → g (f x) ≡ x) → IsMirror f (s a) (s b)
      → IsMirror g (s b) (s a)
  other_side f g a b undone m =
      turn-sym (s a) (reverse (map g (s b)))
      (turn_mirrored f g (s b) (s a) undone (turn-sym (reverse (map f (s a))) (s b) m))

  -- seen from the second end
  mirrors_at_b : MirrorsFrom p s p.b p.a (first_of p) (second_of p)
  mirrors_at_b = (
    other_side (first_of p) (second_of p) p.b p.a
        (λ x h. second_first i is p differ right x
        ((listed_edge i is s rotation.arranged p.b x (live_b i pipe p is live)).0 h)),
    other_side (second_of p) (first_of p) p.a p.b
        (λ x h. first_second i is p differ right x
        ((listed_edge i is s rotation.arranged p.a x (live_a i pipe p is live)).0 h)),
  )

  -- seen from u
  pub mirrors_from : MirrorsFrom p s u (opposite p u) (λ x. partner p u x) (λ x. partner p (opposite p u) x)
  mirrors_from = by_end i is p differ right (MirrorsFrom p s) ((λ m. m), (λ m. m)) mirrors_at_b u end

-- the image of a list, item by item
map_twice : {A B : Type 0} (f : A → B) (g : B → ℕ) (h : A → ℕ) (xs : List A) → ((x : A) → g (f x) ≡ h x)
    → map g (map f xs) ≡ map h xs
map_twice f g h [] same = refl
map_twice f g h (x ∷ xs) same = ap (λ y. y ∷ map g (map f xs)) (same x) ∙ ap (λ ys. h x ∷ ys) (map_twice f g h xs same)

-- the ends of the pipe mirror each other
abbrev mirrored_in : (ℕ → List ℕ) → Pipe → Type 0
mirrored_in s r = IsMirror (second_of r) (s r.a) (s r.b)

-- the pipes p of the end u and q of its pole v, and what goes along
module _ (i : Synchronized) (pipe : ℕ) (p q : Pipe) (is : IsSynchronized i) (live : pipe_named i pipe ≡ Some p)
    (u v : ℕ) (fus : IsFusible i p q u v) (j : Synchronized) (fused : IsFused i p q u v j) where
  -- the graph
  abbrev g : NamedGraph
  g = graph i

  -- the partner of an edge of u along p
  abbrev pu : ℕ → ℕ
  pu x = partner p u x

  -- the partner of an edge of v
  abbrev qv : ℕ → ℕ
  qv x = partner q v x

  -- the pair of the new pipe for an edge of u: its partner along p, and the partner along q of the edge it goes on as
  abbrev made : ℕ → ℕ × ℕ
  made x = (partner p u x, partner q v (fused.along x))

  -- with the pairs of the step
  abbrev pub new_pipe : Pipe
  new_pipe = record {
    name = fused.name;
    a = opposite p u;
    b = opposite q v;
    pairs = pairs_by_first (map (λ x. (partner p u x, partner q v (fused.along x))) (edges_of i u));
  }

  -- q is found under its name
  live_q : pipe_named i q.name ≡ Some q
  live_q = q_live i pipe p q is live u v fus

  -- the pole is an end of q
  end_q : IsEnd q v
  end_q = q_end i pipe p q is live u v fus

  -- the partners of both
  partners_p : HasPartners i is p (right_ends i pipe p is live).differ (right_pairs i pipe p is live) u (opposite p u)
      pu (λ x. partner p (opposite p u) x)
  partners_p = end-HasPartners i is p (right_ends i pipe p is live).differ (right_pairs i pipe p is live) u fus.end

  -- the partners of the edges of v
  partners_q : HasPartners i is q (right_ends i q.name q is live_q).differ (right_pairs i q.name q is live_q) v
      (opposite q v) qv (λ x. partner q (opposite q v) x)
  partners_q = end-HasPartners i is q (right_ends i q.name q is live_q).differ (right_pairs i q.name q is live_q) v
      end_q

  -- a rotation
  module _ (s : ℕ → List ℕ) (rotation : IsRotationOf g s) where
    -- the items of the list of u are its edges
    item : (x : ℕ) → Has x (s u) → Contains (edges_of i u) x
    item x h = (listed_edge i is s rotation.arranged u x (live_end i pipe p is live u fus.end)).0 h

    -- the pairs of the new pipe
    abbrev pairs : List (ℕ × ℕ)
    pairs = map made (edges_of i u)

    -- the order of first edges only moves them
    pairs_kept : IsPermutation pairs new_pipe.pairs
    pairs_kept = by_name_keeps (λ x. x.0) pairs

    -- no first edge stands twice
    firsts_once : Distinct (map (λ x. x.0) new_pipe.pairs)
    firsts_once =
        Distinct-IsPermutation (map (λ x. x.0) pairs) (map (λ x. x.0) new_pipe.pairs)
        (IsPermutation-map (λ x. x.0) pairs new_pipe.pairs pairs_kept)
        (subst Distinct (sym (map_twice made (λ x. x.0) pu (edges_of i u) (λ x. refl)))
        (Distinct-map_on pu (edges_of i u)
        (λ x y hx hy e. sym (partners_p.undone x ((Has-Contains x (edges_of i u)).0 hx))
        ∙ ap (λ z. partner p (opposite p u) z) e ∙ partners_p.undone y ((Has-Contains y (edges_of i u)).0 hy))
        (filter-Distinct (ends_at g u) g.edges (edges_once i is))))

    -- the partner of the partner of x is the partner of the edge as which x goes on
    second_new : (x : ℕ) → Contains (edges_of i u) x → second_of new_pipe (pu x) ≡ qv (fused.along x)
    second_new x c =
        ap (λ o. option_map_or (λ z. z.1) o 0)
        (All-contains (λ y. find (λ z. eqb z.0 y.0) new_pipe.pairs ≡ Some y) new_pipe.pairs (made x)
        (found_own (λ z. z.0) new_pipe.pairs firsts_once)
        (Contains-permutation pairs new_pipe.pairs (made x) pairs_kept (map_has made (edges_of i u) x c)))

    -- the poles mirror each other
    poles : IsMirror fused.along (s u) (s v)
    poles = bond-IsMirror i is s rotation u v (live_end i pipe p is live u fus.end)
        (live_end i q.name q is live_q v end_q) fus.bond
        (partners_p.size ∙ sym fus.same ∙ sym partners_q.size) fused.along fused.is_along

    -- where p mirrors its ends, the new pipe asks for what q asks for
    pub through : IsMirror pu (s u) (s (opposite p u))
        → IsTurn (reverse (map (second_of new_pipe) (s (opposite p u)))) (reverse (map qv (s v)))
    through m =
        turn-trans (reverse (map (second_of new_pipe) (s (opposite p u)))) (map qv (map fused.along (s u)))
        (reverse (map qv (s v)))
        (subst (IsTurn (reverse (map (second_of new_pipe) (s (opposite p u))))) left_is
        (turn-reverse (map (second_of new_pipe) (s (opposite p u))) (map (second_of new_pipe) (reverse (map pu (s u))))
        (turn-map (second_of new_pipe) (s (opposite p u)) (reverse (map pu (s u)))
        (turn-sym (reverse (map pu (s u))) (s (opposite p u)) m))))
        (subst (λ xs. IsTurn xs (reverse (map qv (s v)))) right_is
        (turn-reverse (map qv (reverse (map fused.along (s u)))) (map qv (s v))
        (turn-map qv (reverse (map fused.along (s u))) (s v) poles)))
      where
        left_is : reverse (map (second_of new_pipe) (reverse (map pu (s u)))) ≡ map qv (map fused.along (s u))
        left_is =
            ap reverse (map-reverse (second_of new_pipe) (map pu (s u)))
            ∙ reverse-reverse (map (second_of new_pipe) (map pu (s u)))
            ∙ maps_agree pu (second_of new_pipe) (λ x. qv (fused.along x)) (s u) (λ x h. second_new x (item x h))
            ∙ sym (maps_agree fused.along qv (λ x. qv (fused.along x)) (s u) (λ x h. refl))

        right_is : reverse (map qv (reverse (map fused.along (s u)))) ≡ map qv (map fused.along (s u))
        right_is =
            ap reverse (map-reverse qv (map fused.along (s u))) ∙ reverse-reverse (map qv (map fused.along (s u)))

  -- the pipes that stay
  abbrev others : List Pipe
  others = (without_two i p q).pipes

  -- what the step makes
  after_is : j ≡ record { verts = i.verts; edges = i.edges; pipes = pipes_by_name (new_pipe ∷ others) }
  after_is =
      ap (λ z. record { verts = z; edges = j.edges; pipes = j.pipes }) fused.verts
      ∙ ap (λ z. record { verts = i.verts; edges = z; pipes = j.pipes }) fused.edges
      ∙ ap (λ z. record { verts = i.verts; edges = i.edges; pipes = z }) fused.pipes

  -- p is found under its own name
  p_named : pipe_named i p.name ≡ Some p
  p_named = subst (λ n. pipe_named i n ≡ Some p) (sym (own_name i pipe p is live)) live

  -- what holds of the two and of the others holds of all
  all_pipes : (holds : Pipe → Type 0) → holds p → holds q → All holds others → All holds i.pipes
  all_pipes holds hp hq rest k d lt =
      let r : Pipe = slice_index_or i.pipes k d in
      let found : pipe_named i r.name ≡ Some r = named_own i is k d lt in
      ⊎_elim
      (λ (e : r.name ≡ p.name).
      subst holds (Some-same p r (sym p_named ∙ subst (λ n. pipe_named i n ≡ Some r) e found)) hp)
      (λ np. ⊎_elim
      (λ (e : r.name ≡ q.name).
      subst holds (Some-same q r (sym live_q ∙ subst (λ n. pipe_named i n ≡ Some r) e found)) hq)
      (λ nq. All-unfiltered (λ x. not (has (p.name ∷ q.name ∷ []) x.name)) holds i.pipes rest k d lt
      (ap (λ b. not (b || (eqb r.name q.name || false))) (ne_eqb r.name p.name np)
      ∙ ap (λ b. not (b || false)) (ne_eqb r.name q.name nq)))
      (cases_eq r.name q.name))
      (cases_eq r.name p.name)

  -- the other ends are neither u nor v
  w_not_v : opposite p u ≢ v
  w_not_v = ends-apart i pipe p q is live u v fus (opposite p u) v (other_end i pipe p is live u fus.end).2 end_q

  -- the other end of q is not u
  w2_not_u : opposite q v ≢ u
  w2_not_u e =
      ends-apart i pipe p q is live u v fus u (opposite q v) fus.end (other_end i q.name q is live_q v end_q).2 (sym e)

  -- a solution is one after the step
  pub Solves-after_fuse : (s : ℕ → List ℕ) → Solves i s → Solves j s
  Solves-after_fuse s h = subst (λ z. Solves z s) (sym after_is) record {
    rotation = h.rotation;
    mirrored = All-permutation (mirrored_in s) (new_pipe ∷ others) (pipes_by_name (new_pipe ∷ others))
        (by_name_keeps (λ r. r.name) (new_pipe ∷ others))
        (All-cons (mirrored_in s) new_pipe others mirror
        (All-filter (λ r. not (has (p.name ∷ q.name ∷ []) r.name)) (mirrored_in s) i.pipes h.mirrored));
    back = h.back;
    in_direction = h.in_direction;
  }
    where
      of_p : IsMirror (partner p u) (s u) (s (opposite p u))
      of_p = (mirrors_from i pipe p is live u fus.end s h.rotation).1
          (All-found (λ x. eqb x.name pipe) (mirrored_in s) i.pipes p h.mirrored live).0

      of_q : IsMirror (partner q v) (s v) (s (opposite q v))
      of_q = (mirrors_from i q.name q is live_q v end_q s h.rotation).1
          (All-found (λ x. eqb x.a v || eqb x.b v) (mirrored_in s) i.pipes q h.mirrored fus.matched).0

      mirror : (mirrored_in s) new_pipe
      mirror = turn-trans (reverse (map (second_of new_pipe) (s (opposite p u)))) (reverse (map qv (s v)))
          (s (opposite q v)) (through s h.rotation of_p) of_q

  -- a solution after the step, with the wanted order at u, is one before it
  pub Solves-before_fuse : (s s' : ℕ → List ℕ) → Solves j s → IsReordered g s u v (wanted p u s) s' → Solves i s'
  Solves-before_fuse s s' h re = record {
    rotation = re.rotation;
    mirrored = all_pipes (mirrored_in s') mirror_p mirror_q solved.mirrored;
    back = solved.back;
    in_direction = solved.in_direction;
  }
    where
      told : Solves record { verts = i.verts; edges = i.edges; pipes = pipes_by_name (new_pipe ∷ others) } s
      told = subst (λ z. Solves z s) after_is h

      both : All (mirrored_in s) (new_pipe ∷ others)
      both = All-permutation (mirrored_in s) (pipes_by_name (new_pipe ∷ others)) (new_pipe ∷ others)
          (IsPermutation-sym (new_pipe ∷ others) (pipes_by_name (new_pipe ∷ others))
          (by_name_keeps (λ r. r.name) (new_pipe ∷ others)))
          told.mirrored

      left_solved : Solves (without_two i p q) s
      left_solved = record {
        rotation = told.rotation;
        mirrored = All-tail (mirrored_in s) new_pipe others both;
        back = told.back;
        in_direction = told.in_direction;
      }

      solved : Solves (without_two i p q) s'
      solved = Solves-reordered (without_two i p q) (IsSynchronized-without_two i pipe p q is live u v fus) s s' u v
          (wanted p u s) re (free_end i pipe p is live u fus.end)
          (free_end i q.name q is live_q v end_q)
          (others-no_end_p i pipe p q is live u v fus u fus.end)
          (others-no_end_q i pipe p q is live u v fus v end_q) left_solved

      same : s' (opposite p u) ≡ s (opposite p u)
      same = re.others (opposite p u) (live_other i pipe p is live u fus.end)
          (other_end i pipe p is live u fus.end).0 w_not_v

      same_q : s' (opposite q v) ≡ s (opposite q v)
      same_q = re.others (opposite q v) (live_other i q.name q is live_q v end_q) w2_not_u
          (other_end i q.name q is live_q v end_q).0

      mirror_p : mirrored_in s' p
      mirror_p = (end-FitsEnd i is p (right_ends i pipe p is live).differ (right_pairs i pipe p is live) u
          fus.end).mirrors s' (other_arranged i pipe p is live u fus.end s' re.rotation)
          (re.first ∙ ap (λ xs. reverse (map (λ x. partner p (opposite p u) x) xs)) (sym same))

      new_mirror : IsMirror (second_of new_pipe) (s' (opposite p u)) (s' (opposite q v))
      new_mirror =
          subst (λ xs. IsMirror (second_of new_pipe) xs (s' (opposite q v))) (sym same)
          (subst (IsMirror (second_of new_pipe) (s (opposite p u))) (sym same_q)
          (All-head (mirrored_in s) new_pipe others both))

      mirror_q : mirrored_in s' q
      mirror_q = (mirrors_from i q.name q is live_q v end_q s' re.rotation).0
          (turn-trans (reverse (map qv (s' v))) (reverse (map (second_of new_pipe) (s' (opposite p u))))
          (s' (opposite q v))
          (turn-sym (reverse (map (second_of new_pipe) (s' (opposite p u)))) (reverse (map qv (s' v)))
          (through s' re.rotation ((mirrors_from i pipe p is live u fus.end s' re.rotation).1 mirror_p)))
          new_mirror)

  -- the graph stays
  pub rotation_fused : (s : ℕ → List ℕ) → Solves j s → IsRotationOf g s
  rotation_fused s h = (subst (λ z. Solves z s) after_is h).rotation

  -- the pole is a vertex
  pub pole_live : Contains (vert_names i) v
  pole_live = live_end i q.name q is live_q v end_q

-- the pipes of the effect are those of the condition
fusible_after : (i : Synchronized) (pipe u v : ℕ) (j : Synchronized) (allowed : Allowed i (FusePoles pipe u v))
    (after : After i (FusePoles pipe u v) j) → IsFusible i after.0 after.2.0 u v
fusible_after i pipe u v j allowed after =
    let same_p : allowed.0 ≡ after.0 = Some-same allowed.0 after.0 (sym allowed.1 ∙ after.1) in
    let same_q : allowed.2.0 ≡ after.2.0 =
    Some-same allowed.2.0 after.2.0 (sym allowed.2.1.matched ∙ after.2.1) in
    subst (λ z. IsFusible i z after.2.0 u v) same_p (subst (λ z. IsFusible i allowed.0 z u v) same_q allowed.2.1)

-- FusePoles keeps solvability
pub KeepsSolvable-fuse : (pipe end pole : ℕ) → KeepsSolvable (FusePoles pipe end pole)
KeepsSolvable-fuse pipe u v i j is allowed after =
    let p : Pipe = after.0 in
    let q : Pipe = after.2.0 in
    let live : pipe_named i pipe ≡ Some p = after.1 in
    let fus : IsFusible i p q u v = fusible_after i pipe u v j allowed after in
    let fused : IsFused i p q u v j = after.2.2 in (
      λ solved. (solved.0, Solves-after_fuse i pipe p q is live u v fus j fused solved.0 solved.1),
      λ solved.
          let s : ℕ → List ℕ = solved.0 in
          let rotation : IsRotationOf (graph i) s =
          rotation_fused i pipe p q is live u v fus j fused s solved.1 in
          let re = IsReordered-some i is s rotation u v (live_end i pipe p is live u fus.end)
          (pole_live i pipe p q is live u v fus j fused) fus.bond (wanted p u s)
          (wanted_arranged i pipe p is live u fus.end s rotation) in
          (re.0, Solves-before_fuse i pipe p q is live u v fus j fused s re.0 solved.1 re.1),
    )

-- what turning back asks of a solution after the step
pub fuse-IsTurnable : (i j : Synchronized) (pipe end pole : ℕ) (lists : List (ℕ × List ℕ)) → IsSynchronized i
    → Allowed i (FusePoles pipe end pole) → (after : After i (FusePoles pipe end pole) j) → IsSolution j lists
    → IsTurnable i pipe end pole lists (wanted after.0 end (list_in lists))
fuse-IsTurnable i j pipe u v lists is allowed after h =
    let p : Pipe = after.0 in
    let fus : IsFusible i p after.2.0 u v = fusible_after i pipe u v j allowed after in
    let rotation : IsRotationOf (graph i) (list_in lists) =
    rotation_fused i pipe p after.2.0 is after.1 u v fus j after.2.2 (list_in lists) h.solves in
    record {
      live_end = live_end i pipe p is after.1 u fus.end;
      live_pole = pole_live i pipe p after.2.0 is after.1 u v fus j after.2.2;
      names = h.names ∙ ap names_of_verts after.2.2.verts;
      rotation = rotation;
      arranged = wanted_arranged i pipe p is after.1 u fus.end (list_in lists) rotation;
    }

-- the other end of the pipe has a list
pub fuse-other : (i j : Synchronized) (pipe end pole : ℕ) → IsSynchronized i
    → Allowed i (FusePoles pipe end pole) → (after : After i (FusePoles pipe end pole) j)
    → Contains (vert_names i) (opposite after.0 end)
fuse-other i j pipe u v is allowed after =
    live_other i pipe after.0 is after.1 u (fusible_after i pipe u v j allowed after).end

-- a solution after the step, with the wanted order at the end, is one before it
pub IsSolution-before_fuse : (i j : Synchronized) (pipe end pole : ℕ) (lists before : List (ℕ × List ℕ))
    → IsSynchronized i → Allowed i (FusePoles pipe end pole) → (after : After i (FusePoles pipe end pole) j)
    → IsSolution j lists → map (λ x. x.0) before ≡ vert_names i
    → IsReordered (graph i) (list_in lists) end pole (wanted after.0 end (list_in lists)) (list_in before)
    → IsSolution i before
IsSolution-before_fuse i j pipe u v lists before is allowed after h names re = record {
  names = names;
  solves = Solves-before_fuse i pipe after.0 after.2.0 is after.1 u v (fusible_after i pipe u v j allowed after) j
      after.2.2 (list_in lists) (list_in before) h.solves re;
}
