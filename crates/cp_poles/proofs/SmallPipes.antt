-- Small keeps solutions both ways.
use Rattle.std.proofs.Common.{◌≡◌, ◌≢◌, ℕ, ◌<◌, ◌≤◌, Bool, true, false, eqb, List, [], ◌∷◌, length, map, reverse, slice_index_or, sym, refl, ap, ◌∙◌, subst, arith, ⊎_elim}
use Rattle.std.specs.Prelude.{Some, find}
use Rattle.std.specs.List.{All, Contains}
use Rattle.std.proofs.lemmas.Bool.{cases_eq, cond-true, eqb-true, eqb-false, eq-eqb}
use Rattle.std.proofs.lemmas.List.Elements.{All-filter, All-map, All-head, All-contains}
use Rattle.cp_lists.specs.Turns.{IsTurn, turned_to_least}
use Rattle.cp_board.specs.declared.parts.Kind.TheVariants.{P}
use Rattle.cp_board.specs.declared.parts.Vert.{Vert}
use Rattle.cp_board.specs.declared.parts.Pipe.{Pipe}
use Rattle.cp_board.specs.declared.steps.Step.TheVariants.{Small}
use Rattle.cp_board.specs.Names.{has, AreNew}
use Rattle.cp_board.specs.Instances.{Synchronized, IsSynchronized, HasRightEnds, HasRightPairs, cell_of, graph, cells, names_of_verts, pipe_named, pipe_names, vert_names}
use Rattle.cp_board.specs.Changes.{IsWithoutPipe, other_pipes}
use Rattle.cp_board.specs.Rotations.{ArrangesEdges, IsRotationOf}
use Rattle.cp_board.specs.Solutions.{Solves, IsSolution, IsMirror, IsInDirection, directed, list_in, second_of}
use Rattle.cp_board.specs.Steps.{degree, Allowed}
use Rattle.cp_board.specs.Effects.{After, IsAfterSmall, HasFixedEnds}
use Rattle.cp_board.specs.Reductions.{KeepsSolvable}
use Rattle.cp_board.proofs.DroppedPipes.{Solves-without_pipe}
use Rattle.cp_board.proofs.NamedLists.{rises_from}
use Rattle.cp_board.proofs.NewNames.{new_names-dead}
use Rattle.cp_poles.proofs.FoundItems.{All-found, All-unmapped, All-with_pipe, Some-same}
use Rattle.cp_poles.proofs.FixedEnds.{fixed, fixed_vert, fixed_a, fixed_b, fixed_cases, fixed_other, graph_fixed, names_fixed, kind_at, holds_named, named-Contains, cells_lack, with_direction, direction_kept}
use Rattle.cp_poles.proofs.Mirrors.{mirror_of_two, direction_of_three, direction_from_mirror, mirror_from_direction}

-- a live pipe of an instance
module _ (i : Synchronized) (pipe : ℕ) (p : Pipe) (is : IsSynchronized i) (live : pipe_named i pipe ≡ Some p) where
  -- its ends are two different P-vertices
  pub right_ends : HasRightEnds i.verts p
  right_ends = (All-found (λ x. eqb x.name pipe) (HasRightEnds i.verts) i.pipes p is.ends_free live).0

  -- its pairs are right
  pub right_pairs : HasRightPairs (graph i) p
  right_pairs = (All-found (λ x. eqb x.name pipe) (HasRightPairs (graph i)) i.pipes p is.pairs_right live).0

  -- its name is the one under which it is found
  pub own_name : p.name ≡ pipe
  own_name = eqb-true p.name pipe (All-found (λ x. eqb x.name pipe) (HasRightPairs (graph i)) i.pipes p is.pairs_right live).1

  -- its first end is a vertex
  pub live_a : Contains (vert_names i) p.a
  live_a = named-Contains i.verts p.a P right_ends.free_a

  -- and so is its second end
  pub live_b : Contains (vert_names i) p.b
  live_b = named-Contains i.verts p.b P right_ends.free_b

  -- it is found under its own name
  found : find (λ x. eqb x.name p.name) i.pipes ≡ Some p
  found = ap (λ n. find (λ x. eqb x.name n) i.pipes) own_name ∙ live

  -- the pipe of this name and all others are all pipes
  all_pipes : (holds : Pipe → Type 0) → holds p → All holds (other_pipes i (p.name ∷ [])) → All holds i.pipes
  all_pipes holds hp others =
      All-with_pipe holds i.pipes p.name p (rises_from (pipe_names i) is.pipes_named.rise) found hp others

  -- where the step takes the pipe away and nothing else, a solution of what is left solves the instance if it mirrors
  pub Solves-with_pipe : (j : Synchronized) (s : ℕ → List ℕ) → IsWithoutPipe i p.name j → Solves j s
      → IsMirror (second_of p) (s p.a) (s p.b)
      → Solves i s
  Solves-with_pipe j s w h mirror =
      let k = subst (λ z. Solves z s) same h in
      record {
        rotation = k.rotation;
        mirrored = all_pipes (λ q. IsMirror (second_of q) (s q.a) (s q.b)) mirror k.mirrored;
        back = k.back;
        in_direction = k.in_direction;
      }
    where
      same : j ≡ record { verts = i.verts; edges = i.edges; pipes = other_pipes i (p.name ∷ []) }
      same = ap (λ z. record { verts = z; edges = j.edges; pipes = j.pipes }) w.verts ∙ ap (λ z. record { verts = i.verts; edges = z; pipes = j.pipes }) w.edges ∙ ap (λ z. record { verts = i.verts; edges = i.edges; pipes = z }) w.pipes

  -- a rotation arranges the edges of the two ends
  module _ (s : ℕ → List ℕ) (rotation : IsRotationOf (graph i) s) where
    -- the list of the first end arranges its edges
    pub at_a : ArrangesEdges (graph i) p.a (s p.a)
    at_a = All-contains (λ v. ArrangesEdges (graph i) v (s v)) (vert_names i) p.a rotation.arranged live_a

    -- and so does that of the second end
    pub at_b : ArrangesEdges (graph i) p.b (s p.b)
    at_b = All-contains (λ v. ArrangesEdges (graph i) v (s v)) (vert_names i) p.b rotation.arranged live_b

  -- a pipe of at most two pairs may come back
  short_back : (j : Synchronized) (s : ℕ → List ℕ) → degree p ≤ 2 → IsWithoutPipe i p.name j → Solves j s → Solves i s
  short_back j s short w h =
      let rotation = subst (λ g. IsRotationOf g s) (ap (λ vs. graph record { verts = vs; edges = j.edges; pipes = [] }) w.verts ∙ ap (λ es. graph record { verts = i.verts; edges = es; pipes = [] }) w.edges) h.rotation in
      Solves-with_pipe j s w h (mirror_of_two i is p right_pairs s (at_a s rotation) (at_b s rotation) short)

  -- a pipe of three pairs
  module _ (cell : ℕ) (new : AreNew (cells i) (cell ∷ [])) where
    -- the step keeps the graph
    same_graph : graph (fixed i p cell) ≡ graph i
    same_graph = graph_fixed i p cell right_ends.differ

    -- no vertex has the new cell
    lacks : All (λ v. has (cell_of v.kind) cell ≡ false) i.verts
    lacks = cells_lack cell i.verts (All-head (λ n. has (cells i) n ≡ false) cell [] (new_names-dead (cells i) (cell ∷ []) new))

    -- a solution is one after the step
    fixed_solved : (s : ℕ → List ℕ) → degree p ≡ 3 → Solves i s → Solves (fixed i p cell) s
    fixed_solved s three h = record {
      rotation = subst (λ g. IsRotationOf g s) (sym same_graph) h.rotation;
      mirrored = All-filter _ (λ q. IsMirror (second_of q) (s q.a) (s q.b)) i.pipes h.mirrored;
      back = with_direction cell turn.0 h.back;
      in_direction = All-map (λ v. IsInDirection (with_direction cell turn.0 h.back) (s v.name) v.kind) (fixed_vert p cell) i.verts each;
    }
      where
        turn : (back : Bool) × IsTurn (directed back (map (λ x. x.0) p.pairs)) (s p.a)
        turn = direction_of_three i is p right_pairs s (at_a s h.rotation) (at_b s h.rotation) three

        mirror : IsMirror (second_of p) (s p.a) (s p.b)
        mirror = (All-found (λ x. eqb x.name pipe) (λ q. IsMirror (second_of q) (s q.a) (s q.b)) i.pipes p h.mirrored live).0

        new_direction : with_direction cell turn.0 h.back cell ≡ turn.0
        new_direction = cond-true (eqb cell cell) turn.0 (h.back cell) (eq-eqb cell cell refl)

        each : All (λ v. IsInDirection (with_direction cell turn.0 h.back) (s (fixed_vert p cell v).name) (fixed_vert p cell v).kind) i.verts
        each k d lt =
            let v = slice_index_or i.verts k d in
            fixed_cases p cell v (λ w. IsInDirection (with_direction cell turn.0 h.back) (s w.name) w.kind) right_ends.differ
            (λ e. subst (λ b. IsTurn (directed b (map (λ x. x.0) p.pairs)) (s p.a)) (sym new_direction) turn.1)
            (λ e. subst (λ b. IsTurn (directed b (turned_to_least (reverse (map (λ x. x.1) p.pairs)))) (s p.b)) (sym new_direction)
            (direction_from_mirror i is p right_pairs s (at_a s h.rotation) (at_b s h.rotation) turn.0 turn.1 mirror))
            (λ na nb. direction_kept cell turn.0 h.back (s v.name) v.kind (lacks k d lt) (h.in_direction k d lt))

    -- a solution after the step is one before it
    fixed_back : (s : ℕ → List ℕ) → Solves (fixed i p cell) s → Solves i s
    fixed_back s h = record {
      rotation = rotation;
      mirrored = all_pipes (λ q. IsMirror (second_of q) (s q.a) (s q.b)) mirror h.mirrored;
      back = h.back;
      in_direction = before;
    }
      where
        rotation : IsRotationOf (graph i) s
        rotation = subst (λ g. IsRotationOf g s) same_graph h.rotation

        after : All (λ v. IsInDirection h.back (s (fixed_vert p cell v).name) (fixed_vert p cell v).kind) i.verts
        after = All-unmapped (λ v. IsInDirection h.back (s v.name) v.kind) (fixed_vert p cell) i.verts h.in_direction

        a_directed : IsTurn (directed (h.back cell) (map (λ x. x.0) p.pairs)) (s p.a)
        a_directed =
            let w = holds_named (λ v. IsInDirection h.back (s (fixed_vert p cell v).name) (fixed_vert p cell v).kind) i.verts p.a P after right_ends.free_a in
            let is_a = fixed_cases p cell w.0 (λ u. u ≡ fixed_a p cell) right_ends.differ (λ e. refl) (λ e. absurd (right_ends.differ (sym w.2 ∙ e))) (λ na nb. absurd (na w.2)) in
            subst (λ u. IsInDirection h.back (s u.name) u.kind) is_a w.1

        b_directed : IsTurn (directed (h.back cell) (turned_to_least (reverse (map (λ x. x.1) p.pairs)))) (s p.b)
        b_directed =
            let w = holds_named (λ v. IsInDirection h.back (s (fixed_vert p cell v).name) (fixed_vert p cell v).kind) i.verts p.b P after right_ends.free_b in
            let is_b = fixed_cases p cell w.0 (λ u. u ≡ fixed_b p cell) right_ends.differ (λ e. absurd (right_ends.differ (sym e ∙ w.2))) (λ e. refl) (λ na nb. absurd (nb w.2)) in
            subst (λ u. IsInDirection h.back (s u.name) u.kind) is_b w.1

        mirror : IsMirror (second_of p) (s p.a) (s p.b)
        mirror = mirror_from_direction i is p right_pairs s (at_a s rotation) (at_b s rotation) (h.back cell) a_directed b_directed

        free : (k : ℕ) (d : Vert) → k < length i.verts → (slice_index_or i.verts k d).kind ≡ P
            → IsInDirection h.back (s (slice_index_or i.verts k d).name) (slice_index_or i.verts k d).kind
        free k d lt e = subst (IsInDirection h.back (s (slice_index_or i.verts k d).name)) (sym e) tt

        before : All (λ v. IsInDirection h.back (s v.name) v.kind) i.verts
        before k d lt =
            let v = slice_index_or i.verts k d in
            let up = rises_from (vert_names i) is.verts_named.rise in
            ⊎_elim
            (λ (e : v.name ≡ p.a). free k d lt (kind_at i.verts k d p.a P up lt e right_ends.free_a))
            (λ na. ⊎_elim
            (λ (e : v.name ≡ p.b). free k d lt (kind_at i.verts k d p.b P up lt e right_ends.free_b))
            (λ nb. subst (λ u. IsInDirection h.back (s u.name) u.kind) (fixed_other p cell v right_ends.differ na nb) (after k d lt))
            (cases_eq v.name p.b))
            (cases_eq v.name p.a)

  -- what the effect says at three pairs, as one equation
  fixed_is : (j : Synchronized) (e : HasFixedEnds i p j) → j ≡ fixed i p e.cell
  fixed_is j e = ap (λ z. record { verts = z; edges = j.edges; pipes = j.pipes }) e.verts ∙ ap (λ z. record { verts = map (fixed_vert p e.cell) i.verts; edges = z; pipes = j.pipes }) e.edges ∙ ap (λ z. record { verts = map (fixed_vert p e.cell) i.verts; edges = i.edges; pipes = z }) e.pipes

  -- the effect by the number of pairs
  by_degree : (j : Synchronized) (goal : Type 0) → IsAfterSmall i p j
      → (degree p ≡ 3 → HasFixedEnds i p j → goal)
      → (degree p ≢ 3 → IsWithoutPipe i p.name j → goal)
      → goal
  by_degree j goal after three other = cases (eqb (degree p) 3) refl after
    where
      effect : Bool → Type 0
      effect b = elim b [ true ↦ HasFixedEnds i p j | false ↦ IsWithoutPipe i p.name j ]

      cases : (b : Bool) → eqb (degree p) 3 ≡ b → effect b → goal
      cases true e h = three (eqb-true (degree p) 3 e) h
      cases false e h = other (eqb-false (degree p) 3 e) h

  -- solutions after the step are those before it
  pub Solves-after_small : (j : Synchronized) (s : ℕ → List ℕ) → IsAfterSmall i p j → Solves i s → Solves j s
  Solves-after_small j s after h = by_degree j (Solves j s) after
      (λ three e. subst (λ z. Solves z s) (sym (fixed_is j e)) (fixed_solved e.cell e.new_cell s three h))
      (λ other w. Solves-without_pipe i j p.name s w h)

  -- and solutions after the step are those before it
  pub Solves-before_small : (j : Synchronized) (s : ℕ → List ℕ) → degree p ≤ 3 → IsAfterSmall i p j → Solves j s → Solves i s
  Solves-before_small j s short after h = by_degree j (Solves i s) after
      (λ three e. fixed_back e.cell e.new_cell s (subst (λ z. Solves z s) (fixed_is j e) h))
      (λ other w. let le : degree p ≤ 2 = omega (arith, short, other) in short_back j s le w h)

  -- the step keeps the names of the vertices
  pub names_after_small : (j : Synchronized) → IsAfterSmall i p j → vert_names j ≡ vert_names i
  names_after_small j after = by_degree j (vert_names j ≡ vert_names i) after
      (λ three e. ap vert_names (fixed_is j e) ∙ names_fixed p e.cell right_ends.differ i.verts)
      (λ other w. ap names_of_verts w.verts)

-- Small keeps solvability
pub KeepsSolvable-small : (pipe : ℕ) → KeepsSolvable (Small pipe)
KeepsSolvable-small pipe i j is allowed after =
    let p = after.0 in
    let short = subst (λ q. degree q ≤ 3) (Some-same allowed.0 p (sym allowed.1 ∙ after.1)) allowed.2 in (
      λ solved. (solved.0, Solves-after_small i pipe p is after.1 j solved.0 after.2 solved.1),
      λ solved. (solved.0, Solves-before_small i pipe p is after.1 j solved.0 short after.2 solved.1),
    )

-- what solves the instance after the step solves the one before it
pub IsSolution-before_small : (i j : Synchronized) (pipe : ℕ) (lists : List (ℕ × List ℕ)) → IsSynchronized i
    → Allowed i (Small pipe) → After i (Small pipe) j → IsSolution j lists → IsSolution i lists
IsSolution-before_small i j pipe lists is allowed after h =
    let p = after.0 in
    let short = subst (λ q. degree q ≤ 3) (Some-same allowed.0 p (sym allowed.1 ∙ after.1)) allowed.2 in
    record {
      names = h.names ∙ names_after_small i pipe p is after.1 j after.2;
      solves = Solves-before_small i pipe p is after.1 j (list_in lists) short after.2 h.solves;
    }
