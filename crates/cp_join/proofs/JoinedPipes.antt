-- A pipe that may be joined: what a board tells of it, its parts and new names are all that the rewrite needs.
use Rattle.std.proofs.Common.{◌≡◌, ℕ, ◌^◌, ◌<◌, Bool, true, eqb, List, [], ◌∷◌, length, map, sym, refl, ap, ◌∙◌, subst, subst₂, inl, inr, ⊎_elim}
use Rattle.std.specs.Prelude.{Some, find}
use Rattle.std.specs.List.{All, Contains}
use Rattle.std.specs.Option.{option_map_or}
use Rattle.std.proofs.lemmas.Bool.{cases_Bool, cond-true, cond-false, eqb-true}
use Rattle.std.proofs.lemmas.List.Elements.{All-head, All-tail}
use Rattle.cp_lists.specs.CyclicLists.{Has}
use Rattle.cp_lists.proofs.DistinctLists.{Has-Contains}
use Rattle.cp_board.specs.declared.parts.Kind.TheVariants.{P}
use Rattle.cp_board.specs.declared.parts.Pipe.{Pipe}
use Rattle.cp_board.specs.declared.steps.Step.TheVariants.{Join}
use Rattle.cp_board.specs.Names.{AreNew, new_names}
use Rattle.cp_board.specs.Instances.{Synchronized, IsSynchronized, HasRightEnds, HasRightPairs, edge_names, graph, pairs_of, pipe_ends_of, pipe_named, pipe_names, vert_names}
use Rattle.cp_board.specs.Joins.{ArePartsAt}
use Rattle.cp_board.specs.Reductions.{Performs}
use Rattle.cp_board.proofs.NumberOfNewNames.{length-new_names}
use Rattle.cp_join.specs.declared.parted_ends.Parting.{Parting}
use Rattle.cp_join.specs.Partings.{AreParted, IsParting, FitPairs}
use Rattle.cp_join.specs.Joining.{joining}
use Rattle.cp_join.proofs.LiveVerts.{kind_live, none_some}
use Rattle.cp_join.proofs.JoinNames.{HasPartings}
use Rattle.cp_join.proofs.NewPartings.{AreNew-asked}
use Rattle.cp_join.proofs.JoinRewrites.{Performs-joining, fit_pairs}

-- what is found passes, and what holds of all holds of it
pub found : (t : Pipe → Bool) (holds : Pipe → Type 0) (qs : List Pipe) (p : Pipe) → All holds qs → find t qs ≡ Some p
    → holds p × (t p ≡ true)
found t holds [] p all e = absurd (none_some p e)
found t holds (q ∷ qs) p all e =
    ⊎_elim
    (λ b. let same : q ≡ p = ap (λ o. option_map_or (λ z. z) o q) (sym (cond-true (t q) (Some q) (find t qs) b) ∙ e) in
    (subst holds same (All-head holds q qs all), subst (λ z. t z ≡ true) same b))
    (λ b. found t holds qs p (All-tail holds q qs all) (sym (cond-false (t q) (Some q) (find t qs) b) ∙ e))
    (cases_Bool (t q))

-- a pipe that is found is live
pub live_pipe : (i : Synchronized) (pipe : ℕ) (p : Pipe) → pipe_named i pipe ≡ Some p → Contains (pipe_names i) pipe
live_pipe i pipe p live = (Has-Contains pipe (pipe_names i)).0 (found_name i.pipes live)
  where
    found_name : (qs : List Pipe) → find (λ q. eqb q.name pipe) qs ≡ Some p → Has pipe (map (λ q. q.name) qs)
    found_name [] e = absurd (none_some p e)
    found_name (q ∷ qs) e =
        ⊎_elim
        (λ b. inl (eqb-true q.name pipe b))
        (λ b. inr (found_name qs (sym (cond-false (eqb q.name pipe) (Some q) (find (λ x. eqb x.name pipe) qs) b) ∙ e)))
        (cases_Bool (eqb q.name pipe))

module _ (i : Synchronized) (pipe : ℕ) (p : Pipe) (is : IsSynchronized i) (live : pipe_named i pipe ≡ Some p) where
  -- the pipe has the name under which it is found
  pub own_name : p.name ≡ pipe
  own_name = eqb-true p.name pipe
      (found (λ q. eqb q.name pipe) (HasRightEnds i.verts) i.pipes p is.ends_free live).1

  -- its ends are right
  right_ends : HasRightEnds i.verts p
  right_ends = (found (λ q. eqb q.name pipe) (HasRightEnds i.verts) i.pipes p is.ends_free live).0

  -- and so are its pairs
  right_pairs : HasRightPairs (graph i) p
  right_pairs = (found (λ q. eqb q.name pipe) (HasRightPairs (graph i)) i.pipes p is.pairs_right live).0

  -- its ends are live
  pub live_a : Contains (vert_names i) p.a
  live_a = kind_live i.verts p.a P right_ends.free_a

  -- also the second one
  pub live_b : Contains (vert_names i) p.b
  live_b = kind_live i.verts p.b P right_ends.free_b

  -- what a board tells of it
  pub told_ends : pipe_ends_of i pipe ≡ (p.a, p.b)
  told_ends = ap (λ o. option_map_or (λ x. (x.a, x.b)) o (0, 0)) live

  -- and of its pairs
  pub told_pairs : pairs_of i pipe ≡ p.pairs
  told_pairs = ap (λ o. option_map_or (λ x. x.pairs) o []) live

  module _ (pa pb : List (List ℕ)) (s t : Parting) (hats : List ℕ) (are_a : ArePartsAt (graph i) p.a pa)
      (are_b : ArePartsAt (graph i) p.b pb) (parted : AreParted i pa pb s t) (size : length hats ≡ length p.pairs)
      (new : AreNew (edge_names i) hats) where
    -- a parting of some parts is one of its own
    own : (ps : List (List ℕ)) (r : Parting) → IsParting ps r → IsParting r.parts r
    own ps r is_one = record {
      same = refl;
      outer_each = is_one.outer_each ∙ ap length (sym is_one.same);
      inner_each = is_one.inner_each ∙ ap length (sym is_one.same);
      name_each = is_one.name_each ∙ ap length (sym is_one.same);
    }

    -- so these are partings of the ends of the pipe
    pub has_partings : HasPartings i p s t hats
    has_partings = record {
      rules = is;
      live = ap (λ n. pipe_named i n) own_name ∙ live;
      ends = right_ends;
      live_a = live_a;
      live_b = live_b;
      pairs = right_pairs;
      parts_a = subst (ArePartsAt (graph i) p.a) (sym parted.first_end.same) are_a;
      parts_b = subst (ArePartsAt (graph i) p.b) (sym parted.second_end.same) are_b;
      parted = record {
        first_end = own pa s parted.first_end;
        second_end = own pb t parted.second_end;
        new_verts = parted.new_verts;
        new_pipes = parted.new_pipes;
      };
      hats_new = new;
      hats_each = size;
    }

    -- the pairs fit the partings
    pub pairs_fit : FitPairs p.pairs hats s t
    pairs_fit = fit_pairs i p s t hats has_partings

    -- the rewrite performs the step
    pub joining_performs : length (vert_names i) < 2 ^ 60 → length (edge_names i) < 2 ^ 60
        → Performs i (Join pipe) (joining pipe (p.a, p.b) p.pairs s t hats)
    joining_performs few_verts few_edges =
        subst (λ n. Performs i (Join n) (joining n (p.a, p.b) p.pairs s t hats)) own_name
        (Performs-joining i p s t hats has_partings few_verts few_edges)

  -- the same by what the board tells
  module _ (ends : ℕ × ℕ) (pairs : List (ℕ × ℕ)) (same_ends : ends ≡ pipe_ends_of i pipe)
      (same_pairs : pairs ≡ pairs_of i pipe)
      (pa pb : List (List ℕ)) (s t : Parting) (hats : List ℕ) (are_a : ArePartsAt (graph i) ends.0 pa)
      (are_b : ArePartsAt (graph i) ends.1 pb) (parted : AreParted i pa pb s t)
      (asked : hats ≡ new_names (edge_names i) (length pairs)) where
    -- the ends that are told are those of the pipe
    are_ends : ends ≡ (p.a, p.b)
    are_ends = same_ends ∙ told_ends

    -- and so are the pairs
    are_pairs : pairs ≡ p.pairs
    are_pairs = same_pairs ∙ told_pairs

    -- there are as many new edges as pairs
    hats_size : length hats ≡ length p.pairs
    hats_size = ap length asked ∙ length-new_names (edge_names i) (length pairs) ∙ ap length are_pairs

    -- the parts are those of the first end
    first_parts : ArePartsAt (graph i) p.a pa
    first_parts = subst (λ (x : ℕ × ℕ). ArePartsAt (graph i) x.0 pa) are_ends are_a

    -- and of the second
    second_parts : ArePartsAt (graph i) p.b pb
    second_parts = subst (λ (x : ℕ × ℕ). ArePartsAt (graph i) x.1 pb) are_ends are_b

    -- the partings are those of the pipe
    pub told_partings : HasPartings i p s t hats
    told_partings = has_partings pa pb s t hats first_parts second_parts parted hats_size
        (AreNew-asked (edge_names i) hats (length pairs) asked)

    -- so the pairs fit the partings
    pub told_fit : FitPairs pairs hats s t
    told_fit = subst (λ xs. FitPairs xs hats s t) (sym are_pairs)
        (pairs_fit pa pb s t hats first_parts second_parts parted hats_size (AreNew-asked (edge_names i) hats (length pairs) asked))

    -- and the rewrite performs the step
    pub told_performs : length (vert_names i) < 2 ^ 60 → length (edge_names i) < 2 ^ 60
        → Performs i (Join pipe) (joining pipe ends pairs s t hats)
    told_performs few_verts few_edges =
        subst₂ (λ es xs. Performs i (Join pipe) (joining pipe es xs s t hats)) (sym are_ends) (sym are_pairs)
        (joining_performs pa pb s t hats first_parts second_parts parted hats_size
        (AreNew-asked (edge_names i) hats (length pairs) asked) few_verts few_edges)
