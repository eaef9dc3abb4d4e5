-- The rewrite of FusePoles fits the instance, and gives what the step makes of it.
use Rattle.std.proofs.Common.{◌≡◌, ℕ, true, List, [], ◌∷◌, ◌++◌, map, sym, refl, ap, ◌∙◌, subst}
use Rattle.std.specs.Prelude.{Some}
use Rattle.std.specs.List.{Contains}
use Rattle.std.proofs.lemmas.List.Elements.{All-cons, All-nil}
use Rattle.cp_board.specs.declared.parts.Pipe.{Pipe}
use Rattle.cp_board.specs.declared.rewrite.Rewrite.{Rewrite}
use Rattle.cp_board.specs.declared.steps.Step.TheVariants.{FusePoles}
use Rattle.cp_board.specs.Instances.{IsSynchronized, Synchronized, graph, pipe_at, pipe_named, pipe_names, vert_names}
use Rattle.cp_board.specs.Changes.{other_pipes, pipes_by_name}
use Rattle.cp_board.specs.Effects.{IsFused}
use Rattle.cp_board.specs.Reductions.{Performs}
use Rattle.cp_board.specs.Rewrites.{IsRewriteOf, rewritten}
use Rattle.cp_board.specs.Steps.{Allowed, IsFusible}
use Rattle.cp_board.proofs.DroppedPipes.{rewritten_dropping}
use Rattle.cp_board.proofs.ListTests.{Distinct-from_test}
use Rattle.cp_poles.specs.Between.{IsAlongBond}
use Rattle.cp_poles.specs.Fused.{IsPipePast, fusing, pipe_past}
use Rattle.cp_poles.specs.Wanted.{partner_in}
use Rattle.cp_poles.proofs.AddedPipes.{IsSynchronized-with_pipe, names_distinct}
use Rattle.cp_poles.proofs.FoundItems.{Some-same}
use Rattle.cp_poles.proofs.FusedPipes.{FitsBeside-past, IsAlong-pairs, new_name, pairs-past}
use Rattle.cp_poles.proofs.FusiblePipes.{IsSynchronized-without_two, q_live, without_two}
use Rattle.cp_poles.proofs.NamedOrders.{by_name-last}
use Rattle.cp_poles.proofs.SmallPipes.{own_name}
use Rattle.cp_poles.proofs.SmallRewrites.{live_pipe}

-- the pipes p of the end u and q of its pole v, and the edges of u with those as which they go on
module _ (i : Synchronized) (pipe : ℕ) (p q : Pipe) (is : IsSynchronized i) (live : pipe_named i pipe ≡ Some p)
    (u v : ℕ) (fus : IsFusible i p q u v) (along : List (ℕ × ℕ)) (are : IsAlongBond (graph i) u v along) where
  -- the new pipe, the pipes that stay, and the rewrite
  abbrev r : Pipe
  r = pipe_past i p q u v along

  -- the pipes that stay
  abbrev others : List Pipe
  others = (without_two i p q).pipes

  -- the rewrite
  abbrev w : Rewrite
  w = fusing pipe q.name r

  -- the instance after the rewrite
  rewritten_fusing : rewritten w i ≡ record { verts = i.verts; edges = i.edges; pipes = pipes_by_name (r ∷ others) }
  rewritten_fusing =
      ap (λ z. record {
        verts = z.verts;
        edges = z.edges;
        pipes = pipes_by_name (other_pipes i (pipe ∷ q.name ∷ []) ++ r ∷ []);
      }) (rewritten_dropping i pipe is)
      ∙ ap (λ n. record {
        verts = i.verts;
        edges = i.edges;
        pipes = pipes_by_name (other_pipes i (n ∷ q.name ∷ []) ++ r ∷ []);
      }) (sym (own_name i pipe p is live))
      ∙ ap (λ ps. record { verts = i.verts; edges = i.edges; pipes = ps })
      (by_name-last (λ (x : Pipe). x.name) r others
      (Distinct-from_test (map (λ (x : Pipe). x.name) (r ∷ others))
      (names_distinct (without_two i p q) (IsSynchronized-without_two i pipe p q is live u v fus) r
      (FitsBeside-past i pipe p q is live u v fus along are))))

  -- keeps the rules
  rules_after : IsSynchronized (rewritten w i)
  rules_after = subst IsSynchronized (sym rewritten_fusing)
      (IsSynchronized-with_pipe (without_two i p q) (IsSynchronized-without_two i pipe p q is live u v fus) r
      (FitsBeside-past i pipe p q is live u v fus along are))

  -- the rewrite fits
  fusing_fits : IsRewriteOf i w
  fusing_fits = record {
    pipes_live = All-cons (Contains (pipe_names i)) pipe (q.name ∷ []) (live_pipe i pipe p live)
        (All-cons (Contains (pipe_names i)) q.name [] (live_pipe i q.name q (q_live i pipe p q is live u v fus))
        (All-nil (Contains (pipe_names i))));
    pipes_once = (((λ e. fus.another (e ∙ sym (own_name i pipe p is live))), tt), (tt, tt));
    verts_live = All-nil (Contains (vert_names i));
    verts_once = tt;
    moves = tt;
    kinds_live = All-nil _;
    kinds_once = tt;
    rules = rules_after;
    new_verts = refl;
    new_edges = refl;
    new_pipes = new_name i pipe p q is live u v fus along are;
    new_cells = refl;
  }

  -- what it makes of the instance
  fused_effect : IsFused i p q u v (rewritten w i)
  fused_effect = record {
    along = λ x. partner_in along true x;
    is_along = IsAlong-pairs i pipe p q is live u v fus along are;
    name = r.name;
    new_name = new_name i pipe p q is live u v fus along are;
    verts = ap (λ z. z.verts) rewritten_fusing;
    edges = ap (λ z. z.edges) rewritten_fusing;
    pipes = ap (λ z. z.pipes) rewritten_fusing
        ∙ ap (λ ps. pipes_by_name (record { name = r.name; a = r.a; b = r.b; pairs = ps } ∷ others))
        (sym (pairs-past i pipe p q is live u v fus along are));
  }

  -- so the rewrite performs the step
  pub fusing_performed : Performs i (FusePoles pipe u v) w
  fusing_performed = (fusing_fits, (p, live, (q, fus.matched, fused_effect)))

-- the rewrite that drops the two pipes and adds the one past the poles performs the step
pub Performs-fuse : (i : Synchronized) (pipe end pole other : ℕ) (r : Pipe) → IsSynchronized i
    → Allowed i (FusePoles pipe end pole) → (q : Pipe) → pipe_at i pole ≡ Some q → other ≡ q.name
    → IsPipePast i pipe end pole r → Performs i (FusePoles pipe end pole) (fusing pipe other r)
Performs-fuse i pipe u v other r is allowed q at named past =
    let same_p : allowed.0 ≡ past.first = Some-same allowed.0 past.first (sym allowed.1 ∙ past.first_named) in
    let same_q : allowed.2.0 ≡ past.second =
    Some-same allowed.2.0 past.second (sym allowed.2.1.matched ∙ past.second_at) in
    let fus : IsFusible i past.first past.second u v =
    subst (λ z. IsFusible i z past.second u v) same_p (subst (λ z. IsFusible i allowed.0 z u v) same_q allowed.2.1) in
    subst (λ n. Performs i (FusePoles pipe u v) (fusing pipe n r))
    (ap (λ z. z.name) (Some-same past.second q (sym past.second_at ∙ at)) ∙ sym named)
    (subst (λ z. Performs i (FusePoles pipe u v) (fusing pipe past.second.name z)) (sym past.is)
    (fusing_performed i pipe past.first past.second is past.first_named u v fus past.along past.is_along))
