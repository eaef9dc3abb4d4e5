-- The rewrite of Small fits the instance, and gives what the step makes of it.
use Rattle.std.proofs.Common.{◌≡◌, ◌≢◌, ℕ, ◌^◌, ◌<◌, Bool, true, false, not, cond, eqb, List, [], ◌∷◌, ◌++◌, length, map, sym, refl, ap, ◌∙◌, subst, arith}
use Rattle.std.specs.Prelude.{Some, None, filter}
use Rattle.std.specs.List.{Contains}
use Rattle.std.specs.Option.{option_map_or}
use Rattle.std.proofs.lemmas.Bool.{cond_both, cond-true, cond-false, eqb-true, eqb-false, eq-eqb, ne_eqb, or_left}
use Rattle.std.proofs.lemmas.List.{append-nil, length-map}
use Rattle.std.proofs.lemmas.List.Elements.{All-nil, All-cons, All-head, All-contains_itself}
use Rattle.cp_board.specs.declared.parts.Vert.{Vert}
use Rattle.cp_board.specs.declared.parts.Pipe.{Pipe}
use Rattle.cp_board.specs.declared.steps.Step.TheVariants.{Small}
use Rattle.cp_board.specs.Names.{has, by_name, AreNew}
use Rattle.cp_board.specs.Instances.{Synchronized, IsSynchronized, HasRightEnds, cells, pairs_of, pipe_ends_of, pipe_named, pipe_names, vert_names}
use Rattle.cp_board.specs.Changes.{other_pipes, IsWithoutPipe}
use Rattle.cp_board.specs.Rewrites.{rewritten, dropping, with_kinds, first_ones, cells_added, IsRewriteOf}
use Rattle.cp_board.specs.Reductions.{Performs}
use Rattle.cp_board.specs.Steps.{degree, Allowed}
use Rattle.cp_board.specs.Effects.{HasFixedEnds}
use Rattle.cp_board.proofs.DroppedPipes.{rewritten_dropping, IsRewriteOf-dropping, IsWithoutPipe-dropping}
use Rattle.cp_board.proofs.ListTests.{rises}
use Rattle.cp_board.proofs.NamedLists.{rises_from, by_name_same, filter_true}
use Rattle.cp_board.proofs.NewNames.{new_names-dead}
use Rattle.cp_poles.specs.Small.{fixed_ends, new_cell, kinds_after, setting}
use Rattle.cp_poles.proofs.FixedEnds.{fixed, fixed_vert, fixed_a, fixed_b, fixed_cases, names_fixed}
use Rattle.cp_poles.proofs.FixedRules.{IsSynchronized-fixed}
use Rattle.cp_poles.proofs.FoundItems.{All-found, All-unmapped}
use Rattle.cp_poles.proofs.NewCells.{one_new_name, one_new_name-le, rising_below, cells_fewer}
use Rattle.cp_poles.proofs.SmallPipes.{right_ends, own_name, live_a, live_b}

-- nothing is in a list without items
Contains-nil : (x : ℕ) → Contains [] x → ⊥
Contains-nil x c = omega (arith, c.1)

-- a live pipe
pub live_pipe : (i : Synchronized) (pipe : ℕ) (p : Pipe) → pipe_named i pipe ≡ Some p → Contains (pipe_names i) pipe
live_pipe i pipe p live =
    let w = All-found (λ x. eqb x.name pipe) (λ q. Contains (pipe_names i) q.name) i.pipes p
    (All-unmapped (Contains (pipe_names i)) (λ q. q.name) i.pipes (All-contains_itself (pipe_names i))) live in
    subst (Contains (pipe_names i)) (eqb-true p.name pipe w.1) w.0

module _ (i : Synchronized) (pipe : ℕ) (p : Pipe) (is : IsSynchronized i) (live : pipe_named i pipe ≡ Some p) where
  -- the ends of the pipe are right
  ends : HasRightEnds i.verts p
  ends = right_ends i pipe p is live

  -- the new cell
  abbrev cell : ℕ
  cell = new_cell i

  -- the vertices whose kinds are set
  abbrev kinds : List Vert
  kinds = fixed_a p cell ∷ fixed_b p cell ∷ []

  -- the cell is the least new one
  new : AreNew (cells i) (cell ∷ [])
  new = one_new_name (cells i)

  -- it is not live
  dead : has (cells i) cell ≡ false
  dead = All-head (λ n. has (cells i) n ≡ false) cell [] (new_names-dead (cells i) (cell ∷ []) new)

  -- it is small
  fits : cell < 2 ^ 63
  fits = omega (
    arith,
    one_new_name-le (cells i),
    cells_fewer i.verts p.a ends.free_a,
    rising_below (2 ^ 63)
        (vert_names i) (rises_from (vert_names i) is.verts_named.rise) is.verts_named.fit,
    length-map i.verts
        (λ (v : Vert). v.name),
  )

  -- the kinds that are set are those after the step
  with_fixed : (v : Vert) → with_kinds kinds v ≡ fixed_vert p cell v
  with_fixed v = fixed_cases p cell v (λ w. with_kinds kinds v ≡ w) ends.differ
      (λ e. ap (λ o. option_map_or (λ k. k) o v)
      (cond-true (eqb p.a v.name) (Some (fixed_a p cell)) (cond (eqb p.b v.name) (Some (fixed_b p cell)) None)
      (eq-eqb p.a v.name (sym e))))
      (λ e. ap (λ o. option_map_or (λ k. k) o v)
      (cond-false (eqb p.a v.name) (Some (fixed_a p cell)) (cond (eqb p.b v.name) (Some (fixed_b p cell)) None)
      (ne_eqb p.a v.name (λ h. ends.differ (h ∙ e))) ∙ cond-true (eqb p.b v.name) (Some (fixed_b p cell)) None
      (eq-eqb p.b v.name (sym e))))
      (λ na nb. ap (λ o. option_map_or (λ k. k) o v)
      (cond-false (eqb p.a v.name) (Some (fixed_a p cell)) (cond (eqb p.b v.name) (Some (fixed_b p cell)) None)
      (ne_eqb p.a v.name (λ h. na (sym h))) ∙ cond-false (eqb p.b v.name) (Some (fixed_b p cell)) None
      (ne_eqb p.b v.name (λ h. nb (sym h)))))

  -- and so for all vertices
  with_all : (vs : List Vert) → map (with_kinds kinds) vs ≡ map (fixed_vert p cell) vs
  with_all [] = refl
  with_all (v ∷ vs) = ap (λ w. w ∷ map (with_kinds kinds) vs) (with_fixed v) ∙ ap (λ ws. fixed_vert p cell v ∷ ws)
      (with_all vs)

  -- the names of the vertices rise
  abbrev names_rise : rises (vert_names i) ≡ true
  names_rise = rises_from (vert_names i) is.verts_named.rise

  -- the instance after the rewrite
  rewritten_setting : rewritten (setting pipe kinds) i ≡ fixed i p cell
  rewritten_setting =
      ap (λ z. record {
        verts = z;
        edges = (rewritten (dropping pipe) i).edges;
        pipes =
            (rewritten (dropping pipe) i).pipes;
      }) same_verts
      ∙ ap (λ z. record { verts = map (fixed_vert p cell) i.verts; edges = z.edges; pipes = z.pipes })
      (rewritten_dropping i pipe is)
      ∙ ap (λ n. record { verts = map (fixed_vert p cell) i.verts; edges = i.edges; pipes = other_pipes i (n ∷ []) })
      (sym (own_name i pipe p is live))
    where
      same_verts : by_name (λ v. v.name)
          (map (with_kinds kinds) (filter (λ v. not (has [] v.name)) (i.verts ++ []))) ≡ map (fixed_vert p cell) i.verts
      same_verts = ap (λ zs. by_name (λ v. v.name) (map (with_kinds kinds) zs))
          (filter_true (i.verts ++ []) ∙ append-nil i.verts)
          ∙ ap (by_name (λ v. v.name)) (with_all i.verts)
          ∙ by_name_same (λ v. v.name) (map (fixed_vert p cell) i.verts)
          (subst (λ ns. rises ns ≡ true) (sym (names_fixed p cell ends.differ i.verts)) names_rise)

  -- its one new cell
  added : cells_added (setting pipe kinds) i ≡ cell ∷ []
  added =
      cond-false (has (cells i) cell) (first_ones (cells i) (cell ∷ []))
      (cell ∷ first_ones (cell ∷ cells i) (cell ∷ [])) dead
      ∙ ap (λ zs. cell ∷ zs)
      (cond-true (has (cell ∷ cells i) cell) (first_ones (cell ∷ cells i) [])
      (cell ∷ first_ones (cell ∷ cell ∷ cells i) [])
      (or_left (eqb cell cell) (has (cells i) cell) (eq-eqb cell cell refl)))

  -- the rewrite fits
  fixed_fits : IsRewriteOf i (setting pipe kinds)
  fixed_fits = record {
    pipes_live = All-cons (Contains (pipe_names i)) pipe [] (live_pipe i pipe p live)
        (All-nil (Contains (pipe_names i)));
    pipes_once = (tt, tt);
    verts_live = All-nil (Contains (vert_names i));
    verts_once = tt;
    moves = tt;
    kinds_live = All-cons live_kind (fixed_a p cell) (fixed_b p cell ∷ [])
        (subst (λ ns. Contains ns p.a) (sym (append-nil (vert_names i))) (live_a i pipe p is live), Contains-nil p.a)
        (All-cons live_kind (fixed_b p cell) [] (
          subst (λ ns. Contains ns p.b) (sym (append-nil (vert_names i)))
              (live_b i pipe p is live),
          Contains-nil p.b,
        ) (All-nil live_kind));
    kinds_once = (((λ e. ends.differ (sym e)), tt), (tt, tt));
    rules = subst IsSynchronized (sym rewritten_setting) (IsSynchronized-fixed i pipe p is live cell fits);
    new_verts = refl;
    new_edges = refl;
    new_pipes = refl;
    new_cells = subst (AreNew (cells i)) (sym added) new;
  }
    where
      live_kind : Vert → Type 0
      live_kind v = Contains (vert_names i ++ []) v.name × (Contains [] v.name → ⊥)

  -- what it makes of the instance
  fixed_effect : HasFixedEnds i p (rewritten (setting pipe kinds) i)
  fixed_effect = record {
    cell = cell;
    new_cell = new;
    verts = ap (λ z. z.verts) rewritten_setting;
    edges = ap (λ z. z.edges) rewritten_setting;
    pipes = ap (λ z. z.pipes) rewritten_setting;
  }

  -- a pipe of three pairs: its ends get new kinds
  three_performed : degree p ≡ 3 → Performs i (Small pipe) (setting pipe kinds)
  three_performed three = (fixed_fits, (p, live, by_test (eqb (degree p) 3) (eq-eqb (degree p) 3 three)))
    where
      effect : Bool → Type 0
      effect b = elim b [
        | true ↦ HasFixedEnds i p (rewritten (setting pipe kinds) i)
        | false ↦ IsWithoutPipe i p.name
            (rewritten (setting pipe kinds) i)
      ]

      by_test : (b : Bool) → b ≡ true → effect b
      by_test b e = subst effect (sym e) fixed_effect

  -- a pipe of fewer pairs: only the pipe goes
  fewer_performed : degree p ≢ 3 → Performs i (Small pipe) (setting pipe [])
  fewer_performed other = (
    IsRewriteOf-dropping i pipe is (live_pipe i pipe p live),
    (p, live, by_test (eqb (degree p) 3) (ne_eqb (degree p) 3 other)),
  )
    where
      effect : Bool → Type 0
      effect b = elim b [
        | true ↦ HasFixedEnds i p (rewritten (dropping pipe) i)
        | false ↦ IsWithoutPipe i p.name
            (rewritten (dropping pipe) i)
      ]

      by_test : (b : Bool) → b ≡ false → effect b
      by_test b e = subst effect (sym e)
          (subst (λ n. IsWithoutPipe i n (rewritten (dropping pipe) i)) (sym (own_name i pipe p is live))
          (IsWithoutPipe-dropping i (rewritten (dropping pipe) i) pipe is refl))

  -- the board tells the pairs of the pipe
  told_pairs : pairs_of i pipe ≡ p.pairs
  told_pairs = ap (λ o. option_map_or (λ x. x.pairs) o []) live

  -- and the ends
  told_ends : pipe_ends_of i pipe ≡ (p.a, p.b)
  told_ends = ap (λ o. option_map_or (λ x. (x.a, x.b)) o (0, 0)) live

  -- the rewrite with these kinds performs the step
  pub kinds_performed : Performs i (Small pipe) (setting pipe (kinds_after i pipe))
  kinds_performed =
      cond_both (eqb (length (pairs_of i pipe)) 3) (fixed_ends (pipe_ends_of i pipe) (pairs_of i pipe) cell) []
      (λ ks. Performs i (Small pipe) (setting pipe ks))
      (λ e. subst (λ ks. Performs i (Small pipe) (setting pipe ks)) (sym told)
      (three_performed (sym (ap length told_pairs) ∙ eqb-true (length (pairs_of i pipe)) 3 e)))
      (λ e. fewer_performed (λ h. eqb-false (length (pairs_of i pipe)) 3 e (ap length told_pairs ∙ h)))
    where
      told : fixed_ends (pipe_ends_of i pipe) (pairs_of i pipe) cell ≡ kinds
      told = ap (λ z. fixed_ends z (pairs_of i pipe) cell) told_ends ∙ ap (λ z. fixed_ends (p.a, p.b) z cell) told_pairs

-- the rewrite that the call gives performs the step
pub Performs-small : (i : Synchronized) (pipe : ℕ) → IsSynchronized i → Allowed i (Small pipe)
    → Performs i (Small pipe) (setting pipe (kinds_after i pipe))
Performs-small i pipe is allowed = kinds_performed i pipe allowed.0 is allowed.1
