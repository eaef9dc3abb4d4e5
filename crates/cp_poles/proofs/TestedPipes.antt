-- What tests find out of a board by its calls.
use Rattle.std.proofs.Common.{◌≡◌, ◌≢◌, ℕ, false, List, [], ◌∷◌, length, sym, refl, ap, ◌∙◌, subst, ⊎_elim, eqb, arith}
use Rattle.std.specs.Prelude.{Option, None, Some, find}
use Rattle.std.specs.List.{Contains}
use Rattle.std.specs.Option.{option_map, option_map_or}
use Rattle.std.proofs.lemmas.Bool.{cases_Bool, cond-false, cond-true, eqb-false, false≢true}
use Rattle.cp_lists.proofs.DistinctLists.{Has-Contains}
use Rattle.cp_board.specs.declared.parts.Kind.{Kind}
use Rattle.cp_board.specs.declared.parts.Kind.TheVariants.{P, Q}
use Rattle.cp_board.specs.declared.parts.Pipe.{Pipe}
use Rattle.cp_board.specs.declared.parts.Vert.{Vert}
use Rattle.cp_board.specs.Instances.{Synchronized, IsSynchronized, is_q_kind, kind_in, names_of_verts, pairs_of, pipe_at, pipe_ends_of, pipe_named, pipe_names, vert_names}
use Rattle.cp_board.specs.Runs.{IsGreatestName}
use Rattle.cp_board.specs.Steps.{degree}
use Rattle.cp_poles.proofs.FoundItems.{None-other, Some-same}
use Rattle.cp_poles.proofs.FusiblePipes.{pole_named}
use Rattle.cp_poles.proofs.SmallRewrites.{live_pipe}
use Rattle.cp_poles.proofs.KeptOrders.{ends_told}
use Rattle.cp_poles.proofs.SmallPipes.{live_a, live_b}

-- the greatest pipe is one
pub greatest_named : (i : Synchronized) (pipe : ℕ) → IsGreatestName i pipe → (p : Pipe) × (pipe_named i pipe ≡ Some p)
greatest_named i pipe w = (w.0, subst (λ n. pipe_named i n ≡ Some w.0) w.1 w.2.live)

-- the first end of the greatest pipe is a vertex
pub told_a : (i : Synchronized) (pipe : ℕ) → IsSynchronized i → IsGreatestName i pipe → (ends : ℕ × ℕ)
    → ends ≡ pipe_ends_of i pipe → Contains (vert_names i) ends.0
told_a i pipe is w ends asked =
    let g = greatest_named i pipe w in
    subst (λ (x : ℕ × ℕ). Contains (vert_names i) x.0) (sym (ends_told i pipe g.0 g.1 ends asked))
    (live_a i pipe g.0 is g.1)

-- and so is its second end
pub told_b : (i : Synchronized) (pipe : ℕ) → IsSynchronized i → IsGreatestName i pipe → (ends : ℕ × ℕ)
    → ends ≡ pipe_ends_of i pipe → Contains (vert_names i) ends.1
told_b i pipe is w ends asked =
    let g = greatest_named i pipe w in
    subst (λ (x : ℕ × ℕ). Contains (vert_names i) x.1) (sym (ends_told i pipe g.0 g.1 ends asked))
    (live_b i pipe g.0 is g.1)

-- a kind that is not that of a Q-vertex
free_kind : (k : Kind) → is_q_kind (Some k) ≡ false → Some k ≡ Some P
free_kind P e = refl
free_kind (Q cell psi) e = absurd (false≢true (sym e))

-- a vertex that is no Q-vertex is a P-vertex
pub kind_free : (vs : List Vert) (v : ℕ) → Contains (names_of_verts vs) v → is_q_kind (kind_in vs v) ≡ false
    → kind_in vs v ≡ Some P
kind_free [] v c e = absurd (omega (arith, c.1))
kind_free (x ∷ vs) v c e = ⊎_elim
    (λ b.
    let at : kind_in (x ∷ vs) v ≡ Some x.kind =
    ap (option_map (λ y. y.kind)) (cond-true (eqb x.name v) (Some x) (find (λ y. eqb y.name v) vs) b) in
    at ∙ free_kind x.kind (subst (λ o. is_q_kind o ≡ false) at e))
    (λ b.
    let at : kind_in (x ∷ vs) v ≡ kind_in vs v =
    ap (option_map (λ y. y.kind)) (cond-false (eqb x.name v) (Some x) (find (λ y. eqb y.name v) vs) b) in
    let differ = eqb-false x.name v b in
    let later : Contains (names_of_verts vs) v =
    (Has-Contains v (names_of_verts vs)).0
    (⊎_elim (λ e. absurd (omega (arith, e, differ))) (λ h. h)
    ((Has-Contains v (x.name ∷ names_of_verts vs)).1 c)) in
    at ∙ kind_free vs v later (subst (λ o. is_q_kind o ≡ false) at e))
    (cases_Bool (eqb x.name v))

-- what has no name is nothing
pub none_named : (o : Option Pipe) → option_map (λ p. p.name) o ≡ None → o ≡ None
none_named None e = refl
none_named (Some p) e = absurd (None-other p.name (sym e))

-- the pipe of a vertex, where its name is told
pub told-pipe : (o : Option Pipe) (n : ℕ) → option_map (λ p. p.name) o ≡ Some n
    → (q : Pipe) × (o ≡ Some q) × (q.name ≡ n)
told-pipe None n e = absurd (None-other n e)
told-pipe (Some q) n e = (q, refl, Some-same q.name n e)

-- the pipe of a pole, where its name and the number of its pairs are told
module _ (i : Synchronized) (is : IsSynchronized i) (pole other : ℕ)
    (told : option_map (λ p. p.name) (pipe_at i pole) ≡ Some other) where
  -- the pipe
  abbrev found : (q : Pipe) × (pipe_at i pole ≡ Some q) × (q.name ≡ other)
  found = told-pipe (pipe_at i pole) other told

  -- it is found under its name
  other_named : pipe_named i other ≡ Some found.0
  other_named = subst (λ n. pipe_named i n ≡ Some found.0) found.2 (pole_named i is pole found.0 found.1)

  -- so it is live
  pub other-live : Contains (pipe_names i) other
  other-live = live_pipe i other found.0 other_named

  -- it is another one with as many pairs
  pub other-fits : (pipe : ℕ) → other ≢ pipe → length (pairs_of i other) ≡ length (pairs_of i pipe)
      → (q : Pipe) × (pipe_at i pole ≡ Some q) × (q.name ≢ pipe) × (degree q ≡ length (pairs_of i pipe))
  other-fits pipe differ equal = (
    found.0,
    found.1,
    (λ e. differ (sym found.2 ∙ e)),
    sym (ap (λ o. length (option_map_or (λ (z : Pipe). z.pairs) o [])) other_named) ∙ equal,
  )
