-- The numbers of a run fit into its text.
use Rattle.std.proofs.Common.{◌≡◌, ℕ, ◌^◌, ◌<◌, ◌≤◌, Bool, true, false, ◌||◌, cond, eqb, List, [], ◌∷◌, length, map, slice_index, refl, sym, ap, ◌∙◌, subst, inl, inr, ⊎_elim, arith}
use Rattle.std.specs.Prelude.{Option, None, Some, find, filter}
use Rattle.std.specs.List.{All, Contains}
use Rattle.std.specs.Option.{option_map, option_map_or}
use Rattle.std.proofs.lemmas.Bool.{cases_Bool, cond_both, cond-true, cond-false, eqb-true, false≢true}
use Rattle.std.proofs.lemmas.List.Elements.{All-contains, All-cons, All-head, All-nil, All-tail}
use Rattle.std.proofs.lemmas.List.Sorted.{IsPermutation-sym}
use Rattle.cp_lists.specs.CyclicLists.{Has}
use Rattle.cp_lists.proofs.DistinctLists.{Has-Contains, Has_at}
use Rattle.cp_lists.proofs.FilteredLists.{filter-Has}
use Rattle.cp_lists.proofs.PermutedLists.{Has-IsPermutation}
use Rattle.cp_base.specs.Shapes.{leaves}
use Rattle.cp_base.specs.declared.shape.Shape.{Shape}
use Rattle.cp_board.specs.declared.parts.Kind.{Kind}
use Rattle.cp_board.specs.declared.parts.Kind.TheVariants.{P, Q}
use Rattle.cp_board.specs.declared.parts.Pipe.{Pipe}
use Rattle.cp_board.specs.declared.parts.Vert.{Vert}
use Rattle.cp_board.specs.declared.steps.Reason.{Reason}
use Rattle.cp_board.specs.declared.steps.Reason.TheVariants.{NotPlanar, CyclesDiffer, BlocksCross, Conflict}
use Rattle.cp_board.specs.declared.steps.Step.{Step}
use Rattle.cp_board.specs.declared.steps.Step.TheVariants.{Small, FreePole, FusePoles, Toroidal, Join, Propagate}
use Rattle.cp_board.specs.Instances.{AreNames, HasRightEnds, IsSynchronized, Synchronized, edge_names, edges_of, graph, kind_of, pipe_at, pipe_named, pipe_names, vert_names}
use Rattle.cp_board.specs.Names.{rising}
use Rattle.cp_board.specs.Reasons.{HaveUnequalCycles, IsBlamed}
use Rattle.cp_board.specs.Runs.{IsRun}
use Rattle.cp_board.specs.Runs.IsRun.{more}
use Rattle.cp_board.specs.Steps.{Allowed, IsEnd, IsTurning}
use Rattle.cp_orbits.specs.Orbits.{CycleLength}
use Rattle.cp_board.proofs.NamedLists.{arranged}
use Rattle.cp_trace.specs.Traces.{AreNumbers, reason_numbers, step_numbers}
use Rattle.cp_app.proofs.CycleBounds.{cycle-le}

-- nothing is not something
None-other : {A : Type 0} (x : A) → None ≡ Some x → ⊥
None-other x e = false≢true (ap (λ o. option_map_or (λ z. true) o false) e)

-- what is found passes, and what holds of all holds of it
found : {A : Type 0} (t : A → Bool) (holds : A → Type 0) (xs : List A) (x : A) → All holds xs → find t xs ≡ Some x
    → holds x × (t x ≡ true)
found t holds [] x all e = absurd (None-other x e)
found t holds (y ∷ ys) x all e =
    ⊎_elim
    (λ b. let same : y ≡ x = ap (λ o. option_map_or (λ z. z) o y) (sym (cond-true (t y) (Some y) (find t ys) b) ∙ e) in
    (subst holds same (All-head holds y ys all), subst (λ z. t z ≡ true) same b))
    (λ b. found t holds ys x (All-tail holds y ys all) (sym (cond-false (t y) (Some y) (find t ys) b) ∙ e))
    (cases_Bool (t y))

-- the name of an item that is found is among the names
found-Has : {A : Type 0} (name : A → ℕ) (n : ℕ) (xs : List A) (x : A) → find (λ y. eqb (name y) n) xs ≡ Some x
    → Has n (map name xs)
found-Has name n [] x e = absurd (None-other x e)
found-Has name n (y ∷ ys) x e =
    ⊎_elim
    (λ b. inl (eqb-true (name y) n b))
    (λ b. inr (found-Has name n ys x (sym (cond-false (eqb (name y) n) (Some y) (find (λ z. eqb (name z) n) ys) b) ∙ e)))
    (cases_Bool (eqb (name y) n))

-- a kind comes from a vertex
of_kind : (o : Option Vert) (k : Kind) → option_map (λ v. v.kind) o ≡ Some k → (v : Vert) × (o ≡ Some v)
of_kind None k e = absurd (None-other k e)
of_kind (Some v) k e = (v, refl)

-- what holds of each item holds of all
all-from : (holds : ℕ → Type 0) (xs : List ℕ) → ((x : ℕ) → Has x xs → holds x) → All holds xs
all-from holds [] each = All-nil holds
all-from holds (x ∷ xs) each = All-cons holds x xs (each x (inl refl)) (all-from holds xs (λ y h. each y (inr h)))

-- a name among names fits
fits : (names : List ℕ) (n : ℕ) → AreNames names → Has n names → n < 2 ^ 63
fits names n are h = All-contains (λ m. m < 2 ^ 63) names n are.fit ((Has-Contains n names).0 h)

-- the number fits into the text
abbrev Fit : ℕ → Type 0
Fit n = n < 2 ^ 63

-- a list of one number
one : {x : ℕ} → Fit x → All Fit (x ∷ [])
one {x} a = All-cons Fit x [] a (All-nil Fit)

-- a list of two numbers
two : {x y : ℕ} → Fit x → Fit y → All Fit (x ∷ y ∷ [])
two {x} {y} a b = All-cons Fit x (y ∷ []) a (one b)

-- a list of three numbers
three : {x y z : ℕ} → Fit x → Fit y → Fit z → All Fit (x ∷ y ∷ z ∷ [])
three {x} {y} {z} a b c = All-cons Fit x (y ∷ z ∷ []) a (two b c)

-- items that pass a test are no more than all
passing-le : (t : ℕ → Bool) (xs : List ℕ) → length (filter t xs) ≤ length xs
passing-le t [] = omega arith
passing-le t (x ∷ xs) =
    let h = passing-le t xs in
    cond_both (t x) (x ∷ filter t xs) (filter t xs) (λ ys. length ys ≤ length (x ∷ xs)) (λ e. omega (arith, h))
    (λ e. omega (arith, h))

module _ (i : Synchronized) (is : IsSynchronized i) where
  -- the name of a vertex with a kind fits
  vert-fits : (v : ℕ) (k : Kind) → kind_of i v ≡ Some k → v < 2 ^ 63
  vert-fits v k e =
      let w = of_kind (find (λ x. eqb x.name v) i.verts) k e in
      fits (vert_names i) v is.verts_named (found-Has (λ x. x.name) v i.verts w.0 w.1)

  -- so does that of a pipe
  pipe-fits : (pipe : ℕ) (p : Pipe) → pipe_named i pipe ≡ Some p → pipe < 2 ^ 63
  pipe-fits pipe p e = fits (pipe_names i) pipe is.pipes_named (found-Has (λ x. x.name) pipe i.pipes p e)

  -- and that of an end of a pipe
  end-fits : (t : Pipe → Bool) (p : Pipe) → find t i.pipes ≡ Some p → (v : ℕ) → IsEnd p v → v < 2 ^ 63
  end-fits t p e v end =
      let right = (found t (HasRightEnds i.verts) i.pipes p is.ends_free e).0 in
      ⊎_elim
      (λ a. subst (λ n. n < 2 ^ 63) a (vert-fits p.a P right.free_a))
      (λ b. subst (λ n. n < 2 ^ 63) b (vert-fits p.b P right.free_b))
      end

  -- and that of a vertex with a pipe
  matched-fits : (v : ℕ) (q : Pipe) → pipe_at i v ≡ Some q → v < 2 ^ 63
  matched-fits v q e =
      let t = λ (x : Pipe). eqb x.a v || eqb x.b v in
      let passes = (found t (HasRightEnds i.verts) i.pipes q is.ends_free e).1 in
      end-fits t q e v (⊎_elim
      (λ a. inl (eqb-true q.a v a))
      (λ b. inr (eqb-true q.b v (sym (ap (λ z. z || eqb q.b v) b) ∙ passes)))
      (cases_Bool (eqb q.a v)))

  -- and that of an edge of a vertex
  edge-fits : (u e : ℕ) → Has e (edges_of i u) → e < 2 ^ 63
  edge-fits u e h = fits (edge_names i) e is.edges_named (filter-Has _ e (edge_names i) h).0

  -- the leaves of a shape are edges
  leaves-fit : (u : ℕ) (shape : Shape) → rising (shape.root ∷ leaves shape.body) ≡ edges_of i u
      → All (λ n. n < 2 ^ 63) (shape.root ∷ leaves shape.body)
  leaves-fit u shape e =
      let xs : List ℕ = shape.root ∷ leaves shape.body in
      all-from (λ n. n < 2 ^ 63) xs (λ x h. edge-fits u x
      (Has-IsPermutation x xs (edges_of i u) (IsPermutation-sym (edges_of i u) xs (arranged (edges_of i u) xs e)) h))

  -- the numbers of an allowed step fit
  step-fits : (step : Step) → Allowed i step → AreNumbers (step_numbers step)
  step-fits (Small pipe) w = one (pipe-fits pipe w.0 w.1)
  step-fits (FreePole pipe end pole) w =
      three (pipe-fits pipe w.0 w.1) (end-fits (λ x. eqb x.name pipe) w.0 w.1 end w.2.end) (vert-fits pole P w.2.free)
  step-fits (FusePoles pipe end pole) w =
      three (pipe-fits pipe w.0 w.1) (end-fits (λ x. eqb x.name pipe) w.0 w.1 end w.2.1.end)
      (matched-fits pole w.2.0 w.2.1.matched)
  step-fits (Toroidal pipe) w = one (pipe-fits pipe w.0 w.1)
  step-fits (Join pipe) w = one (pipe-fits pipe w.0 w.1)
  step-fits (Propagate pipe end shape) w =
      All-cons Fit pipe (end ∷ shape.root ∷ leaves shape.body) (pipe-fits pipe w.0 w.1)
      (All-cons Fit end (shape.root ∷ leaves shape.body) (end-fits (λ x. eqb x.name pipe) w.0 w.1 end w.2.end)
      (leaves-fit end shape w.2.leaves))

  -- the lengths of unequal cycles fit where the edges are few
  cycle-fits : (p : Pipe) (turning : ℕ → ℕ) → IsTurning i p turning → length (edge_names i) < 2 ^ 63 → (place a : ℕ)
      → place < length (edges_of i p.a) → CycleLength turning (slice_index (edges_of i p.a) place) a → a < 2 ^ 63
  cycle-fits p turning turns few place a lt cycle =
      let es = edges_of i p.a in
      let keeps : (z : ℕ) → Has z es → Has (turning z) es = λ z h.
      (Has-Contains (turning z) es).1 (turns z ((Has-Contains z es).0 h)).0 in
      let le = cycle-le turning es keeps (slice_index es place) a (Has_at es place lt) cycle in
      let less : length es ≤ length (edge_names i) = passing-le _ (edge_names i) in
      omega (arith, le, less, few)

  -- the numbers of a reason fit where the edges are few
  pub reason-fits : length (edge_names i) < 2 ^ 63 → (reason : Reason) → IsBlamed i reason
      → AreNumbers (reason_numbers (Some reason))
  reason-fits few (NotPlanar e) w = one (fits (edge_names i) e is.edges_named ((Has-Contains e (edge_names i)).1 w.live))
  reason-fits few (CyclesDiffer a b) w =
      let h = w.3 in
      two (cycle-fits w.0 h.turning h.is_turning few 0 a (omega (arith, h.within)) h.first)
      (cycle-fits w.0 h.turning h.is_turning few h.place b h.within h.other)
  reason-fits few (BlocksCross q) w = one (vert-fits q (Q w.2.cell w.2.psi) w.2.kind)
  reason-fits few Conflict w = All-nil Fit

-- the numbers of the steps of a run fit, where each instance keeps the rules
pub run-fits : (j i : Synchronized) (steps : List Step)
    → IsRun (λ before step. IsSynchronized before × Allowed before step) j i steps
    → All (λ step. AreNumbers (step_numbers step)) steps
run-fits j i [] run = All-nil (λ step. AreNumbers (step_numbers step))
run-fits j i (step ∷ steps) (more _ k _ _ may after rest) =
    All-cons (λ s. AreNumbers (step_numbers s)) step steps (step-fits i may.0 step may.1) (run-fits j k steps rest)
