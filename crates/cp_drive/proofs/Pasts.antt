-- A run so far is a run that the solver may take, and what it makes of an instance is solvable exactly where the
-- instance is.
use Rattle.std.proofs.Common.{◌≡◌, ℕ, ◌↔◌, List, [], ◌∷◌, ◌++◌, reverse, sym, subst, ◌+◌, ◌-◌, ◌<◌, ◌≤◌, Bool, true, ltb, length, get_or, take, ap, ◌∙◌, arith, refl}
use Rattle.std.specs.Prelude.{Some}
use Rattle.std.proofs.lemmas.Grind.{reverse_onto}
use Rattle.std.proofs.lemmas.Bool.{lt-ltb}
use Rattle.std.proofs.lemmas.List.{reverse-append, take_more}
use Rattle.std.proofs.lemmas.List.{reverse-reverse}
use Rattle.cp_base.specs.declared.shape.Shape.{Shape}
use Rattle.cp_board.specs.declared.steps.Step.{Step}
use Rattle.cp_board.specs.declared.steps.Step.TheVariants.{Small, FreePole, FusePoles, Toroidal, Join, Propagate}
use Rattle.cp_board.specs.Effects.{After}
use Rattle.cp_board.specs.Instances.{Synchronized, IsSynchronized}
use Rattle.cp_board.specs.Reductions.{KeepsSolvable}
use Rattle.cp_board.specs.Runs.{IsDrivenRun, IsRun}
use Rattle.cp_board.specs.Solutions.{IsSolvable}
use Rattle.cp_board.specs.Steps.{Allowed}
use Rattle.cp_runlaw.proofs.RunLemmas.{driven_snoc, run_snoc}
use Rattle.cp_runlaw.specs.SynchronizedRuns.{IsSynchronizedRun}
use Rattle.cp_store.specs.Histories.{present_of}
use Rattle.cp_sync.specs.declared.outcome.Outcome.TheVariants.{Failed}
use Rattle.cp_board.specs.declared.steps.Reason.{Reason}
use Rattle.cp_drive.specs.declared.run.Run.{Run}
use Rattle.cp_drive.specs.Driving.{IsOutcome, IsRunFrom}
use Rattle.cp_drive.specs.Pasts.{IsPast, IsStop, IsTaken}

-- a run so far is one that the solver may take
pub past-IsDrivenRun : (first : Synchronized) (steps : List Step) (history : List Synchronized)
    → IsPast first steps history
    → IsDrivenRun (present_of history) first (reverse steps)
past-IsDrivenRun first [] history same =
    subst (λ (h : List Synchronized). IsDrivenRun (present_of h) first []) (sym same) IsRun.done
past-IsDrivenRun first (step ∷ steps) history (before, kept, taken, past) =
    subst (IsDrivenRun (present_of history) first) (sym (reverse_onto steps step []))
    (driven_snoc (present_of before) (present_of history) first (reverse steps) step
    (past-IsDrivenRun first steps before past) taken.allowed taken.driven taken.after)

-- and each instance before a step keeps the rules
pub past-ruled : (first : Synchronized) (steps : List Step) (history : List Synchronized)
    → IsPast first steps history
    → IsSynchronizedRun (present_of history) first (reverse steps)
past-ruled first [] history same =
    subst (λ (h : List Synchronized). IsSynchronizedRun (present_of h) first []) (sym same) IsRun.done
past-ruled first (step ∷ steps) history (before, kept, taken, past) =
    subst (IsSynchronizedRun (present_of history) first) (sym (reverse_onto steps step []))
    (run_snoc (λ (i : Synchronized) (s : Step). IsSynchronized i × Allowed i s) (present_of before) (present_of history)
    first (reverse steps) step (past-ruled first steps before past) (taken.rules_before, taken.allowed) taken.after)

-- where steps keep what is solvable, so does a run so far
pub past-IsSolvable : ((i j : Synchronized) (step : Step) → IsTaken i step j → IsSolvable i ↔ IsSolvable j)
    → (first : Synchronized) (steps : List Step) (history : List Synchronized) → IsPast first steps history
    → IsSolvable first → IsSolvable (present_of history)
past-IsSolvable keeps first [] history same s =
    subst (λ (h : List Synchronized). IsSolvable (present_of h)) (sym same) s
past-IsSolvable keeps first (step ∷ steps) history (before, kept, taken, past) s =
    (keeps (present_of before) (present_of history) step taken).0 (past-IsSolvable keeps first steps before past s)

-- each step keeps what is solvable, by the laws of the kinds of step
pub taken-IsSolvable : ((pipe : ℕ) → KeepsSolvable (Small pipe))
    → ((pipe end pole : ℕ) → KeepsSolvable (FreePole pipe end pole))
    → ((pipe end pole : ℕ) → KeepsSolvable (FusePoles pipe end pole))
    → ((pipe : ℕ) → KeepsSolvable (Toroidal pipe))
    → ((pipe : ℕ) → KeepsSolvable (Join pipe))
    → ((i j : Synchronized) → IsSynchronized i → IsSynchronized j → (pipe end : ℕ) → (shape : Shape)
    → Allowed i (Propagate pipe end shape) → After i (Propagate pipe end shape) j → IsSolvable i ↔ IsSolvable j)
    → (i j : Synchronized) (step : Step) → IsTaken i step j → IsSolvable i ↔ IsSolvable j
taken-IsSolvable small free fuse torus join propagate i j (Small pipe) t =
    small pipe i j t.rules_before t.allowed t.after
taken-IsSolvable small free fuse torus join propagate i j (FreePole pipe end pole) t =
    free pipe end pole i j t.rules_before t.allowed t.after
taken-IsSolvable small free fuse torus join propagate i j (FusePoles pipe end pole) t =
    fuse pipe end pole i j t.rules_before t.allowed t.after
taken-IsSolvable small free fuse torus join propagate i j (Toroidal pipe) t =
    torus pipe i j t.rules_before t.allowed t.after
taken-IsSolvable small free fuse torus join propagate i j (Join pipe) t =
    join pipe i j t.rules_before t.allowed t.after
taken-IsSolvable small free fuse torus join propagate i j (Propagate pipe end shape) t =
    propagate i j t.rules_before t.rules_after pipe end shape t.allowed t.after

-- the reason for which a run stops is its outcome
pub stop-IsOutcome : ((i j : Synchronized) (step : Step) → IsTaken i step j → IsSolvable i ↔ IsSolvable j)
    → (first : Synchronized) (steps : List Step) (history : List Synchronized) → IsPast first steps history
    → (reason : Reason) → IsStop (present_of history) (Some reason)
    → IsOutcome first (present_of history) (Failed reason)
stop-IsOutcome keeps first steps history past reason stop =
    (stop.0, (λ s. stop.1 (past-IsSolvable keeps first steps history past s)), stop.1)

-- a run so far with its outcome
pub past-IsRunFrom : (first : Synchronized) (run : Run) (history : List Synchronized)
    → IsPast first (reverse run.steps) history → run.last ≡ present_of history
    → IsOutcome first (present_of history) run.outcome → IsRunFrom first run
past-IsRunFrom first run history past same outcome =
    let twice : reverse (reverse run.steps) ≡ run.steps = reverse-reverse run.steps in
    let driven : IsDrivenRun (present_of history) first run.steps = subst (IsDrivenRun (present_of history) first) twice
    (past-IsDrivenRun first (reverse run.steps) history past) in
    let ruled : IsSynchronizedRun (present_of history) first run.steps =
    subst (IsSynchronizedRun (present_of history) first) twice (past-ruled first (reverse run.steps) history past) in
    record {
      driven = subst (λ (j : Synchronized). IsDrivenRun j first run.steps) (sym same) driven;
      ruled = subst (λ (j : Synchronized). IsSynchronizedRun j first run.steps) (sym same) ruled;
      outcome = subst (λ (j : Synchronized). IsOutcome first j run.outcome) (sym same) outcome;
    }

-- a run so far has some instance
past-some : (first : Synchronized) (steps : List Step) (history : List Synchronized) → IsPast first steps history
    → 0 < length history
past-some first [] history same = let n = ap length same in omega (arith, n)
past-some first (step ∷ steps) history (before, kept, taken, past) = let n = ap length kept in omega (arith, n)

-- the last step of a run so far is undone
pub undone : (first : Synchronized) (step : Step) (steps : List Step) (old new : List Synchronized) (answer : Bool)
    → IsPast first (step ∷ steps) old → (answer ≡ true → old ≡ present_of old ∷ new) → answer ≡ ltb 1 (length old)
    → IsTaken (present_of new) step (present_of old) × IsPast first steps new
undone first step steps old new answer (before, kept, taken, past) some told =
    let size = ap length kept in
    let more = past-some first steps before past in
    let two : 1 < length old = omega (arith, size, more) in
    let both : present_of old ∷ new ≡ present_of old ∷ before = sym (some (told ∙ lt-ltb 1 (length old) two)) ∙ kept in
    let same : new ≡ before = cc in (
      subst (λ (h : List Synchronized). IsTaken (present_of h) step (present_of old)) (sym same) taken,
      subst (IsPast first steps) (sym same) past,
    )

-- the steps up to a place, the last one first
pub steps-back : (steps : List Step) (k : ℕ) (d : Step) → k < length steps
    → reverse (take (k + 1) steps) ≡ get_or steps k d ∷ reverse (take k steps)
steps-back steps k d lt =
    ap reverse (take_more steps k d lt) ∙ reverse-append (take k steps) (get_or steps k d ∷ [])

-- without a step the present instance is the first
pub past-first : (first : Synchronized) (history : List Synchronized) → IsPast first [] history
    → present_of history ≡ first
past-first first history same = ap present_of same

-- the last of the first steps is undone
pub back-one : (first : Synchronized) (steps : List Step) (left : ℕ) (step : Step) (old new : List Synchronized)
    (answer : Bool) → 0 < left → left ≤ length steps → IsPast first (reverse (take left steps)) old
    → step ≡ get_or steps (left - 1) step → (answer ≡ true → old ≡ present_of old ∷ new)
    → answer ≡ ltb 1 (length old)
    → IsTaken (present_of new) step (present_of old) × IsPast first (reverse (take (left - 1) steps)) new
back-one first steps left step old new answer pos within past is some told =
    let k : ℕ = left - 1 in
    let e : left ≡ k + 1 = omega (arith, pos) in
    let back : reverse (take left steps) ≡ step ∷ reverse (take k steps) =
    ap (λ n. reverse (take n steps)) e ∙ steps-back steps k step (omega (arith, pos, within))
    ∙ ap (λ x. x ∷ reverse (take k steps)) (sym is) in
    undone first step (reverse (take k steps)) old new answer
    (subst (λ (l : List Step). IsPast first l old) back past) some told
