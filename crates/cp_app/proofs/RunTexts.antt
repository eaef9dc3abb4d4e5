-- The run that solves the skeletons of a graph, and its text.
use Rattle.std.proofs.Common.{◌≡◌, ℕ, ◌+◌, ◌^◌, ◌<◌, ◌≤◌, List, [], length, refl, sym, subst, arith}
use Rattle.std.specs.List.{All}
use Rattle.std.proofs.lemmas.List.Elements.{All-nil}
use Rattle.cp_cgraph.specs.Clustered.{Clustered, IsClustered}
use Rattle.cp_board.specs.declared.steps.Step.{Step}
use Rattle.cp_board.specs.Instances.{IsSynchronized, Synchronized, edge_names}
use Rattle.cp_board.specs.Solutions.{list_in}
use Rattle.cp_sync.specs.declared.outcome.Outcome.{Outcome}
use Rattle.cp_sync.specs.declared.outcome.Outcome.TheVariants.{Solved, Failed}
use Rattle.cp_board.specs.Runs.{potential}
use Rattle.cp_runlaw.proofs.RunLemmas.{run_short}
use Rattle.cp_drive.specs.Driving.{IsOutcome, IsRunFrom}
use Rattle.cp_drive.specs.declared.run.Run.{Run}
use Rattle.cp_skel.specs.Skeletons.{skeletons}
use Rattle.cp_skel.proofs.PlanarSkeletons.{planar_exactly}
use Rattle.cp_trace.specs.Traces.{AreNumbers, IsTextOf, reason_numbers, reason_of, run_of, step_numbers}
use Rattle.cp_app.specs.Answer.{IsEndOfRun, IsTraceOf}
use Rattle.cp_app.proofs.ToldNumbers.{reason-fits, run-fits}

-- the numbers of the steps fit
pub steps-fit : (first : Synchronized) (run : Run) (steps : List Step) → steps ≡ run.steps → IsRunFrom first run
    → All (λ step. AreNumbers (step_numbers step)) steps
steps-fit first run steps same is =
    subst (λ xs. All (λ step. AreNumbers (step_numbers step)) xs) (sym same) (run-fits run.last first run.steps is.ruled)

-- so do those of the outcome, where the edges are few
pub outcome-fits : (first last : Synchronized) (o : Outcome) → IsSynchronized last → length (edge_names last) < 2 ^ 63
    → IsOutcome first last o → AreNumbers (reason_numbers (reason_of o))
outcome-fits first last (Solved s) is few w = All-nil (λ (n : ℕ). n < 2 ^ 63)
outcome-fits first last (Failed reason) is few w = reason-fits last is few reason w.0

-- the outcome tells whether the graph is c-planar
outcome-ends : (g : Clustered) (last : Synchronized) (o : Outcome) → IsClustered g → IsOutcome (skeletons g) last o
    → IsEndOfRun g last (reason_of o)
outcome-ends g last (Solved s) is w = (w.0, (planar_exactly g is).1 (list_in s, w.1.solves))
outcome-ends g last (Failed reason) is w = (w.0, λ planar. w.1 ((planar_exactly g is).0 planar))

-- a part of a sum is at most what the sum is at most
at_most : (a b c : ℕ) → a + b ≤ c → a ≤ c
at_most a b c le = omega (arith, le)

-- the text of the run is a trace of the graph
pub told-IsTraceOf : (g : Clustered) (first : Synchronized) (run : Run) (steps : List Step) (text : List ℕ)
    → IsClustered g → first ≡ skeletons g → steps ≡ run.steps → IsRunFrom first run
    → IsTextOf text (run_of first steps run.last run.outcome) → IsTraceOf g text
told-IsTraceOf g first run steps text is same told from of =
    let whole : IsRunFrom (skeletons g) run = subst (λ i. IsRunFrom i run) same from in (
      run_of (skeletons g) run.steps run.last run.outcome,
      record {
        first = refl;
        driven = whole.driven;
        few = at_most (length run.steps) (potential run.last) (potential (skeletons g))
            (run_short run.last (skeletons g) run.steps whole.ruled);
        end = outcome-ends g run.last run.outcome is whole.outcome;
      },
      subst (λ i. IsTextOf text (run_of i run.steps run.last run.outcome)) same
          (subst (λ xs. IsTextOf text (run_of first xs run.last run.outcome)) told of),
    )
