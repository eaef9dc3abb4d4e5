-- The lines of drafts hold no line feeds, and the lines of a trace are allowed one behind the other.
use Rattle.std.proofs.Common.{◌≡◌, ℕ, ◌<◌, ◌^◌, codes, List, [], ◌∷◌, ◌++◌, map, refl, arith}
use Rattle.std.specs.Prelude.{Option, Some, None}
use Rattle.std.specs.List.{AllByRecursion}
use Rattle.std.proofs.lemmas.List.Elements.{All-from_recursion, recursion_from_All}
use Rattle.cp_lists.proofs.EachItem.{all-append}
use Rattle.cp_board.specs.declared.steps.Reason.{Reason}
use Rattle.cp_board.specs.declared.steps.Step.{Step}
use Rattle.cp_board.specs.Instances.{Synchronized, IsSynchronized}
use Rattle.cp_trace.specs.declared.trace.Trace.{Trace}
use Rattle.cp_trace.specs.Faults.{AreSmall, Begins, IsDraft, IsLine, IsToldEdge, IsToldInstance, IsToldPipe, IsToldStep, IsToldVert}
use Rattle.cp_trace.specs.Texts.{edge_line, end_line, instance_lines, pipe_line, step_line, trace_lines, vert_line}
use Rattle.cp_trace.specs.Traces.{AreNumbers, IsTrace, reason_numbers, step_numbers}
use Rattle.cp_trace.proofs.EndLines.{reason_line_free}
use Rattle.cp_trace.proofs.FeedFree.{key_free, step_line_free}
use Rattle.cp_trace.proofs.KeptTold.{kept_told}
use Rattle.cp_trace.proofs.LineWords.{all_free, edge_line_free, pipe_line_free, vert_line_free}

-- lines of one kind hold no line feed
rows_free : {A : Type 0} (spell : A → List ℕ) (Told : A → Type 0) → ((x : A) → Told x → IsLine (spell x))
    → (xs : List A)
    → AllByRecursion Told xs → AllByRecursion IsLine (map spell xs)
rows_free = all_free 10 (omega arith)

-- nor do those of an instance
instance_free : (i : Synchronized) → IsToldInstance i → AllByRecursion IsLine (instance_lines i)
instance_free i told =
    let verts : AllByRecursion IsLine (codes "instance" ∷ map vert_line i.verts) = (
      key_free (codes "instance") refl,
      rows_free vert_line IsToldVert vert_line_free i.verts told.verts.told,
    ) in
    all-append IsLine (codes "instance" ∷ map vert_line i.verts ++ map edge_line i.edges ++ map pipe_line i.pipes)
    (codes "instance end" ∷ [])
    (all-append IsLine (codes "instance" ∷ map vert_line i.verts ++ map edge_line i.edges) (map pipe_line i.pipes)
    (all-append IsLine (codes "instance" ∷ map vert_line i.verts) (map edge_line i.edges) verts
    (rows_free edge_line IsToldEdge edge_line_free i.edges told.edges.told))
    (rows_free pipe_line IsToldPipe pipe_line_free i.pipes told.pipes.told))
    (key_free (codes "instance end") refl, tt)

-- nor does the line that tells how a run ended
end_line_free : (r : Option Reason) → AreSmall (reason_numbers r) → IsLine (end_line r)
end_line_free None small = key_free (codes "solved") refl
end_line_free (Some r) small = reason_line_free r small

-- nor do those of a draft
pub draft_free : (t : Trace) → IsDraft t → AllByRecursion IsLine (trace_lines t)
draft_free t draft =
    let head : List (List ℕ) = codes "cplan-trace 1" ∷ instance_lines t.first in
    let end : AllByRecursion IsLine (end_line t.solved ∷ codes "end" ∷ []) =
    (end_line_free t.solved draft.reason, (key_free (codes "end") refl, tt)) in
    all-append IsLine (head ++ map step_line t.steps ++ instance_lines t.last) (end_line t.solved ∷ codes "end" ∷ [])
    (all-append IsLine (head ++ map step_line t.steps) (instance_lines t.last)
    (all-append IsLine head (map step_line t.steps)
    (key_free (codes "cplan-trace 1") refl, instance_free t.first draft.first)
    (rows_free step_line IsToldStep step_line_free t.steps draft.steps))
    (instance_free t.last draft.last)) end

-- the numbers of steps can be told
told_steps : (steps : List Step) → AllByRecursion (λ step. AreNumbers (step_numbers step)) steps
    → AllByRecursion IsToldStep steps
told_steps [] numbers = tt
told_steps (s ∷ steps) numbers =
    (recursion_from_All (λ n. n < 2 ^ 63) (step_numbers s) numbers.0, told_steps steps numbers.1)

-- and back
steps_numbers : (steps : List Step) → AllByRecursion IsToldStep steps
    → AllByRecursion (λ step. AreNumbers (step_numbers step)) steps
steps_numbers [] told = tt
steps_numbers (s ∷ steps) told =
    (All-from_recursion (λ n. n < 2 ^ 63) (step_numbers s) told.0, steps_numbers steps told.1)

-- a trace is a draft
pub trace_draft : (t : Trace) → IsTrace t → IsDraft t
trace_draft t is = record {
  first = kept_told t.first is.first;
  steps = told_steps t.steps (recursion_from_All (λ step. AreNumbers (step_numbers step)) t.steps is.steps);
  last = kept_told t.last is.last;
  reason = recursion_from_All (λ n. n < 2 ^ 63) (reason_numbers t.solved) is.reason;
}

-- a draft whose instances keep the five rules is a trace
pub draft_trace : (t : Trace) → IsDraft t → IsSynchronized t.first → IsSynchronized t.last → IsTrace t
draft_trace t draft first last = record {
  first = first;
  steps = All-from_recursion (λ step. AreNumbers (step_numbers step)) t.steps (steps_numbers t.steps draft.steps);
  last = last;
  reason = All-from_recursion (λ n. n < 2 ^ 63) (reason_numbers t.solved) draft.reason;
}

-- each front of its lines is allowed
pub trace_begins : (t : Trace) (lines later : List (List ℕ)) → IsTrace t → trace_lines t ≡ lines ++ later
    → Begins t lines
trace_begins t lines later is front = record {
  draft = trace_draft t is;
  later = later;
  front = front;
  first = λ le. is.first;
  last = λ le. is.last;
}
