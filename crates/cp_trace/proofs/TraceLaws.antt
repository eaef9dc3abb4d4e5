-- Each bytes are the text of one run, or are at fault at one line.
use Rattle.std.proofs.Common.{◌≡◌, ◌⊎◌, ℕ, zero, suc, ◌+◌, ◌≤◌, List, [], ◌∷◌, ◌++◌, length, inl, inr, refl, sym, ap, ◌∙◌, subst, arith, append_assoc, length-append}
use Rattle.std.specs.Prelude.{Option}
use Rattle.std.specs.List.{AllByRecursion}
use Rattle.std.proofs.lemmas.List.{append-nil}
use Rattle.cp_board.specs.declared.steps.Reason.{Reason}
use Rattle.cp_board.specs.declared.steps.Step.{Step}
use Rattle.cp_board.specs.Instances.{Synchronized}
use Rattle.cp_trace.specs.declared.trace.Trace.{Trace}
use Rattle.cp_trace.specs.Faults.{AreAllowed, IsFaultAt, IsLine, IsToldStep, lines_behind_first, lines_behind_last}
use Rattle.cp_trace.specs.Texts.{instance_lines, step_line, text_of, trace_lines}
use Rattle.cp_trace.specs.Traces.{IsTextOf}
use Rattle.cp_trace.proofs.CutLemmas.{cut_unique}
use Rattle.cp_trace.proofs.DraftLines.{draft_free, trace_draft}
use Rattle.cp_trace.proofs.InstanceLines.{Same, first_line, lines_after, text-append}
use Rattle.cp_trace.proofs.RunLines.{head_of_step, instance_same, rows_same, trace_grouped}
use Rattle.cp_trace.proofs.RunReads.{text_compare}
use Rattle.cp_trace.proofs.RunStops.{no_line_yet, run_with, text_headed}
use Rattle.cp_trace.proofs.StepSame.{end_same, step_same}
use Rattle.cp_trace.proofs.ToldLists.{all_at, all_front}

-- runs of the same parts are the same
parts_same : (t s : Trace) → t.first ≡ s.first → t.steps ≡ s.steps → t.last ≡ s.last → t.solved ≡ s.solved → t ≡ s
parts_same t s first steps last solved =
    let one : t ≡ run_with s.first t.steps t.last t.solved =
    ap (λ (i : Synchronized). run_with i t.steps t.last t.solved) first in
    let two : run_with s.first t.steps t.last t.solved ≡ run_with s.first s.steps t.last t.solved =
    ap (λ (xs : List Step). run_with s.first xs t.last t.solved) steps in
    let three : run_with s.first s.steps t.last t.solved ≡ run_with s.first s.steps s.last t.solved =
    ap (λ (i : Synchronized). run_with s.first s.steps i t.solved) last in
    let four : run_with s.first s.steps s.last t.solved ≡ s =
    ap (λ (r : Option Reason). run_with s.first s.steps s.last r) solved in
    one ∙ two ∙ three ∙ four

-- a text tells one run
pub same_run : (bytes : List ℕ) (t s : Trace) → IsTextOf bytes t → IsTextOf bytes s → t ≡ s
same_run bytes t s it is =
    let dt = trace_draft t it.trace in
    let ds = trace_draft s is.trace in
    let cut = text_compare (trace_lines t) (trace_lines s) [] (draft_free t dt) (draft_free s ds)
    (sym it.spelled ∙ is.spelled ∙ sym (append-nil (text_of (trace_lines s)))) in
    let lines : trace_lines t ≡ trace_lines s = cut.1 ∙ ap (λ ls. trace_lines s ++ ls) (no_lines cut.0 cut.2)
    ∙ append-nil (trace_lines s) in
    let first = instance_same t.first s.first (lines_behind_first t) (lines_behind_first s) dt.first ds.first
    (ap lines_after (sym (trace_grouped t) ∙ lines ∙ trace_grouped s)) in
    let steps = rows_same step_line IsToldStep 115 head_of_step step_same t.steps s.steps
    (instance_lines t.last ++ lines_behind_last t) (instance_lines s.last ++ lines_behind_last s) dt.steps ds.steps
    (λ e. let f : Same 105 115 = e in omega arith) (λ e. let f : Same 105 115 = e in omega arith) first.1 in
    let last = instance_same t.last s.last (lines_behind_last t) (lines_behind_last s) dt.last ds.last steps.1 in
    parts_same t s first.0 steps.0 last.0
    (end_same t.solved s.solved dt.reason ds.reason (ap first_line last.1))
  where
    no_lines : (ls : List (List ℕ)) → [] ≡ text_of ls → ls ≡ []
    no_lines [] h = refl
    no_lines ([] ∷ ls) h = absurd cc
    no_lines ((b ∷ bs) ∷ ls) h = absurd cc

-- a front of lines that are allowed is allowed
front_allowed : (before more : List (List ℕ)) → AreAllowed (before ++ more) → AreAllowed before
front_allowed before more (t, b) = (
  t,
  record {
    draft = b.draft;
    later = more ++ b.later;
    front = b.front ∙ append_assoc before more b.later;
    first = λ le. b.first (omega (arith, le, length-append more b.later));
    last = λ le. b.last (omega (arith, le, length-append more b.later));
  },
)

-- lines that are allowed are lines
allowed_lines : (before : List (List ℕ)) → AreAllowed before → AllByRecursion IsLine before
allowed_lines before (t, b) =
    all_front IsLine before b.later (subst (AllByRecursion IsLine) b.front (draft_free t b.draft))

-- lines that are allowed stand before those at which a fault stops, or are they
not_behind : (bytes : List ℕ) (line : ℕ) (f : IsFaultAt bytes line) (next : List ℕ) (more : List (List ℕ))
    (rest : List ℕ) → IsLine next → AreAllowed (f.before ++ next ∷ more) → f.rest ≡ text_of (next ∷ more) ++ rest → ⊥
not_behind bytes line f next more rest whole allowed h =
    f.stops next (text_of more ++ rest) whole (h ∙ text_headed next rest more)
    (front_allowed (f.before ++ next ∷ []) more
    (subst AreAllowed (sym (append_assoc f.before (next ∷ []) more)) allowed))

-- of two texts of lines that begin alike one goes on behind the other
texts_compare : (xs ys : List (List ℕ)) (a b : List ℕ) → AllByRecursion IsLine xs → AllByRecursion IsLine ys
    → text_of xs ++ a ≡ text_of ys ++ b
    → ((more : List (List ℕ)) × (ys ≡ xs ++ more) × (a ≡ text_of more ++ b))
    ⊎ ((more : List (List ℕ)) × (xs ≡ ys ++ more) × (b ≡ text_of more ++ a))
texts_compare [] ys a b lx ly h = inl (ys, refl, h)
texts_compare (x ∷ xs) [] a b lx ly h = inr (x ∷ xs, refl, sym h)
texts_compare (x ∷ xs) (y ∷ ys) a b lx ly h =
    let both = cut_unique 10 x y (text_of xs ++ a) (text_of ys ++ b) lx.0 ly.0
    (sym (text_headed x a xs) ∙ h ∙ text_headed y b ys) in
    elim (texts_compare xs ys a b lx.1 ly.1 both.1) [
      | inl l ↦ inl (l.0, ap (λ z. z ∷ ys) (sym both.0) ∙ ap (λ zs. x ∷ zs) l.1, l.2)
      | inr m ↦ inr (m.0, ap (λ z. z ∷ xs) both.0 ∙ ap (λ zs. y ∷ zs) m.1, m.2)
    ]

-- of two faults none stands behind the other
ordered : (bytes : List ℕ) (a b : ℕ) (f : IsFaultAt bytes a) (g : IsFaultAt bytes b) (more : List (List ℕ))
    → g.before ≡ f.before ++ more → f.rest ≡ text_of more ++ g.rest → a ≡ b
ordered bytes a b f g [] lines text =
    f.place ∙ ap (λ (ls : List (List ℕ)). length ls + 1) (sym (lines ∙ append-nil f.before)) ∙ sym g.place
ordered bytes a b f g (next ∷ more) lines text =
    absurd (not_behind bytes a f next more g.rest
    (all_at_front (subst (AllByRecursion IsLine) lines (allowed_lines g.before g.allowed)))
    (subst AreAllowed lines g.allowed) text)
  where
    all_at_front : AllByRecursion IsLine (f.before ++ next ∷ more) → IsLine next
    all_at_front all = all_at IsLine f.before next more all

-- bytes are at fault at one line
pub same_fault : (bytes : List ℕ) (a b : ℕ) → IsFaultAt bytes a → IsFaultAt bytes b → a ≡ b
same_fault bytes a b f g =
    elim (texts_compare f.before g.before f.rest g.rest (allowed_lines f.before f.allowed)
    (allowed_lines g.before g.allowed) (sym f.front ∙ g.front)) [
      | inl l ↦ ordered bytes a b f g l.0 l.1 l.2
      | inr m ↦ sym (ordered bytes b a g f m.0 m.1 m.2)
    ]

-- bytes are the text of a run or at fault
abbrev HasReading : List ℕ → Type 0
HasReading bytes = ((t : Trace) × IsTextOf bytes t) ⊎ ((line : ℕ) × IsFaultAt bytes line)

-- where no further line may stand behind lines that are allowed the bytes have a reading
stopped_reading : (bytes : List ℕ) (before : List (List ℕ)) (rest : List ℕ) → bytes ≡ text_of before ++ rest
    → AreAllowed before → ((next after : List ℕ) → rest ≡ next ++ 10 ∷ after → AreAllowed (before ++ next ∷ []) → ⊥)
    → ¬ HasReading bytes → ⊥
stopped_reading bytes before rest front allowed stops none =
    none (inr (
      length before + 1,
      record {
        before = before;
        rest = rest;
        front = front;
        allowed = allowed;
        stops = λ next after whole cut. stops next after cut;
        no_trace = λ t is. none (inl (t, is));
        place = refl;
      },
    ))

-- behind lines that are allowed no bytes are without a reading
reading_behind : (n : ℕ) (bytes : List ℕ) (before : List (List ℕ)) (rest : List ℕ) → length rest ≤ n
    → bytes ≡ text_of before ++ rest → AreAllowed before → ¬ HasReading bytes → ⊥
reading_behind zero bytes before rest short front allowed none =
    stopped_reading bytes before rest front allowed (λ next after cut more.
    omega (arith, short, ap (length {A = ℕ}) cut, length-append next (10 ∷ after))) none
reading_behind (suc n) bytes before rest short front allowed none =
    stopped_reading bytes before rest front allowed (λ next after cut more.
    reading_behind n bytes (before ++ next ∷ []) after
    (omega (arith, short, ap (length {A = ℕ}) cut, length-append next (10 ∷ after)))
    (front ∙ ap (λ t. text_of before ++ t) (cut ∙ sym (text_headed next after []))
    ∙ sym (text-append before (next ∷ []) after))
    more none) none

-- no bytes are without a reading
pub some_reading : (bytes : List ℕ) → ¬ HasReading bytes → ⊥
some_reading bytes = reading_behind (length bytes) bytes [] bytes (omega arith) refl no_line_yet
