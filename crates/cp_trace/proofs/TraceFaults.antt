-- Which line of bytes that are no run is at fault.
use Rattle.std.proofs.Common.{◌≡◌, ℕ, Bool, true, eqb, codes, List, [], ◌∷◌, ◌++◌, length, map, refl, sym, ap, ◌∙◌, subst, arith, append_assoc, length-append}
use Rattle.std.specs.Prelude.{Option, None}
use Rattle.std.specs.List.{AllByRecursion}
use Rattle.std.proofs.lemmas.Bool.{eqb-true}
use Rattle.std.proofs.lemmas.List.{append-nil, nil_from_length}
use Rattle.cp_board.specs.declared.steps.Reason.{Reason}
use Rattle.cp_board.specs.declared.steps.Step.{Step}
use Rattle.cp_board.specs.Instances.{Synchronized, IsSynchronized}
use Rattle.cp_trace.specs.declared.trace.Trace.{Trace}
use Rattle.cp_trace.specs.Faults.{AreAllowed, AreSmall, Begins, IsDraft, IsLine, IsToldStep, lines_behind_first, lines_behind_last}
use Rattle.cp_trace.specs.Reading.{AreLines, GoesNoFurther, StopsInInstance, StopsInRun}
use Rattle.cp_trace.specs.Texts.{end_line, instance_lines, step_line, text_of, trace_lines, trace_text}
use Rattle.cp_trace.specs.Traces.{IsTextOf, IsTrace, reason_numbers}
use Rattle.cp_trace.proofs.DraftLines.{draft_free, draft_trace, trace_begins, trace_draft}
use Rattle.cp_trace.proofs.InstanceLines.{nothing, nothing_told, text-append}
use Rattle.cp_trace.proofs.KeptTold.{kept_told}
use Rattle.cp_trace.proofs.RunLines.{trace_grouped}
use Rattle.cp_trace.proofs.RunReads.{prefix_free, text_compare}
use Rattle.cp_trace.proofs.RunStops.{headed, lines_with, lines_with-append, no_line_yet, only_end, only_heading, only_last, run_with, stops_in_first, stops_in_last, text_headed}
use Rattle.cp_trace.proofs.ToldLists.{all_front}

-- a list that is found empty has no item
pub emptied : (b : Bool) (xs : List ℕ) → b ≡ eqb (length xs) 0 → b ≡ true → xs ≡ []
emptied b xs is holds = nil_from_length xs (eqb-true (length xs) 0 (sym is ∙ holds))

-- no line may stand behind those lines
abbrev NoneFollows : List (List ℕ) → List ℕ → Type 0
NoneFollows before rest = (next after : List ℕ) → rest ≡ next ++ 10 ∷ after → AreAllowed (before ++ next ∷ []) → ⊥

-- where a draft has these lines and goes on
module _ (bytes rest : List ℕ) (before : List (List ℕ)) (front : bytes ≡ text_of before ++ rest) (t : Trace)
    (due : List ℕ) (later : List (List ℕ)) (lines : trace_lines t ≡ before ++ due ∷ later) where
  -- the lines so far are whole lines
  whole_lines : IsDraft t → AllByRecursion IsLine before
  whole_lines draft = all_front IsLine before (due ∷ later) (subst (AllByRecursion IsLine) lines (draft_free t draft))

  -- bytes with no line more that may stand there are no trace
  no_trace_stops : IsDraft t → NoneFollows before rest → (s : Trace) → IsTextOf bytes s → ⊥
  no_trace_stops told none s is = by_more cut.0 cut.1 cut.2
    where
      draft : IsDraft s
      draft = trace_draft s is.trace

      cut : (more : List (List ℕ)) × (trace_lines s ≡ before ++ more) × (rest ≡ text_of more)
      cut = text_compare (trace_lines s) before rest (draft_free s draft) (whole_lines told) (sym is.spelled ∙ front)

      by_more : (more : List (List ℕ)) → trace_lines s ≡ before ++ more → rest ≡ text_of more → ⊥
      by_more [] same text =
          let none_due : due ∷ later ≡ [] = prefix_free t s (due ∷ later) told draft
          (lines ∙ ap (λ ls. ls ++ due ∷ later) (sym (same ∙ append-nil before))) in
          absurd (omega (arith, ap (length {A = List ℕ}) none_due))
      by_more (m ∷ more) same text =
          none m (text_of more) (text ∙ append_assoc m (10 ∷ []) (text_of more))
          (s, trace_begins s (before ++ m ∷ []) more is.trace (same ∙ sym (append_assoc before (m ∷ []) more)))

  -- so the next line is at fault
  stop_at : Begins t before → NoneFollows before rest → StopsInRun bytes rest
  stop_at b none = record {
    before = before;
    whole = whole_lines b.draft;
    front = front;
    fault = record {
      before = before;
      rest = rest;
      front = front;
      allowed = (t, b);
      stops = λ next after line cut. none next after cut;
      no_trace = no_trace_stops b.draft none;
      place = refl;
    };
  }

-- behind a whole trace each line is at fault
pub stop_behind : (bytes rest : List ℕ) (t : Trace) → IsTrace t → bytes ≡ trace_text t ++ rest → (rest ≡ [] → ⊥)
    → StopsInRun bytes rest
stop_behind bytes rest t is front some = record {
  before = trace_lines t;
  whole = draft_free t (trace_draft t is);
  front = front;
  fault = record {
    before = trace_lines t;
    rest = rest;
    front = front;
    allowed = (t, trace_begins t (trace_lines t) [] is (sym (append-nil (trace_lines t))));
    stops = λ next after line cut allowed.
        let s : Trace = allowed.0 in
        let b : Begins s (trace_lines t ++ next ∷ []) = allowed.1 in
        let none : next ∷ b.later ≡ [] = prefix_free s t (next ∷ b.later) b.draft (trace_draft t is)
        (b.front ∙ append_assoc (trace_lines t) (next ∷ []) b.later) in
        cc;
    no_trace = λ s other.
        let draft = trace_draft s other.trace in
        let cut = text_compare (trace_lines s) (trace_lines t) rest (draft_free s draft)
        (draft_free t (trace_draft t is)) (sym other.spelled ∙ front) in
        let none : cut.0 ≡ [] = prefix_free s t cut.0 draft (trace_draft t is) cut.1 in
        some (cut.2 ∙ ap text_of none);
    place = refl;
  };
}

-- without the heading the first line is at fault
pub stop_at_heading : (bytes : List ℕ) → ((after : List ℕ) → bytes ≡ codes "cplan-trace 1" ++ 10 ∷ after → ⊥)
    → StopsInRun bytes bytes
stop_at_heading bytes none =
    stop_at bytes bytes [] refl no_line_yet.0 (codes "cplan-trace 1")
    (instance_lines no_line_yet.0.first ++ lines_behind_first no_line_yet.0) (trace_grouped no_line_yet.0) no_line_yet.1
    (only_heading bytes none)

-- the text behind the heading
module _ (bytes inside : List ℕ) (heading : bytes ≡ codes "cplan-trace 1" ++ 10 ∷ inside) where
  -- where the first instance does not go on, the next line is at fault
  pub stop_in_first : (rest : List ℕ) → StopsInInstance inside rest → StopsInRun bytes rest
  stop_in_first rest stop =
      stop_at bytes rest (headed stop.before)
      (heading ∙ ap (λ t. codes "cplan-trace 1" ++ 10 ∷ t) stop.front
      ∙ sym (text_headed (codes "cplan-trace 1") rest stop.before))
      draft stop.next (stop.later ++ lines_behind_first draft) lines begun (stops_in_first inside rest stop)
    where
      draft : Trace
      draft = run_with stop.part [] nothing None

      lines : trace_lines draft ≡ headed stop.before ++ stop.next ∷ (stop.later ++ lines_behind_first draft)
      lines = trace_grouped draft
          ∙ ap headed (ap (λ ls. ls ++ lines_behind_first draft) stop.begun
          ∙ append_assoc stop.before (stop.next ∷ stop.later) (lines_behind_first draft))

      begun : Begins draft (headed stop.before)
      begun = record {
        draft = record { first = stop.told; steps = tt; last = nothing_told; reason = tt };
        later = stop.next ∷ (stop.later ++ lines_behind_first draft);
        front = lines;
        first = λ le. absurd (omega (arith, le, length-append stop.later (lines_behind_first draft)));
        last = λ le. absurd (omega (arith, le, length-append stop.later (lines_behind_first draft)));
      }

  -- behind the first instance and the steps
  module _ (first : Synchronized) (behind_first behind_steps : List ℕ) (steps : List Step)
      (rules : IsSynchronized first)
      (told : inside ≡ text_of (instance_lines first) ++ behind_first)
      (lines : AreLines step_line (AllByRecursion IsToldStep) behind_first steps behind_steps) where
    -- the text of the lines so far
    text_with : (more : List (List ℕ)) (rest : List ℕ) → behind_steps ≡ text_of more ++ rest
        → bytes ≡ text_of (lines_with first steps more) ++ rest
    text_with more rest behind =
        let steps_text : behind_first ≡ text_of (map step_line steps ++ more) ++ rest =
        lines.spelled ∙ ap (λ t. text_of (map step_line steps) ++ t) behind
        ∙ sym (text-append (map step_line steps) more rest) in
        heading ∙ ap (λ t. codes "cplan-trace 1" ++ 10 ∷ t)
        (told ∙ ap (λ t. text_of (instance_lines first) ++ t) steps_text
        ∙ sym (text-append (instance_lines first) (map step_line steps ++ more) rest))
        ∙ sym (text_headed (codes "cplan-trace 1") rest (instance_lines first ++ (map step_line steps ++ more)))

    -- where neither a step nor the last instance goes on, the next line is at fault
    pub stop_in_last : (rest : List ℕ) → StopsInInstance behind_steps rest
        → GoesNoFurther step_line (AllByRecursion IsToldStep) steps behind_steps → StopsInRun bytes rest
    stop_in_last rest stop none =
        stop_at bytes rest (lines_with first steps stop.before) (text_with stop.before rest stop.front) draft stop.next
        (stop.later ++ lines_behind_last draft) whole begun
        (stops_in_last behind_steps rest stop first steps (kept_told first rules) lines.may none)
      where
        draft : Trace
        draft = run_with first steps stop.part None

        whole : trace_lines draft
            ≡ lines_with first steps stop.before ++ stop.next ∷ (stop.later ++ lines_behind_last draft)
        whole = trace_grouped draft
            ∙ ap (lines_with first steps) (ap (λ ls. ls ++ lines_behind_last draft) stop.begun
            ∙ append_assoc stop.before (stop.next ∷ stop.later) (lines_behind_last draft))
            ∙ sym (lines_with-append first steps stop.before (stop.next ∷ (stop.later ++ lines_behind_last draft)))

        begun : Begins draft (lines_with first steps stop.before)
        begun = record {
          draft = record { first = kept_told first rules; steps = lines.may; last = stop.told; reason = tt };
          later = stop.next ∷ (stop.later ++ lines_behind_last draft);
          front = whole;
          first = λ le. rules;
          last = λ le. absurd (omega (arith, le, length-append stop.later (lines_behind_last draft)));
        }

    -- behind the last instance
    module _ (last : Synchronized) (behind_last : List ℕ) (rules_last : IsSynchronized last)
        (told_last : behind_steps ≡ text_of (instance_lines last) ++ behind_last) where
      -- a run with this end
      is_trace : (solved : Option Reason) → AreSmall (reason_numbers solved)
          → IsTrace (run_with first steps last solved)
      is_trace solved small =
          draft_trace (run_with first steps last solved)
          record {
            first = kept_told first rules;
            steps = lines.may;
            last = kept_told last rules_last;
            reason = small;
          }
          rules rules_last

      -- where no line tells how the run ended, the next line is at fault
      pub stop_at_end : ((r : Option Reason) (after : List ℕ) → AreSmall (reason_numbers r)
          → behind_last ≡ end_line r ++ 10 ∷ after → ⊥) → StopsInRun bytes behind_last
      stop_at_end none =
          stop_at bytes behind_last (lines_with first steps (instance_lines last))
          (text_with (instance_lines last) behind_last told_last) run (codes "solved") (codes "end" ∷ []) whole
          (trace_begins run (lines_with first steps (instance_lines last)) (lines_behind_last run) (is_trace None tt)
          whole)
          (only_end behind_last first last steps (kept_told first rules) (kept_told last rules_last) none)
        where
          run : Trace
          run = run_with first steps last None

          whole : trace_lines run ≡ lines_with first steps (instance_lines last) ++ codes "solved" ∷ codes "end" ∷ []
          whole = trace_grouped run ∙ sym (lines_with-append first steps (instance_lines last) (lines_behind_last run))

      -- behind the line that tells how the run ended
      module _ (solved : Option Reason) (behind_reason : List ℕ) (small : AreSmall (reason_numbers solved))
          (told_end : behind_last ≡ end_line solved ++ 10 ∷ behind_reason) where
        -- the text with that line
        text_to_end : (more : List (List ℕ)) (rest : List ℕ) → behind_reason ≡ text_of more ++ rest
            → bytes ≡ text_of (lines_with first steps (instance_lines last ++ end_line solved ∷ more)) ++ rest
        text_to_end more rest behind =
            text_with (instance_lines last ++ end_line solved ∷ more) rest
            (told_last ∙ ap (λ t. text_of (instance_lines last) ++ t)
            (told_end ∙ ap (λ t. end_line solved ++ 10 ∷ t) behind ∙ sym (text_headed (end_line solved) rest more))
            ∙ sym (text-append (instance_lines last) (end_line solved ∷ more) rest))

        -- where the line `end` does not stand there, the next line is at fault
        pub stop_at_last : ((after : List ℕ) → behind_reason ≡ codes "end" ++ 10 ∷ after → ⊥)
            → StopsInRun bytes behind_reason
        stop_at_last none =
            stop_at bytes behind_reason (lines_with first steps (instance_lines last ++ end_line solved ∷ []))
            (text_to_end [] behind_reason refl) run (codes "end") [] whole
            (trace_begins run (lines_with first steps (instance_lines last ++ end_line solved ∷ [])) (codes "end" ∷ [])
            (is_trace solved small) whole)
            (only_last behind_reason (end_line solved) first last steps (kept_told first rules)
            (kept_told last rules_last) none)
          where
            run : Trace
            run = run_with first steps last solved

            whole : trace_lines run
                ≡ lines_with first steps (instance_lines last ++ end_line solved ∷ []) ++ codes "end" ∷ []
            whole = trace_grouped run ∙ ap (lines_with first steps)
                (sym (append_assoc (instance_lines last) (end_line solved ∷ []) (codes "end" ∷ [])))
                ∙ sym (lines_with-append first steps (instance_lines last ++ end_line solved ∷ []) (codes "end" ∷ []))

        -- the text of the whole run, and what stands behind it
        run_text : (rest : List ℕ) → behind_reason ≡ codes "end" ++ 10 ∷ rest
            → bytes ≡ trace_text (run_with first steps last solved) ++ rest
        run_text rest end =
            text_to_end (codes "end" ∷ []) rest (end ∙ sym (text_headed (codes "end") rest []))
            ∙ ap (λ ls. text_of ls ++ rest) (sym (trace_grouped (run_with first steps last solved)))

        -- behind the line `end` each line is at fault
        pub stop_behind_end : (rest : List ℕ) → behind_reason ≡ codes "end" ++ 10 ∷ rest → (rest ≡ [] → ⊥)
            → StopsInRun bytes rest
        stop_behind_end rest end some =
            stop_behind bytes rest (run_with first steps last solved) (is_trace solved small) (run_text rest end) some

        -- and where nothing stands there, the bytes are the text of the run
        pub whole_run : (rest : List ℕ) → behind_reason ≡ codes "end" ++ 10 ∷ rest → rest ≡ []
            → IsTextOf bytes (run_with first steps last solved)
        whole_run rest end none = record {
          trace = is_trace solved small;
          spelled =
              run_text rest end ∙ ap (λ t. trace_text (run_with first steps last solved) ++ t) none
              ∙ append-nil (trace_text (run_with first steps last solved));
        }
