-- Where the lines of a run stop: which line may stand behind some of them.
use Rattle.std.proofs.Common.{◌≡◌, ℕ, codes, List, [], ◌∷◌, ◌++◌, map, refl, sym, ap, ◌∙◌, arith, append_assoc}
use Rattle.std.specs.Prelude.{Option, None}
use Rattle.std.specs.List.{AllByRecursion}
use Rattle.cp_board.specs.declared.steps.Reason.{Reason}
use Rattle.cp_board.specs.declared.steps.Step.{Step}
use Rattle.cp_board.specs.Instances.{Synchronized}
use Rattle.cp_trace.specs.declared.trace.Trace.{Trace}
use Rattle.cp_trace.specs.Faults.{AreAllowed, AreSmall, IsDraft, IsToldInstance, IsToldStep, lines_behind_first, lines_behind_last}
use Rattle.cp_trace.specs.Reading.{GoesNoFurther, StopsInInstance}
use Rattle.cp_trace.specs.Texts.{end_line, instance_lines, step_line, text_of, trace_lines}
use Rattle.cp_trace.specs.Traces.{reason_numbers}
use Rattle.cp_trace.proofs.InstanceLines.{Same, first_line, head_byte, lines_after, nothing, nothing_told}
use Rattle.cp_trace.proofs.RunLines.{head_of_step, instance_same, steps_compare, trace_grouped}
use Rattle.cp_trace.proofs.RunReads.{no_step_left}
use Rattle.cp_trace.proofs.ToldLists.{all_push}

-- the run between these instances by these steps, with this end
abbrev pub run_with : Synchronized → List Step → Synchronized → Option Reason → Trace
run_with first steps last solved = record { first = first; steps = steps; last = last; solved = solved }

-- no line yet is allowed
pub no_line_yet : AreAllowed []
no_line_yet = (
  run_with nothing [] nothing None,
  record {
    draft = record { first = nothing_told; steps = tt; last = nothing_told; reason = tt };
    later = trace_lines (run_with nothing [] nothing None);
    front = refl;
    first = λ le. absurd (omega (arith, le));
    last = λ le. absurd (omega (arith, le));
  },
)

-- the heading, and then these lines
abbrev pub headed : List (List ℕ) → List (List ℕ)
headed lines = codes "cplan-trace 1" ∷ lines

-- the heading, the first instance and the steps, and then these lines
abbrev pub lines_with : Synchronized → List Step → List (List ℕ) → List (List ℕ)
lines_with first steps lines = headed (instance_lines first ++ (map step_line steps ++ lines))

-- further lines stand behind those
pub lines_with-append : (i : Synchronized) (steps : List Step) (a b : List (List ℕ))
    → lines_with i steps a ++ b ≡ lines_with i steps (a ++ b)
lines_with-append i steps a b =
    ap headed (append_assoc (instance_lines i) (map step_line steps ++ a) b
    ∙ ap (λ ls. instance_lines i ++ ls) (append_assoc (map step_line steps) a b))

-- a line, and then further text
pub text_headed : (line rest : List ℕ) (lines : List (List ℕ)) → text_of (line ∷ lines) ++ rest
    ≡ line ++ 10 ∷ (text_of lines ++ rest)
text_headed line rest lines =
    append_assoc (line ++ 10 ∷ []) (text_of lines) rest ∙ append_assoc line (10 ∷ []) (text_of lines ++ rest)

-- a draft whose lines begin with the first instance and the steps has this first instance, and the other lines stand
-- behind some steps more
pub begun_alike : (s : Trace) (first : Synchronized) (steps : List Step) (x : List (List ℕ)) → IsDraft s
    → IsToldInstance first → trace_lines s ≡ lines_with first steps x
    → (s.first ≡ first) × ((more : List Step) × AllByRecursion IsToldStep more
    × (map step_line more ++ (instance_lines s.last ++ lines_behind_last s) ≡ x))
begun_alike s first steps x draft told h =
    let firsts = instance_same s.first first (lines_behind_first s) (map step_line steps ++ x) draft.first told
    (ap lines_after (sym (trace_grouped s) ∙ h)) in (
      firsts.0,
      steps_compare s.steps steps (instance_lines s.last ++ lines_behind_last s) x draft.steps
          (λ e. let f : Same 105 115 = e in omega arith) firsts.1,
    )

-- and one whose lines go on with the last instance ends with it, and the other lines tell how
pub ends_alike : (s : Trace) (first last : Synchronized) (steps : List Step) (x : List (List ℕ)) → IsDraft s
    → IsToldInstance first → IsToldInstance last → trace_lines s ≡ lines_with first steps (instance_lines last ++ x)
    → lines_behind_last s ≡ x
ends_alike s first last steps x draft told told_last h =
    let more = (begun_alike s first steps (instance_lines last ++ x) draft told h).1 in
    let none = no_step_left more.0 last (instance_lines s.last ++ lines_behind_last s) x more.2 in
    (instance_same s.last last (lines_behind_last s) x draft.last told_last none.1).1

-- behind no line the heading may stand alone
pub only_heading : (bytes : List ℕ) → ((after : List ℕ) → bytes ≡ codes "cplan-trace 1" ++ 10 ∷ after → ⊥)
    → (next after : List ℕ) → bytes ≡ next ++ 10 ∷ after → AreAllowed ([] ++ next ∷ []) → ⊥
only_heading bytes none next after cut (s, b) =
    let same : next ≡ codes "cplan-trace 1" = ap first_line (sym b.front ∙ trace_grouped s) in
    none after (cut ∙ ap (λ l. l ++ 10 ∷ after) same)

-- where no instance goes on behind the heading, no run does
pub stops_in_first : (text rest : List ℕ) (stop : StopsInInstance text rest) (next after : List ℕ)
    → rest ≡ next ++ 10 ∷ after → AreAllowed (headed stop.before ++ next ∷ []) → ⊥
stops_in_first text rest stop next after cut (s, b) =
    let lines : instance_lines s.first ++ lines_behind_first s ≡ stop.before ++ next ∷ b.later =
    ap lines_after (sym (trace_grouped s) ∙ b.front) ∙ append_assoc stop.before (next ∷ []) b.later in
    stop.stops s.first next after (lines_behind_first s) b.later b.draft.first cut lines b.first

-- a first line that is none of a further step, where steps go no further
no_step_more : (steps more : List Step) (text rest next after : List ℕ) (before later lines : List (List ℕ)) (i :
    Synchronized) (other : List ℕ) (others : List (List ℕ)) → AllByRecursion IsToldStep steps
    → GoesNoFurther step_line (AllByRecursion IsToldStep) steps text → text ≡ text_of before ++ rest
    → rest ≡ next ++ 10 ∷ after → instance_lines i ≡ before ++ other ∷ others → (m : Step) → IsToldStep m
    → map step_line (m ∷ more) ++ lines ≡ before ++ next ∷ later → ⊥
no_step_more steps more text rest next after [] later lines i other others told none front cut begun m small h =
    none m after (all_push IsToldStep steps m told small)
    (front ∙ cut ∙ ap (λ l. l ++ 10 ∷ after) (sym (ap first_line h)))
no_step_more steps more text rest next after (b ∷ before) later lines i other others told none front cut begun m small
    h =
    let same : step_line m ≡ codes "instance" = ap first_line h ∙ sym (ap first_line begun) in
    let f : Same 115 105 = sym (head_of_step m []) ∙ ap (λ l. head_byte (l ∷ [])) same in omega arith

-- where no instance goes on behind the steps, no run does
pub stops_in_last : (text rest : List ℕ) (stop : StopsInInstance text rest) (first : Synchronized) (steps : List Step)
    → IsToldInstance first → AllByRecursion IsToldStep steps
    → GoesNoFurther step_line (AllByRecursion IsToldStep) steps text
    → (next after : List ℕ) → rest ≡ next ++ 10 ∷ after → AreAllowed (lines_with first steps stop.before ++ next ∷ [])
    → ⊥
stops_in_last text rest stop first steps told told_steps none next after cut (s, b) =
    let lines : trace_lines s ≡ lines_with first steps (stop.before ++ next ∷ b.later) =
    b.front ∙ append_assoc (lines_with first steps stop.before) (next ∷ []) b.later
    ∙ lines_with-append first steps stop.before (next ∷ b.later) in
    let more = (begun_alike s first steps (stop.before ++ next ∷ b.later) b.draft told lines).1 in
    by_steps more.0 more.1 more.2
  where
    by_steps : (more : List Step) → AllByRecursion IsToldStep more
        → map step_line more ++ (instance_lines s.last ++ lines_behind_last s) ≡ stop.before ++ next ∷ b.later → ⊥
    by_steps [] small h = stop.stops s.last next after (lines_behind_last s) b.later b.draft.last cut h b.last
    by_steps (m ∷ more) small h =
        no_step_more steps more text rest next after stop.before b.later (instance_lines s.last ++ lines_behind_last s)
        stop.part stop.next stop.later told_steps none stop.front cut stop.begun m small.0 h

-- behind both instances stands the line that tells how the run ended
pub only_end : (bytes : List ℕ) (first last : Synchronized) (steps : List Step) → IsToldInstance first
    → IsToldInstance last
    → ((r : Option Reason) (after : List ℕ) → AreSmall (reason_numbers r) → bytes ≡ end_line r ++ 10 ∷ after → ⊥)
    → (next after : List ℕ) → bytes ≡ next ++ 10 ∷ after
    → AreAllowed (lines_with first steps (instance_lines last) ++ next ∷ []) → ⊥
only_end bytes first last steps told told_last none next after cut (s, b) =
    let lines : trace_lines s ≡ lines_with first steps (instance_lines last ++ next ∷ b.later) =
    b.front ∙ append_assoc (lines_with first steps (instance_lines last)) (next ∷ []) b.later
    ∙ lines_with-append first steps (instance_lines last) (next ∷ b.later) in
    let same : end_line s.solved ≡ next =
    ap first_line (ends_alike s first last steps (next ∷ b.later) b.draft told told_last lines) in
    none s.solved after b.draft.reason (cut ∙ ap (λ l. l ++ 10 ∷ after) (sym same))

-- and behind it the line `end`
pub only_last : (bytes line : List ℕ) (first last : Synchronized) (steps : List Step) → IsToldInstance first
    → IsToldInstance last → ((after : List ℕ) → bytes ≡ codes "end" ++ 10 ∷ after → ⊥)
    → (next after : List ℕ) → bytes ≡ next ++ 10 ∷ after
    → AreAllowed (lines_with first steps (instance_lines last ++ line ∷ []) ++ next ∷ []) → ⊥
only_last bytes line first last steps told told_last none next after cut (s, b) =
    let lines : trace_lines s ≡ lines_with first steps (instance_lines last ++ line ∷ next ∷ b.later) =
    b.front ∙ append_assoc (lines_with first steps (instance_lines last ++ line ∷ [])) (next ∷ []) b.later
    ∙ lines_with-append first steps (instance_lines last ++ line ∷ []) (next ∷ b.later)
    ∙ ap (lines_with first steps) (append_assoc (instance_lines last) (line ∷ []) (next ∷ b.later)) in
    let same : codes "end" ≡ next =
    ap (λ ls. first_line (lines_after ls))
    (ends_alike s first last steps (line ∷ next ∷ b.later) b.draft told told_last lines) in
    none after (cut ∙ ap (λ l. l ++ 10 ∷ after) (sym same))
