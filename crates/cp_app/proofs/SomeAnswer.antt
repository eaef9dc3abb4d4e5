-- No words and bytes are without an end and a text.
use Rattle.std.proofs.Common.{ℕ, List, length, drop, ◌⊎◌, inl, inr, ⊎_elim}
use Rattle.std.proofs.lemmas.Bool.{cases_lt}
use Rattle.cp_cgraph.specs.Clustered.{Clustered}
use Rattle.cp_cgraph.specs.GraphTexts.{IsGraphText}
use Rattle.cp_cgraph.proofs.FaultLaw.{graph_or_fault}
use Rattle.cp_gml.proofs.Outcomes.{some_entries}
use Rattle.cp_gml.specs.Kinds.{grammar_name, grammar_number}
use Rattle.cp_cgraph.specs.Kinds.{graph_name, graph_number}
use Rattle.cp_report.specs.Kinds.{report_number}
use Rattle.cp_io.specs.Commands.Answer.{usage, too_long, told}
use Rattle.cp_io.specs.Streams.{most_bytes}
use Rattle.cp_report.specs.declared.report.Report.{Report}
use Rattle.cp_report.specs.declared.report.Report.TheVariants.{Yes, No}
use Rattle.cp_report.specs.Texts.{report_text}
use Rattle.cp_skel.specs.SolutionLayouts.{from_least}
use Rattle.cp_report.proofs.Outcomes.{some_reading}
use Rattle.cp_check.proofs.Outcomes.{some_verdict}
use Rattle.cp_app.specs.Answer.{Answer, Checked, Judged, IsTrace, IsTraceOf, Refusal, Solved, Traced}
use Rattle.cp_app.specs.Answer.Checked.{bad_report, read}
use Rattle.cp_app.specs.Answer.Judged.{refused, accepted, rejected}
use Rattle.cp_app.specs.Answer.Refusal.{grammar, graph}
use Rattle.cp_app.specs.Answer.Solved.{refused, solved}
use Rattle.cp_app.specs.Answer.Traced.{refused, traced}
use Rattle.cp_app.specs.Texts.{usage_line, bad_report_line, refused_line, accepted_line, rejected_line}
use Rattle.cp_app.specs.declared.command.Asked.TheVariants.{Check, Solve, Trace}
use Rattle.cp_app.specs.declared.end.End.{End}
use Rattle.cp_app.specs.declared.end.End.TheVariants as ends
use Rattle.cp_app.proofs.AnswerLemmas.{asks_nothing, asks_something}
use Rattle.cp_app.proofs.LeastLayouts.{IsClustered-text, from_least-AllBeginLeast, least-IsGood}

-- a text is a graph or refused
graph_or_refusal : (text : List ℕ) → ((g : Clustered) × IsGraphText text g)
    ⊎ ((end : End) × (line : List ℕ) × Refusal text end line)
graph_or_refusal text =
    ⊎_elim
    (λ list.
    ⊎_elim
    (λ says. inl (says.0, record { entries = list.0; list = list.1; graph = says.1 }))
    (λ fault. inr (
      ends.Refused (graph_number fault.0) fault.1,
      refused_line (graph_name fault.0) (graph_number fault.0) fault.1,
      graph fault.0 fault.1 record { entries = list.0; list = list.1; fault = fault.2 },
    ))
    (graph_or_fault (length text) list.0))
    (λ fault. inr (
      ends.Refused (grammar_number fault.0) fault.1,
      refused_line (grammar_name fault.0) (grammar_number fault.0) fault.1,
      grammar fault.0 fault.1 fault.2,
    ))
    (some_entries text)

-- a report and the text of a graph are judged
some_graph_judgement : (r : Report) (text : List ℕ) (g : Clustered) → IsGraphText text g
    → ((end : End) (line : List ℕ) → Judged r text end line → ⊥) → ⊥
some_graph_judgement r text g is none =
    some_verdict g r
    (λ good. none ends.Accepted accepted_line (accepted g is good))
    (λ reason why. none (ends.Rejected reason) (rejected_line reason) (rejected g is reason why))

-- a report and any text are judged
some_judgement : (r : Report) (text : List ℕ) → ((end : End) (line : List ℕ) → Judged r text end line → ⊥) → ⊥
some_judgement r text none =
    ⊎_elim
    (λ says. some_graph_judgement r text says.0 says.1 none)
    (λ fault. none fault.0 fault.1 (refused fault.2))
    (graph_or_refusal text)

-- the text of a graph is answered
some_graph_answer : (text : List ℕ) (g : Clustered) → IsGraphText text g
    → ((end : End) (line : List ℕ) → Solved text end line → ⊥) → ⊥
some_graph_answer text g is none =
    none ends.No (report_text No) (solved g is No (λ planar.
    none ends.Yes (report_text (Yes (from_least planar.0)))
    (solved g is (Yes (from_least planar.0))
    (least-IsGood g planar.0 (IsClustered-text text g is) planar.1, from_least-AllBeginLeast planar.0))))

-- `solve` answers all bytes
some_solution : (text : List ℕ) → ((end : End) (line : List ℕ) → Solved text end line → ⊥) → ⊥
some_solution text none =
    ⊎_elim
    (λ says. some_graph_answer text says.0 says.1 none)
    (λ fault. none fault.0 fault.1 (refused fault.2))
    (graph_or_refusal text)

-- `trace` answers all bytes, where a graph that they say has a run
some_trace : (text : List ℕ)
    → ((g : Clustered) → IsGraphText text g → ¬ ((lines : List ℕ) × IsTraceOf g lines) → ⊥)
    → ((end : End) (line : List ℕ) → Traced text end line → ⊥) → ⊥
some_trace text runs none =
    ⊎_elim
    (λ says. runs says.0 says.1 (λ run. none ends.Done run.0 (traced says.0 says.1 run.1)))
    (λ fault. none fault.0 fault.1 (refused fault.2))
    (graph_or_refusal text)

-- `check` answers all bytes
some_check : (bytes : List ℕ) → ((end : End) (text : List ℕ) → Checked bytes end text → ⊥) → ⊥
some_check bytes none =
    some_reading bytes
    (λ reading.
    ⊎_elim
    (λ begins. some_judgement begins.0 (drop begins.1 bytes) (λ end text is. none end text
    (read begins.0 begins.1 begins.2 is)))
    (λ fault. none (ends.BadReport (report_number fault.0) fault.1) (bad_report_line (report_number fault.0) fault.1)
    (bad_report fault.0 fault.1 fault.2))
    reading)

-- no words and bytes are without an end and a text, where for `trace` a graph that they say has a run
pub some_answer : (words : List (List ℕ)) (bytes : List ℕ)
    → (IsTrace words → (g : Clustered) → IsGraphText bytes g → ¬ ((lines : List ℕ) × IsTraceOf g lines) → ⊥)
    → ((end : End) (text : List ℕ) → Answer words bytes end text → ⊥) → ⊥
some_answer words bytes runs none =
    none ends.Usage usage_line (usage (asks_nothing words (λ command.
    ⊎_elim
    (λ long. let asked = asks_something words command in none ends.TooLong _ (too_long asked.0 asked.1 long))
    (λ short. ⊎_elim
    (λ check. some_check bytes (λ end text is. none end text (told Check check short is)))
    (λ others. ⊎_elim
    (λ solve. some_solution bytes (λ end text is. none end text (told Solve solve short is)))
    (λ trace. some_trace bytes (runs trace) (λ end text is. none end text (told Trace trace short is)))
    others)
    command)
    (cases_lt most_bytes (length bytes)))))
