-- Words and bytes have at most one end, and one text but for a layout.
use Rattle.std.proofs.Common.{◌≡◌, ◌≢◌, ℕ, ◌≤◌, List, [], length, drop, get_or, ◌⊎◌, inl, inr, ⊎_elim, refl, sym, ap, ap₂, subst, ◌∙◌, arith}
use Rattle.cp_cgraph.specs.Clustered.{Clustered}
use Rattle.cp_cgraph.specs.GraphFaults as graphs
use Rattle.cp_cgraph.specs.GraphOf.{graph_of}
use Rattle.cp_cgraph.proofs.FaultLaw.{no_fault_in_graph, one_graph_fault}
use Rattle.cp_gml.specs.declared.kind.GrammarKind.{GrammarKind}
use Rattle.cp_cgraph.specs.declared.kind.GraphKind.{GraphKind}
use Rattle.cp_cgraph.specs.Kinds.{graph_name, graph_number}
use Rattle.cp_gml.specs.Kinds.{grammar_name, grammar_number}
use Rattle.cp_report.specs.Kinds.{report_number}
use Rattle.cp_gml.specs.Trees.{tree}
use Rattle.cp_gml.specs.Lists as lists
use Rattle.cp_gml.specs.declared.tree.Entry.{Entry}
use Rattle.cp_gml.proofs.Same.{same_entries}
use Rattle.cp_gml.proofs.Unique.{one_list, list_or_fault, one_fault}
use Rattle.cp_report.specs.declared.report.Report.{Report}
use Rattle.cp_report.specs.declared.report.Report.TheVariants.{Yes, No}
use Rattle.cp_report.specs.Texts.{report_text, BeginsWith}
use Rattle.cp_report.proofs.LawLemmas as laws
use Rattle.cp_cgraph.specs.GraphTexts.{IsGraphText, IsGraphFault}
use Rattle.cp_check.specs.Judging.{IsReason, IsGoodReport}
use Rattle.cp_check.proofs.Verdicts.{good_no_reason, one_reason}
use Rattle.cp_io.specs.Commands as commands
use Rattle.cp_io.specs.Commands.Answer.{usage, too_long, told}
use Rattle.cp_io.specs.Streams.{most_bytes}
use Rattle.cp_app.specs.Answer.{Answer, Checked, Judged, Refusal, Solved, Traced, IsCheck, IsSolve, IsTrace, IsCommand, IsSolvedReport, Asks, Answers, end_of, shared_ends}
use Rattle.cp_app.specs.Answer.Checked.{bad_report, read}
use Rattle.cp_app.specs.Answer.Judged.{refused, accepted, rejected}
use Rattle.cp_app.specs.Answer.Refusal.{grammar, graph}
use Rattle.cp_app.specs.Answer.Solved.{refused, solved}
use Rattle.cp_app.specs.Answer.Traced.{refused, traced}
use Rattle.cp_app.specs.Texts.{bad_report_line, refused_line, rejected_line}
use Rattle.cp_check.specs.declared.verdict.Reject.{Reject}
use Rattle.cp_app.specs.Run.{IsAnswer, IsJudged, IsSolvedEnd}
use Rattle.cp_app.specs.declared.command.Asked.{Asked}
use Rattle.cp_app.specs.declared.command.Asked.TheVariants.{Check, Solve, Trace}
use Rattle.cp_app.specs.declared.end.End.{End}
use Rattle.cp_app.specs.declared.end.End.TheVariants as ends

-- a text is one list of entries
one_entries : (text : List ℕ) (es fs : List Entry) → lists.IsListOf text (tree es) → lists.IsListOf text (tree fs)
    → es ≡ fs
one_entries text es fs a b = same_entries es fs (one_list text (tree es) (tree fs) a b)

-- and says one graph
one_graph_text : (text : List ℕ) (g h : Clustered) → IsGraphText text g → IsGraphText text h → g ≡ h
one_graph_text text g h a b = a.graph.says ∙ ap graph_of (one_entries text a.entries b.entries a.list b.list)
    ∙ sym b.graph.says

-- a text that says a graph has no fault
graph_no_fault : (text : List ℕ) (g : Clustered) (kind : GraphKind) (at : ℕ) → IsGraphText text g
    → IsGraphFault text kind at → ⊥
graph_no_fault text g kind at a b =
    let same = one_entries text b.entries a.entries b.list a.list in
    no_fault_in_graph (length text) a.entries g kind at a.graph (subst (λ es. graphs.IsFaultOf (length text) es kind at)
    same b.fault)

-- the first fault as a graph is one
one_text_fault : (text : List ℕ) (k : GraphKind) (a : ℕ) (l : GraphKind) (b : ℕ) → IsGraphFault text k a
    → IsGraphFault text l b → (k ≡ l) × (a ≡ b)
one_text_fault text k a l b x y =
    let same = one_entries text x.entries y.entries x.list y.list in
    one_graph_fault (length text) y.entries k a l b (subst (λ es. graphs.IsFaultOf (length text) es k a) same x.fault)
    y.fault

-- one kind and one offset give one end and one line
same_refusal : (K : Type 0) (name : K → List ℕ) (number : K → ℕ) (k : K) (a : ℕ) (l : K) (b : ℕ) → (k ≡ l) × (a ≡ b)
    → (ends.Refused (number k) a ≡ ends.Refused (number l) b)
    × (refused_line (name k) (number k) a ≡ refused_line (name l) (number l) b)
same_refusal K name number k a l b is =
    (ap₂ (λ x y. ends.Refused (number x) y) is.0 is.1, ap₂ (λ x y. refused_line (name x) (number x) y) is.0 is.1)

-- the first fault of a text gives one end and one line
one_refusal : (text : List ℕ) {e f : End} {s t : List ℕ} → Refusal text e s → Refusal text f t → (e ≡ f) × (s ≡ t)
one_refusal text (grammar k1 a1 is1) (grammar k2 a2 is2) =
    same_refusal GrammarKind grammar_name grammar_number k1 a1 k2 a2 (one_fault text k1 a1 k2 a2 is1 is2)
one_refusal text (grammar k1 a1 is1) (graph k2 a2 is2) =
    absurd (list_or_fault text (tree is2.entries) k1 a1 is2.list is1)
one_refusal text (graph k1 a1 is1) (grammar k2 a2 is2) =
    absurd (list_or_fault text (tree is1.entries) k2 a2 is1.list is2)
one_refusal text (graph k1 a1 is1) (graph k2 a2 is2) =
    same_refusal GraphKind graph_name graph_number k1 a1 k2 a2 (one_text_fault text k1 a1 k2 a2 is1 is2)

-- the text of a graph is not refused
graph_no_refusal : (text : List ℕ) (g : Clustered) → IsGraphText text g → {e : End} {s : List ℕ} → Refusal text e s → ⊥
graph_no_refusal text g is (grammar kind at fault) = list_or_fault text (tree is.entries) kind at is.list fault
graph_no_refusal text g is (graph kind at fault) = graph_no_fault text g kind at is fault

-- one reason gives one end and one line
same_rejection : (r : Report) (text : List ℕ) (g h : Clustered) → IsGraphText text g → IsGraphText text h
    → (a b : Reject) → IsReason g r a → IsReason h r b
    → (ends.Rejected a ≡ ends.Rejected b) × (rejected_line a ≡ rejected_line b)
same_rejection r text g h x y a b is other =
    let one = one_reason h r a b (subst (λ z. IsReason z r a) (one_graph_text text g h x y) is) other in
    (ap ends.Rejected one, ap rejected_line one)

-- what is accepted is not rejected
accepted_not_rejected : (r : Report) (text : List ℕ) (g h : Clustered) → IsGraphText text g → IsGraphText text h
    → (reason : Reject) → IsGoodReport g r → IsReason h r reason → ⊥
accepted_not_rejected r text g h x y reason good is =
    good_no_reason h r reason (subst (λ z. IsGoodReport z r) (one_graph_text text g h x y) good) is

-- a report and a text have one answer
one_judgement : (r : Report) (text : List ℕ) {e f : End} {s t : List ℕ} → Judged r text e s → Judged r text f t
    → (e ≡ f) × (s ≡ t)
one_judgement r text (refused a) (refused b) = one_refusal text a b
one_judgement r text (refused a) (accepted g2 is2 good2) = absurd (graph_no_refusal text g2 is2 a)
one_judgement r text (refused a) (rejected g2 is2 reason2 why2) = absurd (graph_no_refusal text g2 is2 a)
one_judgement r text (accepted g1 is1 good1) (refused b) = absurd (graph_no_refusal text g1 is1 b)
one_judgement r text (accepted g1 is1 good1) (accepted g2 is2 good2) = (refl, refl)
one_judgement r text (accepted g1 is1 good1) (rejected g2 is2 reason2 why2) =
    absurd (accepted_not_rejected r text g1 g2 is1 is2 reason2 good1 why2)
one_judgement r text (rejected g1 is1 reason1 why1) (refused b) = absurd (graph_no_refusal text g1 is1 b)
one_judgement r text (rejected g1 is1 reason1 why1) (accepted g2 is2 good2) =
    absurd (accepted_not_rejected r text g2 g1 is2 is1 reason1 good2 why1)
one_judgement r text (rejected g1 is1 reason1 why1) (rejected g2 is2 reason2 why2) =
    same_rejection r text g1 g2 is1 is2 reason1 reason2 why1 why2

-- bytes begin with one report of one length
one_report : (bytes : List ℕ) (r s : Report) (n m : ℕ) → BeginsWith bytes r n → BeginsWith bytes s m → (r ≡ s) × (n ≡ m)
one_report bytes r s n m a b =
    let same = (laws.same_reading r s (drop n bytes) (drop m bytes) a.within b.within (sym a.front ∙ b.front)).0 in
    (same, a.whole ∙ ap (λ x. length (report_text x)) same ∙ sym b.whole)

-- and have one answer
one_check : (bytes : List ℕ) {e f : End} {s t : List ℕ} → Checked bytes e s → Checked bytes f t → (e ≡ f) × (s ≡ t)
one_check bytes (bad_report k a is) (bad_report l b other) =
    let same = laws.one_fault bytes k a l b is other in (
      ap₂ (λ x y. ends.BadReport (report_number x) y) same.0 same.1,
      ap₂ (λ x y. bad_report_line (report_number x) y)
          same.0 same.1,
    )
one_check bytes (bad_report k a is) (read r n begins other) =
    absurd (laws.no_fault_in_report r (drop n bytes) bytes k a begins.within begins.front is)
one_check bytes (read r n begins is) (bad_report k a other) =
    absurd (laws.no_fault_in_report r (drop n bytes) bytes k a begins.within begins.front other)
one_check bytes (read {end = e} {text = line} r n begins is) (read r2 m begins2 other) =
    let same = one_report bytes r r2 n m begins begins2 in
    one_judgement r2 (drop m bytes) (subst (λ k. Judged r2 (drop k bytes) e line) same.1
    (subst (λ x. Judged x (drop n bytes) e line) same.0 is)) other

-- a graph that has a layout is not said to have none
same_report : (g : Clustered) (r q : Report) → IsSolvedReport g r → IsSolvedReport g q
    → (end_of r ≡ end_of q) × (end_of r ≢ ends.Yes → report_text r ≡ report_text q)
same_report g No No a b = (refl, λ other. refl)
same_report g No (Yes k) a b = absurd (a (k, b.0))
same_report g (Yes l) No a b = absurd (b (l, a.0))
same_report g (Yes l) (Yes k) a b = (refl, λ other. absurd (other refl))

-- a text has one answer, but for the layout
one_solution : (text : List ℕ) {e f : End} {s t : List ℕ} → Solved text e s → Solved text f t
    → (e ≡ f) × (e ≢ ends.Yes → s ≡ t)
one_solution text (refused a) (refused b) = let same = one_refusal text a b in (same.0, λ other. same.1)
one_solution text (refused a) (solved h is2 q b) = absurd (graph_no_refusal text h is2 a)
one_solution text (solved g is1 r a) (refused b) = absurd (graph_no_refusal text g is1 b)
one_solution text (solved g is1 r a) (solved h is2 q b) =
    same_report h r q (subst (λ x. IsSolvedReport x r) (one_graph_text text g h is1 is2) a) b

-- a text has one end as a trace, and one line where it has none
one_trace : (text : List ℕ) {e f : End} {s t : List ℕ} → Traced text e s → Traced text f t
    → (e ≡ f) × (e ≢ ends.Done → s ≡ t)
one_trace text (refused a) (refused b) = let same = one_refusal text a b in (same.0, λ other. same.1)
one_trace text (refused a) (traced h is2 t2) = absurd (graph_no_refusal text h is2 a)
one_trace text (traced g is1 t1) (refused b) = absurd (graph_no_refusal text g is1 b)
one_trace text (traced g is1 t1) (traced h is2 t2) = (refl, λ other. absurd (other refl))

-- words that are no command ask for nothing
pub asks_nothing : (words : List (List ℕ)) → ¬ IsCommand words → (a : Asked) → ¬ Asks words a
asks_nothing words none Check asks = none (inl asks)
asks_nothing words none Solve asks = none (inr (inl asks))
asks_nothing words none Trace asks = none (inr (inr asks))

-- words that are a command ask for it
pub asks_something : (words : List (List ℕ)) → IsCommand words → (a : Asked) × Asks words a
asks_something words is =
    ⊎_elim
    (λ check. (Check, check))
    (λ others. ⊎_elim (λ solve. (Solve, solve)) (λ trace. (Trace, trace)) others)
    is

-- no words are both commands
not_both : (words : List (List ℕ)) → IsCheck words → IsSolve words → ⊥
not_both words check solve =
    let first : 99 ≡ 115 = ap (λ ws. get_or (get_or ws 0 []) 0 0) (sym check ∙ solve) in omega (arith, first)

-- nor `check` and `trace`
not_check_trace : (words : List (List ℕ)) → IsCheck words → IsTrace words → ⊥
not_check_trace words check trace =
    let first : 99 ≡ 116 = ap (λ ws. get_or (get_or ws 0 []) 0 0) (sym check ∙ trace) in omega (arith, first)

-- nor `solve` and `trace`
not_solve_trace : (words : List (List ℕ)) → IsSolve words → IsTrace words → ⊥
not_solve_trace words solve trace =
    let first : 115 ≡ 116 = ap (λ ws. get_or (get_or ws 0 []) 0 0) (sym solve ∙ trace) in omega (arith, first)

-- words and bytes allow one end, and one text but for a layout and a trace
pub one_end : (words : List (List ℕ)) (bytes : List ℕ) {e f : End} {s t : List ℕ} → Answer words bytes e s
    → Answer words bytes f t → (e ≡ f) × (e ≢ ends.Yes → e ≢ ends.Done → s ≡ t)
one_end words bytes (usage n1) (usage n2) = (refl, λ no other. refl)
one_end words bytes (usage n1) (too_long a2 w2 m2) = absurd (n1 a2 w2)
one_end words bytes (usage n1) (told a2 w2 k2 is2) = absurd (n1 a2 w2)
one_end words bytes (too_long a1 w1 m1) (usage n2) = absurd (n2 a1 w1)
one_end words bytes (too_long a1 w1 m1) (too_long a2 w2 m2) = (refl, λ no other. refl)
one_end words bytes (too_long a1 w1 m1) (told a2 w2 k2 is2) = absurd (omega (arith, m1, k2))
one_end words bytes (told a1 w1 k1 is1) (usage n2) = absurd (n2 a1 w1)
one_end words bytes (told a1 w1 k1 is1) (too_long a2 w2 m2) = absurd (omega (arith, m2, k1))
one_end words bytes (told Check w1 k1 is1) (told Check w2 k2 is2) =
    let same = one_check bytes is1 is2 in (same.0, λ no other. same.1)
one_end words bytes (told Check w1 k1 is1) (told Solve w2 k2 is2) = absurd (not_both words w1 w2)
one_end words bytes (told Solve w1 k1 is1) (told Check w2 k2 is2) = absurd (not_both words w2 w1)
one_end words bytes (told Solve w1 k1 is1) (told Solve w2 k2 is2) =
    let same = one_solution bytes is1 is2 in (same.0, λ no other. same.1 no)
one_end words bytes (told Check w1 k1 is1) (told Trace w2 k2 is2) = absurd (not_check_trace words w1 w2)
one_end words bytes (told Solve w1 k1 is1) (told Trace w2 k2 is2) = absurd (not_solve_trace words w1 w2)
one_end words bytes (told Trace w1 k1 is1) (told Check w2 k2 is2) = absurd (not_check_trace words w2 w1)
one_end words bytes (told Trace w1 k1 is1) (told Solve w2 k2 is2) = absurd (not_solve_trace words w2 w1)
one_end words bytes (told Trace w1 k1 is1) (told Trace w2 k2 is2) =
    let same = one_trace bytes is1 is2 in (same.0, λ no other. same.1 other)

-- a refusal is none of the ends that all commands share
own_refusal : (text : List ℕ) {end : End} {line : List ℕ} → Refusal text end line → commands.IsOwn shared_ends end
own_refusal text (grammar kind at is) =
    record { usage = λ e. cc; too_long = λ e. cc; read = λ e. cc; write = λ e. cc; memory = λ e. cc }
own_refusal text (graph kind at is) =
    record { usage = λ e. cc; too_long = λ e. cc; read = λ e. cc; write = λ e. cc; memory = λ e. cc }

-- nor is what is judged behind a report
own_judged : (r : Report) (text : List ℕ) {end : End} {line : List ℕ} → Judged r text end line
    → commands.IsOwn shared_ends end
own_judged r text (refused is) = own_refusal text is
own_judged r text (accepted g is good) =
    record { usage = λ e. cc; too_long = λ e. cc; read = λ e. cc; write = λ e. cc; memory = λ e. cc }
own_judged r text (rejected g is reason why) =
    record { usage = λ e. cc; too_long = λ e. cc; read = λ e. cc; write = λ e. cc; memory = λ e. cc }

-- nor is the end of a report
own_report : (r : Report) → commands.IsOwn shared_ends (end_of r)
own_report No = record { usage = λ e. cc; too_long = λ e. cc; read = λ e. cc; write = λ e. cc; memory = λ e. cc }
own_report (Yes l) = record { usage = λ e. cc; too_long = λ e. cc; read = λ e. cc; write = λ e. cc; memory = λ e. cc }

-- no command answers with an end that all commands share
pub own_answers : (a : Asked) (bytes : List ℕ) (end : End) (text : List ℕ) → Answers a bytes end text
    → commands.IsOwn shared_ends end
own_answers Check bytes end text (bad_report kind number is) =
    record { usage = λ e. cc; too_long = λ e. cc; read = λ e. cc; write = λ e. cc; memory = λ e. cc }
own_answers Check bytes end text (read r n begins is) = own_judged r (drop n bytes) is
own_answers Solve bytes end text (refused is) = own_refusal bytes is
own_answers Solve bytes end text (solved g is r a) = own_report r
own_answers Trace bytes end text (refused is) = own_refusal bytes is
own_answers Trace bytes end text (traced g is t) =
    record { usage = λ e. cc; too_long = λ e. cc; read = λ e. cc; write = λ e. cc; memory = λ e. cc }

-- the ends that all commands share differ
pub shared_apart : commands.AreApart shared_ends
shared_apart = record {
  usage = record { read = λ e. cc; write = λ e. cc; memory = λ e. cc };
  too_long = record { read = λ e. cc; write = λ e. cc; memory = λ e. cc };
  not_too_long = λ e. cc;
  read_write = λ e. cc;
  read_memory = λ e. cc;
  write_memory = λ e. cc;
}

-- a report and the text of a graph are judged
judged_graph : (r : Report) (text : List ℕ) (g : Clustered) → IsGraphText text g → {end : End} {line : List ℕ}
    → Judged r text end line → IsJudged end
judged_graph r text g is (refused fault) = absurd (graph_no_refusal text g is fault)
judged_graph r text g is (accepted h other good) = inl refl
judged_graph r text g is (rejected h other reason why) = inr (reason, refl)

-- bytes of a report and a graph are judged
judged_bytes : (bytes : List ℕ) (r : Report) (n : ℕ) (g : Clustered) → BeginsWith bytes r n
    → IsGraphText (drop n bytes) g
    → {end : End} {text : List ℕ} → Checked bytes end text → IsJudged end
judged_bytes bytes r n g begins is (bad_report kind number fault) =
    absurd (laws.no_fault_in_report r (drop n bytes) bytes kind number begins.within begins.front fault)
judged_bytes bytes r n g begins is (read s m begins2 judged) =
    let same = one_report bytes r s n m begins begins2 in
    judged_graph s (drop m bytes) g (subst (λ k. IsGraphText (drop k bytes) g) same.1 is) judged

-- `check` judges bytes of a report and a graph
pub judged_answer : (words : List (List ℕ)) (bytes : List ℕ) (r : Report) (n : ℕ) (g : Clustered) → IsCheck words
    → length bytes ≤ most_bytes
    → BeginsWith bytes r n → IsGraphText (drop n bytes) g → {end : End} {text : List ℕ} → Answer words bytes end text
    → IsJudged end
judged_answer words bytes r n g check short begins is (usage none) = absurd (none Check check)
judged_answer words bytes r n g check short begins is (too_long a asks long) = absurd (omega (arith, short, long))
judged_answer words bytes r n g check short begins is (told Check asks k checked) =
    judged_bytes bytes r n g begins is checked
judged_answer words bytes r n g check short begins is (told Solve asks k other) = absurd (not_both words check asks)
judged_answer words bytes r n g check short begins is (told Trace asks k other) =
    absurd (not_check_trace words check asks)

-- the end of a report tells whether there is a layout
solved_report : (r : Report) → IsSolvedEnd (end_of r)
solved_report No = inr refl
solved_report (Yes l) = inl refl

-- the text of a graph is solved
solved_graph : (text : List ℕ) (g : Clustered) → IsGraphText text g → {end : End} {line : List ℕ}
    → Solved text end line → IsSolvedEnd end
solved_graph text g is (refused fault) = absurd (graph_no_refusal text g is fault)
solved_graph text g is (solved h other r a) = solved_report r

-- `solve` solves it
pub solved_answer : (words : List (List ℕ)) (bytes : List ℕ) (g : Clustered) → IsSolve words
    → length bytes ≤ most_bytes → IsGraphText bytes g → {end : End} {text : List ℕ}
    → Answer words bytes end text → IsSolvedEnd end
solved_answer words bytes g solve short is (usage nothing) = absurd (nothing Solve solve)
solved_answer words bytes g solve short is (too_long a asks long) = absurd (omega (arith, short, long))
solved_answer words bytes g solve short is (told Check asks k checked) = absurd (not_both words asks solve)
solved_answer words bytes g solve short is (told Solve asks k answer) = solved_graph bytes g is answer
solved_answer words bytes g solve short is (told Trace asks k other) = absurd (not_solve_trace words solve asks)

-- the text of a graph has a trace
traced_graph : (text : List ℕ) (g : Clustered) → IsGraphText text g → {end : End} {line : List ℕ}
    → Traced text end line → end ≡ ends.Done
traced_graph text g is (refused fault) = absurd (graph_no_refusal text g is fault)
traced_graph text g is (traced h other t) = refl

-- `trace` tells it
pub traced_answer : (words : List (List ℕ)) (bytes : List ℕ) (g : Clustered) → IsTrace words
    → length bytes ≤ most_bytes → IsGraphText bytes g → {end : End} {text : List ℕ}
    → Answer words bytes end text → end ≡ ends.Done
traced_answer words bytes g trace short is (usage nothing) = absurd (nothing Trace trace)
traced_answer words bytes g trace short is (too_long a asks long) = absurd (omega (arith, short, long))
traced_answer words bytes g trace short is (told Check asks k checked) = absurd (not_check_trace words asks trace)
traced_answer words bytes g trace short is (told Solve asks k other) = absurd (not_solve_trace words asks trace)
traced_answer words bytes g trace short is (told Trace asks k answer) = traced_graph bytes g is answer

-- an end that no device caused is an answer or want of memory
pub answer_or_memory : (P : End → Type 0) (end : End) → ¬ (end ≡ ends.ReadFault) → ¬ (end ≡ ends.WriteFault)
    → (IsAnswer end → P end) → P end ⊎ (end ≡ ends.Memory)
answer_or_memory P ends.Memory calm_source calm_sink answer = inr refl
answer_or_memory P ends.ReadFault calm_source calm_sink answer = absurd (calm_source refl)
answer_or_memory P ends.WriteFault calm_source calm_sink answer = absurd (calm_sink refl)
answer_or_memory P ends.Yes calm_source calm_sink answer =
    inl (answer record { read = λ e. cc; write = λ e. cc; memory = λ e. cc })
answer_or_memory P ends.No calm_source calm_sink answer =
    inl (answer record { read = λ e. cc; write = λ e. cc; memory = λ e. cc })
answer_or_memory P ends.Accepted calm_source calm_sink answer =
    inl (answer record { read = λ e. cc; write = λ e. cc; memory = λ e. cc })
answer_or_memory P (ends.Rejected reason) calm_source calm_sink answer =
    inl (answer record { read = λ e. cc; write = λ e. cc; memory = λ e. cc })
answer_or_memory P ends.Done calm_source calm_sink answer =
    inl (answer record { read = λ e. cc; write = λ e. cc; memory = λ e. cc })
answer_or_memory P (ends.Refused kind at) calm_source calm_sink answer =
    inl (answer record { read = λ e. cc; write = λ e. cc; memory = λ e. cc })
answer_or_memory P (ends.BadReport kind line) calm_source calm_sink answer =
    inl (answer record { read = λ e. cc; write = λ e. cc; memory = λ e. cc })
answer_or_memory P ends.Usage calm_source calm_sink answer =
    inl (answer record { read = λ e. cc; write = λ e. cc; memory = λ e. cc })
answer_or_memory P ends.TooLong calm_source calm_sink answer =
    inl (answer record { read = λ e. cc; write = λ e. cc; memory = λ e. cc })
