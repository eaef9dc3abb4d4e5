-- What a run may end with, and the text that it then writes.
use Rattle.std.specs.Prelude.{◌≡◌, ◌≢◌, ◌⊎◌, ◌≤◌, ℕ, List, [], ◌∷◌, length, drop, codes, get_or, Option, Some, None}
use Rattle.std.specs.List.{All}
use Rattle.cp_lists.specs.CyclicLists.{Has}
use Rattle.cp_cgraph.specs.Clustered.{Clustered}
use Rattle.cp_cgraph.specs.declared.layout.Layout.{Layout}
use Rattle.cp_gml.specs.Kinds.{grammar_name, grammar_number}
use Rattle.cp_gml.specs.Lists as lists
use Rattle.cp_gml.specs.declared.kind.GrammarKind.{GrammarKind}
use Rattle.cp_cgraph.specs.Kinds.{graph_name, graph_number}
use Rattle.cp_cgraph.specs.declared.kind.GraphKind.{GraphKind}
use Rattle.cp_report.specs.Kinds.{report_number}
use Rattle.cp_report.specs.declared.kind.ReportKind.{ReportKind}
use Rattle.cp_io.specs.Commands as commands
use Rattle.cp_io.specs.declared.command.Ends.{Ends}
use Rattle.cp_report.specs.declared.report.Report.{Report}
use Rattle.cp_report.specs.declared.report.Report.TheVariants.{Yes, No}
use Rattle.cp_report.specs.Texts.{BeginsWith, report_text}
use Rattle.cp_report.specs.Faults as reports
use Rattle.cp_cgraph.specs.GraphTexts.{IsGraphText, IsGraphFault}
use Rattle.cp_border.specs.Good.{IsGood, IsCPlanar}
use Rattle.cp_check.specs.Judging.{IsReason, IsGoodReport}
use Rattle.cp_board.specs.declared.steps.Reason.{Reason}
use Rattle.cp_board.specs.Instances.{Synchronized}
use Rattle.cp_board.specs.Reasons.{IsBlamed}
use Rattle.cp_board.specs.Runs.{IsDrivenRun, potential}
use Rattle.cp_skel.specs.Skeletons.{skeletons}
use Rattle.cp_trace.specs.declared.trace.Trace as told
use Rattle.cp_trace.specs.Traces.{IsTextOf}
use Rattle.cp_app.specs.Texts.{usage_line, bad_report_line, refused_line, accepted_line, rejected_line}
use Rattle.cp_check.specs.declared.verdict.Reject.{Reject}
use Rattle.cp_app.specs.declared.command.Asked.{Asked}
use Rattle.cp_app.specs.declared.command.Asked.TheVariants.{Check, Solve, Trace}
use Rattle.cp_app.specs.declared.end.End.{End}
use Rattle.cp_app.specs.declared.end.End.TheVariants as ends

-- the words are the one command `check`
abbrev pub IsCheck : List (List ℕ) → Type 0
IsCheck words = words ≡ codes "check" ∷ []

-- or the one command `solve`
abbrev pub IsSolve : List (List ℕ) → Type 0
IsSolve words = words ≡ codes "solve" ∷ []

-- or the one command `trace`
abbrev pub IsTrace : List (List ℕ) → Type 0
IsTrace words = words ≡ codes "trace" ∷ []

-- they are a command
abbrev pub IsCommand : List (List ℕ) → Type 0
IsCommand words = IsCheck words ⊎ (IsSolve words ⊎ IsTrace words)

-- the text is no list of keys and values, or says no graph: the end and the line of its first fault
pub data Refusal (text : List ℕ) : End → List ℕ → Type 0 where
  grammar : (kind : GrammarKind) (at : ℕ) → lists.IsFaultOf text kind at
      → Refusal text (ends.Refused (grammar_number kind) at) (refused_line (grammar_name kind) (grammar_number kind) at)
  graph : (kind : GraphKind) (at : ℕ) → IsGraphFault text kind at
      → Refusal text (ends.Refused (graph_number kind) at) (refused_line (graph_name kind) (graph_number kind) at)

-- what `check` answers to a report and the text behind it, by the first row that applies
pub data Judged (r : Report) (text : List ℕ) : End → List ℕ → Type 0 where
  refused : {end : End} {line : List ℕ} → Refusal text end line → Judged r text end line
  accepted : (g : Clustered) → IsGraphText text g → IsGoodReport g r → Judged r text ends.Accepted accepted_line
  rejected : (g : Clustered) → IsGraphText text g → (reason : Reject) → IsReason g r reason
      → Judged r text (ends.Rejected reason) (rejected_line reason)

-- what `check` answers to bytes: they begin with a report, or they have a fault as one
pub data Checked (bytes : List ℕ) : End → List ℕ → Type 0 where
  bad_report : (kind : ReportKind) (number : ℕ) → reports.IsFaultOf bytes kind number
      → Checked bytes (ends.BadReport (report_number kind) number) (bad_report_line (report_number kind) number)
  read : {end : End} {text : List ℕ} → (r : Report) (n : ℕ) → BeginsWith bytes r n → Judged r (drop n bytes) end text
      → Checked bytes end text

-- the list begins with its least item
abbrev pub BeginsLeast : List ℕ → Type 0
BeginsLeast xs = (x : ℕ) → Has x xs → get_or xs 0 x ≤ x

-- each list of the layout does
pub record AllBeginLeast (l : Layout) : Type 0 where
  pub nodes : All BeginsLeast l.nodes
  pub clusters : All BeginsLeast l.clusters

-- the report has a good layout whose lists begin with their least items, or it says no and there is no good layout
abbrev pub IsSolvedReport : Clustered → Report → Type 0
IsSolvedReport g No = ¬ IsCPlanar g
IsSolvedReport g (Yes l) = IsGood g l × AllBeginLeast l

-- the end that tells whether a report has a layout
abbrev pub end_of : Report → End
end_of No = ends.No
end_of (Yes l) = ends.Yes

-- what `solve` answers to the text of a graph, by the first row that applies
pub data Solved (text : List ℕ) : End → List ℕ → Type 0 where
  refused : {end : End} {line : List ℕ} → Refusal text end line → Solved text end line
  solved : (g : Clustered) → IsGraphText text g → (r : Report) → IsSolvedReport g r
      → Solved text (end_of r) (report_text r)

-- how a run ends: no pipe is left and the graph is c-planar, or the reason is to blame at the last instance and it is
-- not
abbrev pub IsEndOfRun : Clustered → Synchronized → Option Reason → Type 0
IsEndOfRun g last None = (last.pipes ≡ []) × IsCPlanar g
IsEndOfRun g last (Some reason) = IsBlamed last reason × ¬ IsCPlanar g

-- the run begins with the skeletons of the graph, each step is allowed and one that the solver may take, there are at
-- most as many steps as the sum of 3^d over the pipes of degree d of the skeletons, and it ends so
pub record IsRunOf (g : Clustered) (t : told.Trace) : Type 0 where
  pub first : t.first ≡ skeletons g
  pub driven : IsDrivenRun t.last t.first t.steps
  pub few : length t.steps ≤ potential (skeletons g)
  pub end : IsEndOfRun g t.last t.solved

-- the text is that of such a run
abbrev pub IsTraceOf : Clustered → List ℕ → Type 0
IsTraceOf g text = (t : told.Trace) × IsRunOf g t × IsTextOf text t

-- what `trace` answers to the text of a graph, by the first row that applies
pub data Traced (text : List ℕ) : End → List ℕ → Type 0 where
  refused : {end : End} {line : List ℕ} → Refusal text end line → Traced text end line
  traced : {lines : List ℕ} → (g : Clustered) → IsGraphText text g → IsTraceOf g lines → Traced text ends.Done lines

-- the words ask for this
abbrev pub Asks : List (List ℕ) → Asked → Type 0
Asks words Check = IsCheck words
Asks words Solve = IsSolve words
Asks words Trace = IsTrace words

-- the bytes are answered so
abbrev pub Answers : Asked → List ℕ → End → List ℕ → Type 0
Answers Check = Checked
Answers Solve = Solved
Answers Trace = Traced

-- the ends that all commands share
abbrev pub shared_ends : Ends End
shared_ends = record {
  usage = ends.Usage;
  too_long = ends.TooLong;
  read_fault = ends.ReadFault;
  write_fault =
      ends.WriteFault;
  memory = ends.Memory;
}

-- for these words and bytes the run may end so and write this text: the words ask for nothing, or the bytes are
-- too many, or what they ask for is answered so
abbrev pub Answer : List (List ℕ) → List ℕ → End → List ℕ → Type 0
Answer = commands.Answer Asks Answers shared_ends usage_line
