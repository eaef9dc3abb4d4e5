-- The fault of bytes that begin with no report: the place where their whole lines cease to be those of one.
use Rattle.std.specs.Prelude.{◌≡◌, ◌≢◌, ℕ, ◌+◌, List, [], ◌∷◌, ◌++◌, length}
use Rattle.std.specs.List.{AllByRecursion}
use Rattle.cp_report.specs.declared.kind.ReportKind.{ReportKind}
use Rattle.cp_report.specs.declared.kind.ReportKind.TheVariants.{NoHeading, NoVerdict, WrongLine, NoLine}
use Rattle.cp_report.specs.declared.report.Report.{Report}
use Rattle.cp_report.specs.declared.report.ReportFault.{ReportFault}
use Rattle.cp_report.specs.declared.report.ReportFault.TheVariants.{Bad, Memory}
use Rattle.cp_report.specs.Kinds.{report_number}
use Rattle.cp_report.specs.Texts.{report_lines, text_of, IsWithinLimits}

-- no line feed is among the bytes
abbrev pub IsLine : List ℕ → Type 0
IsLine bytes = AllByRecursion (λ byte. byte ≢ 10) bytes

-- the first lines of some report, without its last line
pub record IsBegun (lines : List (List ℕ)) : Type 0 where
  pub report : Report
  pub within : IsWithinLimits report
  pub next : List ℕ
  pub later : List (List ℕ)
  pub begins : report_lines report ≡ lines ++ next ∷ later

-- no report goes on with this line behind those lines
abbrev pub IsWrongBehind : List (List ℕ) → List ℕ → Type 0
IsWrongBehind lines line = (report : Report) (later : List (List ℕ)) → IsWithinLimits report
    → report_lines report ≡ lines ++ line ∷ later → ⊥

-- the kind by the lines that stand before: the heading is due, the verdict is due, or else late
abbrev pub kind_behind : List (List ℕ) → ReportKind → ReportKind
kind_behind [] late = NoHeading
kind_behind (heading ∷ []) late = NoVerdict
kind_behind (heading ∷ verdict ∷ lines) late = late

-- behind the lines comes a whole line with which they begin no report, or no whole line
pub data Breaks (lines : List (List ℕ)) (rest : List ℕ) (kind : ReportKind) : Type 0 where
  wrong : (line after : List ℕ) → IsLine line → rest ≡ line ++ 10 ∷ after → IsWrongBehind lines line
      → kind ≡ kind_behind lines WrongLine → Breaks lines rest kind
  missing : IsLine rest → kind ≡ kind_behind lines NoLine → Breaks lines rest kind

-- the bytes begin with whole lines that begin a report and are none, and break off behind them
pub record IsFaultOf (bytes : List ℕ) (kind : ReportKind) (line : ℕ) : Type 0 where
  pub before : List (List ℕ)
  pub rest : List ℕ
  pub front : bytes ≡ text_of before ++ rest
  pub begun : IsBegun before
  pub breaks : Breaks before rest kind
  pub place : line ≡ length before + 1

-- where the fault is one of the text, its number is that of a kind, of which with the line this is said
abbrev pub IfBad : ReportFault → (ReportKind → ℕ → Type 0) → Type 0
IfBad (Bad number line) Fault = (kind : ReportKind) × (number ≡ report_number kind) × Fault kind line
IfBad Memory Fault = Unit {0}
