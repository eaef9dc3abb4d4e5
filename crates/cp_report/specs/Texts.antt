-- The text of a report: one spelling each, line by line.
use Rattle.std.specs.Prelude.{◌≡◌, ℕ, ◌+◌, ◌/◌, ◌%◌, ◌^◌, ◌<◌, ◌≤◌, ◌==◌, cond, codes, List, [], ◌∷◌, ◌++◌, length, drop}
use Rattle.std.specs.List.{flat_map, AllByRecursion}
use Rattle.std.specs.Fmt.{decimal}
use Rattle.cp_cgraph.specs.declared.layout.Layout.{Layout}
use Rattle.cp_report.specs.declared.report.Report.{Report}
use Rattle.cp_report.specs.declared.report.Report.TheVariants.{Yes, No}

-- a dart: the number of its edge, and s for the end at the source or t for the end at the target
abbrev pub dart_text : ℕ → List ℕ
dart_text dart = decimal (dart / 2) ++ cond (dart % 2 == 0) 115 116 ∷ []

-- a line: key and number, a colon, and each item behind one blank
abbrev pub list_line : List ℕ → (ℕ → List ℕ) → ℕ → List ℕ → List ℕ
list_line key spelled number items = key ++ 32 ∷ decimal number ++ 58 ∷ flat_map (λ item. 32 ∷ spelled item) items

-- the rotation of node i
abbrev pub node_line : ℕ → List ℕ → List ℕ
node_line = list_line (codes "node") dart_text

-- the edges along the border of cluster k
abbrev pub cluster_line : ℕ → List ℕ → List ℕ
cluster_line = list_line (codes "cluster") decimal

-- a line for each list, numbered from the number on
abbrev pub numbered : (ℕ → List ℕ → List ℕ) → ℕ → List (List ℕ) → List (List ℕ)
numbered line number [] = []
numbered line number (items ∷ lists) = line number items ∷ numbered line (number + 1) lists

-- the lines of a report, without the line feeds that end them
abbrev pub report_lines : Report → List (List ℕ)
report_lines (Yes layout) = codes "cplan-report 1" ∷ codes "yes" ∷ numbered node_line 0 layout.nodes ++ numbered
    cluster_line 1 layout.clusters ++ codes "end" ∷ []
report_lines No = codes "cplan-report 1" ∷ codes "no" ∷ codes "end" ∷ []

-- each line, ended by a line feed
abbrev pub text_of : List (List ℕ) → List ℕ
text_of lines = flat_map (λ line. line ++ 10 ∷ []) lines

-- the text of a report
abbrev pub report_text : Report → List ℕ
report_text report = text_of (report_lines report)

-- each number that is printed is at most 4294967295
pub record IsLayoutWithinLimits (layout : Layout) : Type 0 where
  pub nodes : length layout.nodes ≤ 2 ^ 32
  pub darts : AllByRecursion (AllByRecursion (λ dart. dart < 2 ^ 33)) layout.nodes
  pub clusters : length layout.clusters < 2 ^ 32
  pub edges : AllByRecursion (AllByRecursion (λ edge. edge < 2 ^ 32)) layout.clusters

-- each number that is printed is within the limits
abbrev pub IsWithinLimits : Report → Type 0
IsWithinLimits (Yes layout) = IsLayoutWithinLimits layout
IsWithinLimits No = Unit {0}

-- the bytes begin with the text of the report, which is so long
pub record BeginsWith (bytes : List ℕ) (report : Report) (len : ℕ) : Type 0 where
  pub within : IsWithinLimits report
  pub whole : len ≡ length (report_text report)
  pub front : bytes ≡ report_text report ++ drop len bytes
